-- `lending::find_value` meets its contract: the record that is found is located in its region.
-- Assumes nothing.
use Prim.Native.Nat.{ℕ, ◌*◌}
use mathlib.Core.Path.{◌∙◌, ap}
use mathlib.Core.List.{List}
use Rattle.std.proofs.lemmas.Result.{err_from_is_err_and}
use Rattle.lending.specs.Lending.{located_in, located_of}
use Rattle.lending.proofs.find_value.Goals as goal

pub returns-in_err-found : goal.returns-in_err-found
unfolding located_of
returns-in_err-found c =
    let p = err_from_is_err_and c.from_residual.result c.from_residual.ensures.1 in rw (p.1, p.2, c.in_err-found.ensures.refused)

pub returns : goal.returns
unfolding located_of
returns c =
    let f = c.in_ok-found.found in
    let e = c.in_ok-found.ensures in
    rw e.found (
    c.locate.ensures
    ∙ ap (λ (m : ℕ). located_in f.standing.region.now (f.region * m) f.standing.rec) e.size
    ∙ ap (λ (region : List ℕ). located_in region (f.region * c.args.s) f.standing.rec) e.region
    )
