-- `store::read::get_key` meets its contract: the record that is found is read where it stands.
-- Assumes nothing.
use Prim.Native.Nat.{ℕ}
use mathlib.Core.Path.{refl, ◌∙◌, ap}
use mathlib.Core.List.{List}
use lib.ListN.{length}
use Rattle.std.proofs.lemmas.Result.{err_from_is_err_and}
use Rattle.values.specs.Values.{read_answer, read_buffer}
use Rattle.store.specs.Read.{get_of}
use Rattle.store.proofs.read.get_key.Goals as goal

pub returns-in_err-found : goal.returns-in_err-found
unfolding get_of
returns-in_err-found c =
    let p = err_from_is_err_and c.from_residual.result c.from_residual.ensures.1 in
    rw (p.1, p.2, c.in_err-found.ensures.refused) (refl, refl)

pub returns : goal.returns
unfolding get_of
returns c =
    let e = c.in_ok-found.ensures in
    let x = c.in_ok-found.found.standing.rec in
    let buffer = c.args.buffer.now in
    rw e.found (
      c.read_answer.ensures ∙ ap (λ (region : List ℕ). read_answer region x (length buffer)) e.region,
      c.copy_value.ensures ∙ ap (λ (region : List ℕ). read_buffer region x buffer) e.region,
    )
