-- `lookup::turns::find_key` meets its contract: the refusals come in their order, and then the lookup's end.
-- Assumes nothing.
use mathlib.Core.Path.{sym, ◌∙◌, ap}
use Rattle.std.proofs.lemmas.Result.{err_from_is_err_and}
use Rattle.lookup.specs.Turns.{hit_by, hit_of}
use Rattle.lookup.proofs.Scan.{fine}
use Rattle.lookup.proofs.turns.find_key.Goals as goal

pub returns-in_err-first_refusal : goal.returns-in_err-first_refusal
unfolding hit_of
returns-in_err-first_refusal c =
    let p = err_from_is_err_and c.from_residual.result c.from_residual.ensures.1 in rw (p.1, p.2, sym c.in_err-first_refusal.ensures)

pub invariant_of-chip : goal.invariant_of-chip
invariant_of-chip c = let a = c.args in record { fits = (fine a.image.now a.s a.n a.key 0 (sym c.in_ok-first_refusal.ensures)).0 }

pub returns : goal.returns
unfolding hit_of
returns c = rw (sym c.in_ok-first_refusal.ensures) (c.hit.ensures ∙ ap hit_by c.look_up-looked.ensures)
