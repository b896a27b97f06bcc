-- `store::write::remove` meets its contract: the record that is found makes the plan, which lies in the image and is carried out.
-- Assumes nothing.
use native.Mathlib.Omega.{arith}
use mathlib.Core.Path.{refl, sym, ◌∙◌, ap}
use Rattle.std.proofs.lemmas.Result.{err_from_is_err_and}
use Rattle.plans.specs.Writes.{applied}
use Rattle.store.specs.Write.{Done, remove_of}
use Rattle.store.proofs.Ends.{remove_is, remove_fits}
use Rattle.store.proofs.write.remove.Goals as goal

pub returns-in_err-hit : goal.returns-in_err-hit
unfolding remove_of applied
returns-in_err-hit c =
    let p = err_from_is_err_and c.from_residual.result c.from_residual.ensures.1 in
    rw (p.1, p.2, sym c.in_err-hit.ensures) (refl, refl)

pub carry_out-requires : goal.carry_out-requires
carry_out-requires c =
    let a = c.args in
    let (f, fits) = remove_fits a.how a.image.now a.s a.n a.key c.in_ok-hit.ensures c.remove_plan-plan.ensures refl in
    (f, omega arith, fits)

pub returns : goal.returns
returns c =
    let a = c.args in
    let done = remove_is a.how a.image.now a.s a.n a.key c.in_ok-hit.ensures c.remove_plan-plan.ensures in
    let (answer, image) = c.carry_out.ensures in
    (answer ∙ ap (λ (x : Done). x.answer) done, image ∙ ap (λ (x : Done). x.image) done)
