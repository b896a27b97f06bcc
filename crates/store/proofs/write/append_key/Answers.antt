-- `store::write::append_key` meets its contract: what the lookup found makes the plan, which lies in the image and is carried out.
-- Assumes nothing.
use mathlib.Core.Path.{refl, sym, ◌∙◌, ap}
use Rattle.std.proofs.lemmas.Result.{err_from_is_err_and}
use Rattle.store.specs.Write.{Done, append_of}
use Rattle.store.proofs.Ends.{append_allowed, append_is, append_fits}
use Rattle.store.proofs.write.append_key.Goals as goal

pub returns-in_err-first_refusal : goal.returns-in_err-first_refusal
unfolding append_of
returns-in_err-first_refusal c =
    let p = err_from_is_err_and c.from_residual.result c.from_residual.ensures.1 in
    rw (p.1, p.2, sym c.in_err-first_refusal.ensures) (refl, refl)

pub invariant_of-chip : goal.invariant_of-chip
invariant_of-chip c = let a = c.args in record { fits = (append_allowed a.image.now a.s a.n a.key a.value.now (sym c.in_ok-first_refusal.ensures)).0 }

pub carry_out-requires : goal.carry_out-requires
carry_out-requires c =
    let a = c.args in
    let passed = sym c.in_ok-first_refusal.ensures in
    let (f, short) = append_allowed a.image.now a.s a.n a.key a.value.now passed in
    (f, short, append_fits a.image.now a.s a.n a.key a.value.now passed c.look_up-looked.ensures c.append_plan-plan.ensures)

pub returns : goal.returns
returns c =
    let a = c.args in
    let done = append_is a.image.now a.s a.n a.key a.value.now (sym c.in_ok-first_refusal.ensures) c.look_up-looked.ensures c.append_plan-plan.ensures in
    let (answer, image) = c.carry_out.ensures in
    (answer ∙ ap (λ (x : Done). x.answer) done, image ∙ ap (λ (x : Done). x.image) done)
