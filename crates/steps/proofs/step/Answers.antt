-- `steps::step` meets its contract: a call that does not fit is BadCall, and else the plan goes on and its next edit is laid.
-- Assumes nothing.
use mathlib.Core.Path.{◌≡◌, sym, ◌∙◌, ap, subst}
use borrow.Author.Tests.{not-true, not-false}
use Rattle.running.specs.declared.Op.{Op}
use Rattle.running.specs.Ruled.{Ruled}
use Rattle.running.specs.Waits.{with_plan, request_of}
use Rattle.rule.proofs.Calls.{fits_ruled, value_lent_lem}
use Rattle.laying.specs.Lend.{laid_on}
use Rattle.steps.specs.Step.{next_op, stepped, region_after, buffer_after}
use Rattle.steps.proofs.Keeps.{next_ruled}
use Rattle.steps.proofs.step.Goals as goal
use Rattle.steps.proofs.step.Goals.{After-with_plan}

-- the operation as it goes on
after : (c : After-with_plan) → let a = c.args in c.with_plan.result ≡ next_op a.op a.reply a.region.now
after c = let a = c.args in c.with_plan.ensures ∙ ap (with_plan a.op) c.next_plan-plan.ensures.0

pub returns-then-not-call_fits : goal.returns-then-not-call_fits
unfolding stepped region_after buffer_after
returns-then-not-call_fits c = let t = sym c.call_fits.ensures ∙ not-true _ c.if-not-call_fits.true-raw in (rw t, rw t, rw t)

pub invariant_of-before : goal.invariant_of-before
invariant_of-before c =
    let f = fits_ruled _ _ _ _ _ (sym c.call_fits.ensures ∙ not-false _ c.if-not-call_fits.false-raw) in
    record { ruled = f.0 }

pub next_plan-plan-requires : goal.next_plan-plan-requires
next_plan-plan-requires c = (fits_ruled _ _ _ _ _ (sym c.call_fits.ensures ∙ not-false _ c.if-not-call_fits.false-raw)).1

pub invariant_of-after : goal.invariant_of-after
invariant_of-after c =
    let a = c.args in
    let f = fits_ruled _ _ _ _ _ (sym c.call_fits.ensures ∙ not-false _ c.if-not-call_fits.false-raw) in
    record { ruled = subst Ruled (sym (after (goal.at.invariant_of-after c).After-with_plan)) (next_ruled a.op a.reply a.region.now f.0 f.1) }

pub lay_on-requires : goal.lay_on-requires
lay_on-requires c =
    let a = c.args in
    let f = fits_ruled _ _ _ _ _ (sym c.call_fits.ensures ∙ not-false _ c.if-not-call_fits.false-raw) in
    rw (after (goal.at.lay_on-requires c).After-with_plan) (f.1, value_lent_lem a.op.lent a.value.now _ f.2)

pub returns : goal.returns
unfolding stepped region_after buffer_after
returns c =
    let a = c.args in
    let t = sym c.call_fits.ensures ∙ not-false _ c.if-not-call_fits.false-raw in
    let e = after (goal.at.returns c).After-with_plan in (
      rw t (λ i. record { op = e i; request = (c.request_of.ensures ∙ ap request_of e) i }),
      rw t (c.lay_on.ensures ∙ ap (λ (o : Op). laid_on a.reply o a.region.now a.value.now) e),
      rw t c.next_plan-plan.ensures.1,
    )
