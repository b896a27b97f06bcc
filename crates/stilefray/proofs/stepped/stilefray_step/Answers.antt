-- `stilefray::stepped::stilefray_step` meets its contract: numbers that stand for nothing alter nothing, and the others are steps'.
-- Assumes nothing.
use mathlib.Core.Path.{sym, ◌∙◌, ap}
use borrow.Author.Tests.{not-true, not-false}
use Rattle.operations.specs.Unpacks.{KnownOp}
use Rattle.numbers.proofs.Back.{known, unknown}
use Rattle.stilefray.specs.Stepped.{packed_step}
use Rattle.stilefray.proofs.Called.{no_op, no_reply, fit}
use Rattle.stilefray.proofs.stepped.stilefray_step.Goals as goal

pub returns-then-not-stands : goal.returns-then-not-stands
returns-then-not-stands c =
    let a = c.args in
    let (t, r, l) = no_op a.op a.reply a.region.now a.value.now a.buffer.now (unknown a.op (sym c.stands.ensures ∙ not-true _ c.if-not-stands.true-raw)) in
    (c.bad_call.ensures ∙ sym t, sym r, sym l)

pub returns-in_default : goal.returns-in_default
returns-in_default c =
    let a = c.args in
    let (t, r, l) = no_reply a.op a.reply a.region.now a.value.now a.buffer.now (sym c.known_reply-said.ensures ∙ c.in_default.is) in
    (c.bad_call-in_default.ensures ∙ sym t, sym r, sym l)

pub returns : goal.returns
returns c =
    let a = c.args in
    let s = c.step-stepped.ensures in
    let runs = known a.op (sym c.stands.ensures ∙ not-false _ c.if-not-stands.false-raw) ∙ ap KnownOp.Known (sym c.read_as.ensures) in
    let said = sym c.known_reply-said.ensures ∙ c.in-Some.is in
    let (t, r, l) = fit a.op a.reply a.region.now a.value.now a.buffer.now _ _ runs said in
    ((λ i. record { op = c.pack.ensures i; request = c.request_numbers.ensures i }) ∙ ap packed_step s.0 ∙ sym t, s.1 ∙ sym r, s.2 ∙ sym l)
