-- The written rule: what every running operation keeps that a start hands out, or a step that is no BadCall, as a test on the operation alone; and
-- the calls that it allows.
use Rattle.std.specs.Prelude.{ℕ, Bool, true, false, ◌&&◌, eqb}
use Rattle.chip.specs.Geometry.{sized}
use Rattle.probe.specs.Probe.{allowed_key}
use Rattle.plans.specs.declared.Lent.{Lent}
use Rattle.plans.specs.Writes.{first}
use Rattle.plans.specs.Fits.{plan_fits}
use Rattle.running.specs.declared.Op.{Op}
use Rattle.running.specs.declared.Reply.{Reply}
use Rattle.running.specs.declared.Wait.{Wait}
use Rattle.running.specs.Waits.{wait_of}
use Rattle.running.specs.Ruled.{fresh_fits}

-- R8.10: the written rule: S, N and the key are allowed, and what is left of the plan lies in the chip, is one for what is lent, and asks for
-- something at first.
unfoldable pub rule : Op → Bool
rule op =
    sized op.s op.n && (allowed_key op.key && (fresh_fits op.fresh (first op.plan.edits) op.plan.next
    && plan_fits op.s op.n op.lent op.plan))

-- R8.5: the reply that comes at the first step: "begin".
abbrev pub begins : Reply → Bool
begins Reply.Begin = true
begins Reply.Done = false
begins Reply.NotReady = false
begins Reply.Failed = false

-- R8.5: the replies that say how a service went: "done", "not ready", "failed".
abbrev pub serves : Reply → Bool
serves Reply.Begin = false
serves Reply.Done = true
serves Reply.NotReady = true
serves Reply.Failed = true

-- R6.11: a reply that may come: "begin" at the first step and no other, a reply to a service where one was asked for, none after the answer.
abbrev pub reply_fits : Wait → Reply → Bool
reply_fits Wait.Begin y = begins y
reply_fits (Wait.Read r) y = serves y
reply_fits (Wait.Edit e) y = serves y
reply_fits (Wait.Over answer) y = false

-- R6.11: append's value or get's buffer has the length that was named at the start. Where neither is lent, none is looked at (R8.3).
abbrev pub buffers_fit : Lent → ℕ → ℕ → Bool
buffers_fit Lent.Nothing value buffer = true
buffers_fit (Lent.Value len) value buffer = eqb value len
buffers_fit (Lent.Buffer len) value buffer = eqb buffer len

-- R6.11: BadCall exactly where this fails: the operation keeps the written rule, the region buffer has S bytes, append's value or get's buffer has the
-- length that was named at the start, and the reply is one that may come.
unfoldable pub call_fits : Op → Reply → ℕ → ℕ → ℕ → Bool
call_fits op y region value buffer = rule op && (eqb region op.s && (buffers_fit op.lent value buffer && reply_fits (wait_of op) y))
