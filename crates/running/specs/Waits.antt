-- What an operation waits for, computed from what is left of its plan, and the request that it makes of the host.
use Rattle.std.specs.Prelude.{ℕ, ◌+◌, ◌*◌, false, cond, get_or, Option, Some, None, Err}
use Rattle.probe.specs.Probe.{probes}
use Rattle.refusals.specs.declared.Refusal.{Refusal}
use Rattle.plans.specs.declared.Edit.{Edit}
use Rattle.plans.specs.declared.Then.{Then}
use Rattle.plans.specs.declared.Plan.{Plan}
use Rattle.plans.specs.Writes.{value_lent, in_region, start_of, size_of, first}
use Rattle.running.specs.declared.Op.{Op}
use Rattle.running.specs.declared.Wait.{Wait}
use Rattle.running.specs.declared.Request.{Request}

-- R8.3: the operation as it then stands, with this left to do. It is fresh no more.
abbrev pub with_plan : Op → Plan → Op
with_plan op plan = record { s = op.s; n = op.n; key = op.key; lent = op.lent; fresh = false; plan = plan }

-- R8.4: where nothing is left to write or erase: a read, of the lookup's region in probe order or of collect's next one; or the answer.
-- A value is handed over within the step that comes to it, so no operation waits before one: the BadCall there does not come.
abbrev pub wait_next : ℕ → ℕ → Then → Wait
wait_next key n (Then.Ends answer) = Wait.Over answer
wait_next key n (Then.Seek aim i seen) = Wait.Read (get_or (probes key n) i 0)
wait_next key n (Then.Sweep r k) = Wait.Read r
wait_next key n (Then.Gives r x anew) = Wait.Over (Err Refusal.BadCall)

-- R8.4: one service at a time: what is left to write or erase comes before what follows.
abbrev pub wait_first : ℕ → ℕ → Option Edit → Then → Wait
wait_first key n (Some e) next = Wait.Edit e
wait_first key n None next = wait_next key n next

-- R8.5: a fresh operation waits for "begin", any other for its next service, or for nothing more.
abbrev pub wait_of : Op → Wait
wait_of op = cond op.fresh Wait.Begin (wait_first op.key op.n (first op.plan.edits) op.plan.next)

-- R8.4: the write of an edit, where a value of so many bytes is lent: the region buffer's bytes from one place up to another, to the image place that
-- is its region's first plus the first of the two.
abbrev pub write_of : ℕ → ℕ → Edit → Request
write_of s len e = Request.Write (start_of e) (start_of e + size_of len e) (in_region e * s + start_of e)

-- R8.4: a record that is laid or made dead is asked for by a write, a region to erase by an erase.
abbrev pub request_edit : ℕ → ℕ → Edit → Request
request_edit s len (Edit.Lay r o) = write_of s len (Edit.Lay r o)
request_edit s len (Edit.Kill how r x) = write_of s len (Edit.Kill how r x)
request_edit s len (Edit.Erase r) = Request.Erase r

-- R8.4: the request for what is waited for, or the answer. Before the first step there is none: the BadCall there does not come, since a step takes
-- the request of the operation that it has led on, which is fresh no more (`with_plan`).
abbrev pub request_for : ℕ → ℕ → Wait → Request
request_for s len Wait.Begin = Request.Answers (Err Refusal.BadCall)
request_for s len (Wait.Read r) = Request.Read r
request_for s len (Wait.Edit e) = request_edit s len e
request_for s len (Wait.Over answer) = Request.Answers answer

-- R8.4: the service that an operation asks for, or its answer.
abbrev pub request_of : Op → Request
request_of op = request_for op.s (value_lent op.lent) (wait_of op)
