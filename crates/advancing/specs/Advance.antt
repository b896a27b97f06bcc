-- What is left of a plan once its service is done, and get's copy.
use Rattle.plans.specs.declared.Edit.{Edit}
use Rattle.lookup.specs.declared.Looked.{Looked}
use Rattle.std.specs.declared.ops.ControlFlow.TheVariants.{Break, Continue}
use Rattle.std.specs.declared.ops.ControlFlow.{ControlFlow}
use Rattle.std.specs.Prelude.{ℕ, ◌+◌, cond, List, ltb, get_or, Option, Some, None}
use Rattle.probe.specs.Probe.{probes}
use Rattle.format.specs.declared.Record.{Record}
use Rattle.refusals.specs.declared.Refusal.{Refusal}
use Rattle.lookup.specs.declared.Seen.{Seen}
use Rattle.lookup.specs.Turns.{turn_of, close}
use Rattle.plans.specs.declared.Aim.{Aim}
use Rattle.plans.specs.declared.Lent.{Lent}
use Rattle.plans.specs.declared.Then.{Then}
use Rattle.plans.specs.declared.Plan.{Plan}
use Rattle.plans.specs.Writes.{value_lent, buffer_lent, first, rest, follows, refuses}
use Rattle.planning.specs.Planning.{need_of, plan, given_plan}
use Rattle.sweeping.specs.Sweeps.{verdict, sweep_plan}
use Rattle.values.specs.Values.{read_answer, read_buffer}
use Rattle.running.specs.declared.Op.{Op}
use Rattle.running.specs.declared.Reply.{Reply}

-- R5.1: the i-th of n regions was seen: one that decides ends the lookup, and so does the last one, where none decides.
abbrev pub closes : ℕ → ℕ → ControlFlow Looked Seen → ControlFlow Looked Seen
closes n i (Break looked) = Break looked
closes n i (Continue seen) = cond (ltb (i + 1) n) (Continue seen) (Break (close seen))

-- R5.1: what the lookup found says what its operation does; until then the next region in probe order comes.
abbrev pub turned_to : Aim → ℕ → ℕ → ControlFlow Looked Seen → Plan
turned_to aim n i (Break looked) = plan aim n looked
turned_to aim n i (Continue seen) = follows (Then.Seek aim (i + 1) seen)

-- R5.1: the lookup's i-th region in probe order was read, and is walked: what is left then.
abbrev pub seek_next : Op → Aim → ℕ → Seen → List ℕ → Plan
seek_next op aim i seen region =
    turned_to aim op.n i (closes op.n i (turn_of seen op.key (need_of aim (value_lent op.lent)) (get_or (probes op.key op.n) i 0) region))

-- R8.5: "done" where nothing was left to write or erase: a region was read, for a lookup or for collect. The other two cases do not come: a reply
-- there is BadCall (`reply_fits`).
abbrev pub advance_next : Op → List ℕ → Then → Plan
advance_next op region (Then.Ends answer) = follows (Then.Ends answer)
advance_next op region (Then.Seek aim i seen) = seek_next op aim i seen region
advance_next op region (Then.Sweep r k) = sweep_plan op.s op.n r k (verdict r region)
advance_next op region (Then.Gives r x anew) = follows (Then.Gives r x anew)

-- R8.5: "done": what was written or erased is off the list, or a region was read.
abbrev pub advance_first : Op → List ℕ → Option Edit → Plan
advance_first op region (Some e) = record { edits = rest op.plan.edits; next = op.plan.next }
advance_first op region None = advance_next op region op.plan.next

-- R8.5: what is left of the plan once the service that was asked for is done.
abbrev pub advance : Op → List ℕ → Plan
advance op region = advance_first op region (first op.plan.edits)

-- R5.2, R5.9: where a record has decided, what get answers of it, from the region just read, says what follows, for initialise too.
abbrev pub given_by : ℕ → Lent → List ℕ → Plan → Then → Plan
given_by n lent region p (Then.Ends answer) = p
given_by n lent region p (Then.Seek aim i seen) = p
given_by n lent region p (Then.Sweep r k) = p
given_by n lent region p (Then.Gives r x anew) = given_plan n anew (read_answer region x (buffer_lent lent))

-- R5.2, R5.9: the same of a plan.
abbrev pub given : ℕ → Lent → List ℕ → Plan → Plan
given n lent region p = given_by n lent region p p.next

-- R5.2: the value goes to get's buffer, all of it or what the buffer holds; where no buffer is lent, nothing is altered.
abbrev pub copied : Lent → List ℕ → Record → List ℕ → List ℕ
copied Lent.Nothing region x buffer = buffer
copied (Lent.Value len) region x buffer = buffer
copied (Lent.Buffer len) region x buffer = read_buffer region x buffer

-- R8.7: get's buffer is altered where a record's value is given, and nowhere else.
abbrev pub filled_by : Lent → List ℕ → Then → List ℕ → List ℕ
filled_by lent region (Then.Ends answer) buffer = buffer
filled_by lent region (Then.Seek aim i seen) buffer = buffer
filled_by lent region (Then.Sweep r k) buffer = buffer
filled_by lent region (Then.Gives r x anew) buffer = copied lent region x buffer

-- R8.7: the same of a plan.
abbrev pub filled : Lent → List ℕ → Plan → List ℕ → List ℕ
filled lent region p buffer = filled_by lent region p.next buffer

-- R8.5: what is left with the host's reply: "done" leads on, "begin" and "not ready" leave it as it was, "failed" leaves FlashFailed.
abbrev pub next_plan : Op → Reply → List ℕ → Plan
next_plan op Reply.Begin region = op.plan
next_plan op Reply.Done region = given op.n op.lent region (advance op region)
next_plan op Reply.NotReady region = op.plan
next_plan op Reply.Failed region = refuses Refusal.FlashFailed

-- R8.7: get's buffer with the host's reply: no reply but "done" alters it.
abbrev pub buffer_on : Op → Reply → List ℕ → List ℕ → List ℕ
buffer_on op Reply.Begin region buffer = buffer
buffer_on op Reply.Done region buffer = filled op.lent region (advance op region) buffer
buffer_on op Reply.NotReady region buffer = buffer
buffer_on op Reply.Failed region buffer = buffer
