-- Collect, a region at a time.
use Rattle.std.specs.Prelude.{ℕ, ◌+◌, ◌*◌, Bool, true, false, cond, List, [], ◌∷◌, ltb, length, Ok}
use Rattle.format.specs.declared.Record.{Record}
use Rattle.region.specs.declared.Want.{Want}
use Rattle.region.specs.declared.Event.{Event}
use Rattle.region.specs.Walk.{records, event_in}
use Rattle.refusals.specs.Refusals.{refusal_of}
use Rattle.plans.specs.declared.Success.{Success}
use Rattle.plans.specs.declared.Edit.{Edit}
use Rattle.plans.specs.declared.Edits.{Edits}
use Rattle.plans.specs.declared.Then.{Then}
use Rattle.plans.specs.declared.Plan.{Plan}
use Rattle.sweeping.specs.declared.Verdict.{Verdict}
use Rattle.plans.specs.Writes.{refuses, follows}

-- R5.7: whether a region has no record at all: then it stands
abbrev pub no_records : List Record → Bool
no_records [] = true
no_records (x ∷ xs) = false

-- R5.7: a live record decides: the region stands. No live one and no bad place: it is erased if it has at least one record, else it stands.
abbrev pub verdict_on : ℕ → List ℕ → Event → Verdict
verdict_on r region (Event.Live x) = Verdict.Stands
verdict_on r region (Event.Bad f o) = Verdict.Bad f (r * length region + o)
verdict_on r region (Event.End o) = cond (no_records (records region)) Verdict.Stands Verdict.Erase

-- R5.7: in region r the first live record or bad place decides. With at least one record, no live one and no bad place it is erased.
abbrev pub verdict : ℕ → List ℕ → Verdict
verdict r region = verdict_on r region (event_in region Want.Any)

-- R5.7: region r comes next, and k of those before it were erased or are about to be (R12.4). Behind the last one the answer is Freed with S times
-- their number.
abbrev pub swept_to : ℕ → ℕ → ℕ → ℕ → Then
swept_to s n r k = cond (ltb r n) (Then.Sweep r k) (Then.Ends (Ok (Success.Freed (k * s))))

-- R5.7, R5.8: a region stands or is erased, and the next one comes. A bad place that decides ends collect with its refusal.
abbrev pub sweep_plan : ℕ → ℕ → ℕ → ℕ → Verdict → Plan
sweep_plan s n r k Verdict.Stands = follows (swept_to s n (r + 1) k)
sweep_plan s n r k Verdict.Erase = record { edits = Edits.One (Edit.Erase r); next = swept_to s n (r + 1) (k + 1) }
sweep_plan s n r k (Verdict.Bad f p) = refuses (refusal_of f)
