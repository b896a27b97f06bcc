-- What the numbers of an operation stand for, by what is left of its plan.
-- Assumes nothing.
use Prim.Native.Nat.{ℕ}
use mathlib.Core.Path.{◌≡◌, refl, sym, ap, ◌∙◌}
use mathlib.Core.Bool.{Bool, true, false, cond, ◌&&◌, true≢false}
use lib.Dec.{eqb}
use Rattle.plans.specs.declared.Edit.{Edit}
use Rattle.std.specs.Prelude.{Option, Some, None, Ok, Err}
use Rattle.chip.specs.Geometry.{sized}
use Rattle.probe.specs.Probe.{allowed_key}
use Rattle.refusals.specs.declared.Refusal.{Refusal}
use Rattle.refusals.specs.Refusals.{number}
use Rattle.plans.specs.declared.Success.TheVariants.{Complete, Written, Freed}
use Rattle.plans.specs.declared.Then.{Then}
use Rattle.plans.specs.Answers.{Answer}
use Rattle.plans.specs.Writes.{value_lent, first}
use Rattle.plans.specs.Fits.{value_short, edits_fit, then_fits, answer_rests, rests}
use Rattle.running.specs.declared.Op.{Op}
use Rattle.running.specs.declared.Reply.{Reply}
use Rattle.running.specs.declared.Wait.{Wait}
use Rattle.running.specs.Waits.{wait_first, wait_of}
use Rattle.running.specs.Ruled.{fresh_fits}
use Rattle.rule.specs.Rule.{rule, reply_fits, buffers_fit, call_fits}
use Rattle.numbers.specs.declared.packs.Slot.{Slot}
use Rattle.numbers.specs.Packs.{no_slot, slot_of, few, is_nothing, over, packed}
use Rattle.operations.specs.Unpacks.{KnownOp, unpacked}
use Rattle.numbers.proofs.Back.{seek_back, end_back, whole_packed, comes_back, not_running, not_ended}

-- The numbers of an operation stand for it, or they stand for nothing, and no call fits it: it breaks the rule, or has ended.

abbrev NoCall : Op → Type 0
NoCall op = (y : Reply) (region value buffer : ℕ) → call_fits op y region value buffer ≡ false

pub data Standing (op : Op) : Type 0 where
  runs : unpacked (packed op) ≡ KnownOp.Known op → Standing op
  breaks : unpacked (packed op) ≡ KnownOp.Unknown → rule op ≡ false → NoCall op → Standing op
  ended : unpacked (packed op) ≡ KnownOp.Unknown → over op.plan ≡ true → NoCall op → Standing op

-- what fails at the end of a row of tests fails

and_false : (b : Bool) → (b && false) ≡ false
and_false true = refl
and_false false = refl

and_false_2 : (a b : Bool) → (a && (b && false)) ≡ false
and_false_2 true b = and_false b
and_false_2 false b = refl

and_false_3 : (a b c : Bool) → (a && (b && (c && false))) ≡ false
and_false_3 true b c = and_false_2 b c
and_false_3 false b c = refl

broken : (op : Op) → rests (first op.plan.edits) op.plan.next ≡ false → rule op ≡ false
unfolding rule
broken op e =
    rw (
      e,
      and_false_3 (value_short op.lent) (edits_fit op.s op.n (value_lent op.lent) op.plan.edits) (then_fits op.s op.n op.lent op.plan.next),
      and_false_3 (sized op.s op.n) (allowed_key op.key) (fresh_fits op.fresh (first op.plan.edits) op.plan.next),
    )

-- a fresh operation with nothing to ask for
idle : (op : Op) → fresh_fits op.fresh (first op.plan.edits) op.plan.next ≡ false → rule op ≡ false
unfolding rule
idle op e = rw (e, and_false_2 (sized op.s op.n) (allowed_key op.key))

no_rule : (op : Op) → rule op ≡ false → NoCall op
unfolding call_fits
no_rule op e y region value buffer = rw e

-- where the reply is not one that may come
no_reply : (op : Op) (y : Reply) → reply_fits (wait_of op) y ≡ false → (region value buffer : ℕ) → call_fits op y region value buffer ≡ false
unfolding call_fits
no_reply op y e region value buffer = rw e (and_false_3 (rule op) (eqb region op.s) (buffers_fit op.lent value buffer))

number_some : (w : Refusal) → eqb (number w) 0 ≡ false
number_some Refusal.BadGeometry = refl
number_some Refusal.BadKey = refl
number_some Refusal.ObjectTooLarge = refl
number_some Refusal.KeyNotFound = refl
number_some Refusal.KeyAlreadyExists = refl
number_some Refusal.FlashFull = refl
number_some Refusal.UnsupportedVersion = refl
number_some Refusal.CorruptData = refl
number_some (Refusal.BufferTooSmall len) = refl
number_some Refusal.InvalidCheckSum = refl
number_some Refusal.BadCall = refl
number_some Refusal.FlashFailed = refl

-- a refusal after an edit
refusal_late : (f : Option Edit) (w : Refusal) → is_nothing f ≡ false → answer_rests f (Err w) ≡ false
refusal_late (Some e) w l = number_some w
refusal_late None w l = absurd (true≢false l)

nothing_left : (f : Option Edit) → is_nothing f ≡ true → f ≡ None
nothing_left None l = refl
nothing_left (Some e) l = absurd (true≢false (sym l))

abbrev before : Op → Then → Op
before op next = record { s = op.s; n = op.n; key = op.key; lent = op.lent; fresh = op.fresh; plan = record { edits = op.plan.edits; next = next } }

-- no call fits where only the answer is left: a fresh operation that it is breaks the rule, and another waits for no reply
no_more : (op : Op) (answer : Answer) → first op.plan.edits ≡ None → NoCall (before op (Then.Ends answer))
no_more op answer gone = go op.fresh refl
  where
    at : Op
    at = before op (Then.Ends answer)

    go : (fresh : Bool) → op.fresh ≡ fresh → NoCall at
    go true f = no_rule at (idle at (λ i. fresh_fits (f i) (gone i) (Then.Ends answer)))
    go false f =
        let waits : wait_of at ≡ Wait.Over answer = λ i. cond (f i) Wait.Begin (wait_first op.key op.n (gone i) (Then.Ends answer)) in
        λ y. no_reply at y (ap (λ (w : Wait). reply_fits w y) waits)

ends : (op : Op) (answer : Answer) (none : Bool) → is_nothing (first op.plan.edits) ≡ none → few op.plan.edits ≡ true → Standing (before op (Then.Ends answer))
unfolding packed
ends op answer true l h =
    let at = before op (Then.Ends answer) in
    ended (rw l (not_ended at no_slot)) l (no_more op answer (nothing_left (first op.plan.edits) l))
ends op (Ok (Complete len)) false l h = let at = before op (Then.Ends (Ok (Complete len))) in runs (comes_back at l h ((end_back at op.plan.edits h l).0 len))
ends op (Ok Written) false l h = let at = before op (Then.Ends (Ok Written)) in runs (comes_back at l h (end_back at op.plan.edits h l).1)
ends op (Ok (Freed bytes)) false l h = let at = before op (Then.Ends (Ok (Freed bytes))) in runs (comes_back at l h ((end_back at op.plan.edits h l).2 bytes))
ends op (Err w) false l h =
    let at = before op (Then.Ends (Err w)) in
    let e = broken at (refusal_late (first op.plan.edits) w l) in
    breaks (ap unpacked (whole_packed at l h) ∙ not_running at (slot_of op.plan.edits)) e (no_rule at e)

pub stood : (op : Op) → few op.plan.edits ≡ true → Standing op
stood op h = go op.plan.next
  where
    slot : Slot
    slot = slot_of op.plan.edits

    go : (next : Then) → Standing (before op next)
    go (Then.Ends answer) = ends op answer (is_nothing (first op.plan.edits)) refl h
    go (Then.Seek aim i seen) = let at = before op (Then.Seek aim i seen) in runs (comes_back at refl h (seek_back at slot aim i seen))
    go (Then.Sweep r k) = runs (comes_back (before op (Then.Sweep r k)) refl h (refl, refl))
    go (Then.Gives r x anew) =
        let at = before op (Then.Gives r x anew) in
        let e = broken at refl in
        breaks (ap unpacked (whole_packed at refl h) ∙ not_running at slot) e (no_rule at e)

-- What is told "not ready" has begun.
pub waits_begun : (op : Op) (region value buffer : ℕ) → call_fits op Reply.NotReady region value buffer ≡ true → op.fresh ≡ false
waits_begun op region value buffer e = go op.fresh refl
  where
    go : (b : Bool) → op.fresh ≡ b → b ≡ false
    go false f = refl
    go true f = sym e ∙ no_reply op Reply.NotReady (rw f refl) region value buffer
