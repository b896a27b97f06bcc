-- A running operation in numbers, and back: what was packed is unpacked.
-- Assumes nothing.
use Prim.Native.Nat.{ℕ}
use mathlib.Core.Path.{◌≡◌, refl, sym, ap, ◌∙◌}
use mathlib.Core.Bool.{Bool, true, false, cond, true≢false}
use lib.Dec.{eqb, ltb}
use Rattle.std.specs.Prelude.{Option, Some, None, Ok}
use Rattle.lookup.proofs.Scan.{room_cases}
use Rattle.format.specs.declared.Removal.{Removal}
use Rattle.lookup.specs.declared.Room.{Room}
use Rattle.lookup.specs.declared.Seen.{Seen}
use Rattle.lookup.specs.Gather.{with_room, some_room}
use Rattle.plans.specs.declared.Success.TheVariants.{Complete, Written, Freed}
use Rattle.plans.specs.declared.Aim.{Aim}
use Rattle.plans.specs.declared.Lent.{Lent}
use Rattle.plans.specs.declared.Edit.{Edit}
use Rattle.plans.specs.declared.Edits.{Edits}
use Rattle.plans.specs.declared.Then.{Then}
use Rattle.plans.specs.Writes.{first}
use Rattle.running.specs.declared.Op.{Op}
use Rattle.operations.specs.declared.COperation.{COperation}
use Rattle.numbers.specs.declared.packs.Slot.{Slot}
use Rattle.numbers.specs.declared.packs.Next.{Next}
use Rattle.numbers.specs.Packs.{lent_number, lent_length, no_slot, slot_of, few, aim_number, next_at, next_numbers, is_nothing, over, fresh_number, in_numbers, packed, Looks}
use Rattle.operations.specs.Unpacks.{KnownOp, lent_in, edits_in, aim_in, next_in, read_as, own_fresh, own_lent, own_edit, own_aim, left_in, own_next, standing, unpacked}

-- Each part comes back, and its numbers are its own.

lent_back : (lent : Lent) → (lent_in (lent_number lent) (lent_length lent) ≡ lent) × (own_lent (lent_number lent) (lent_length lent) ≡ true)
lent_back Lent.Nothing = (refl, refl)
lent_back (Lent.Value len) = (refl, refl)
lent_back (Lent.Buffer len) = (refl, refl)

fresh_back : (fresh : Bool) → (eqb (fresh_number fresh) 1 ≡ fresh) × (own_fresh (fresh_number fresh) ≡ true)
fresh_back true = (refl, refl)
fresh_back false = (refl, refl)

abbrev EditsBack : Op → Next → Edits → Type 0
EditsBack op next es = (edits_in (in_numbers op (slot_of es) next) ≡ es) × (own_edit (in_numbers op (slot_of es) next) ≡ true)

edits_back : (op : Op) (next : Next) (es : Edits) → few es ≡ true → EditsBack op next es
edits_back op next Edits.Nil h = (refl, refl)
edits_back op next (Edits.One (Edit.Lay r o)) h = (refl, refl)
edits_back op next (Edits.One (Edit.Kill Removal.Invalidate r x)) h = (refl, refl)
edits_back op next (Edits.One (Edit.Kill Removal.Zeroise r x)) h = (refl, refl)
edits_back op next (Edits.One (Edit.Erase r)) h = (refl, refl)
edits_back op next (Edits.Two e f) h = absurd (true≢false (sym h))
edits_back op next (Edits.Three e f g) h = absurd (true≢false (sym h))
edits_back op next (Edits.Erases i m) h = (refl, refl)

aim_back : (aim : Aim) → (aim_in (aim_number aim) ≡ aim) × (own_aim (aim_number aim) ≡ true)
aim_back Aim.Get = (refl, refl)
aim_back Aim.Append = (refl, refl)
aim_back (Aim.Remove Removal.Invalidate) = (refl, refl)
aim_back (Aim.Remove Removal.Zeroise) = (refl, refl)
aim_back Aim.Initialise = (refl, refl)

-- What follows comes back where an edit is left before an answer.
abbrev pub Back : Op → Slot → Then → Type 0
Back op slot next = (next_in (in_numbers op slot (next_numbers next)) ≡ next) × (own_next (in_numbers op slot (next_numbers next)) ≡ true)

pub seek_back : (op : Op) (slot : Slot) (aim : Aim) (i : ℕ) (seen : Seen) → Back op slot (Then.Seek aim i seen)
seek_back op slot aim i seen = go seen.room
  where
    own : own_aim (aim_number aim) ≡ true
    own = (aim_back aim).1

    go : (gathered : Option Room) → Back op slot (Then.Seek aim i (with_room gathered seen))
    go =
        room_cases
        (λ gathered. Back op slot (Then.Seek aim i (with_room gathered seen)))
        ((λ k. Then.Seek ((aim_back aim).0 k) i (with_room None seen)), rw own)
        (λ r o. ((λ k. Then.Seek ((aim_back aim).0 k) i (with_room (some_room r o false) seen)), rw own))
        (λ r o. ((λ k. Then.Seek ((aim_back aim).0 k) i (with_room (some_room r o true) seen)), rw own))

-- an edit that is left
left_back : (op : Op) (next : Next) (es : Edits) → few es ≡ true → is_nothing (first es) ≡ false → left_in (in_numbers op (slot_of es) next) ≡ true
left_back op next Edits.Nil h l = absurd (true≢false l)
left_back op next (Edits.One (Edit.Lay r o)) h l = refl
left_back op next (Edits.One (Edit.Kill Removal.Invalidate r x)) h l = refl
left_back op next (Edits.One (Edit.Kill Removal.Zeroise r x)) h l = refl
left_back op next (Edits.One (Edit.Erase r)) h l = refl
left_back op next (Edits.Two e f) h l = absurd (true≢false (sym h))
left_back op next (Edits.Three e f g) h l = absurd (true≢false (sym h))
left_back op next (Edits.Erases i m) h l = go (ltb i m) l
  where
    go : (b : Bool) → is_nothing (cond b (Some (Edit.Erase i)) None) ≡ false → b ≡ true
    go true z = refl
    go false z = absurd (true≢false z)

pub end_back : (op : Op) (es : Edits) → few es ≡ true → is_nothing (first es) ≡ false
    → ((len : ℕ) → Back op (slot_of es) (Then.Ends (Ok (Complete len)))) × Back op (slot_of es) (Then.Ends (Ok Written)) × ((bytes : ℕ) → Back op (slot_of es) (Then.Ends (Ok (Freed bytes))))
end_back op es h l =
    ((λ len. (refl, left_back op (next_at 3 len 0) es h l)), (refl, left_back op (next_at 4 0 0) es h l), λ bytes. (refl, left_back op (next_at 5 bytes 0) es h l))

-- The whole.

-- an operation with all of its plan
abbrev pub whole : Op → COperation
whole op = in_numbers op (slot_of op.plan.edits) (next_numbers op.plan.next)

pub whole_packed : (op : Op) → over op.plan ≡ false → few op.plan.edits ≡ true → packed op ≡ whole op
unfolding packed
whole_packed op v h = rw (v, h)

read_back : (op : Op) → few op.plan.edits ≡ true → Back op (slot_of op.plan.edits) op.plan.next → read_as (whole op) ≡ op
unfolding read_as
read_back op h e = λ i. record {
  s = op.s;
  n = op.n;
  key = op.key;
  lent = (lent_back op.lent).0 i;
  fresh = (fresh_back op.fresh).0 i;
  plan = record { edits = (edits_back op (next_numbers op.plan.next) op.plan.edits h).0 i; next = e.0 i };
}

stands_whole : (op : Op) → few op.plan.edits ≡ true → Back op (slot_of op.plan.edits) op.plan.next → standing (whole op) ≡ true
unfolding standing
stands_whole op h e = rw (e.1, (fresh_back op.fresh).1, (lent_back op.lent).1) (edits_back op (next_numbers op.plan.next) op.plan.edits h).1

-- Numbers that stand for an operation, or for none.
pub known : (o : COperation) → standing o ≡ true → unpacked o ≡ KnownOp.Known (read_as o)
unfolding unpacked
known o e = rw e

pub unknown : (o : COperation) → standing o ≡ false → unpacked o ≡ KnownOp.Unknown
unfolding unpacked
unknown o e = rw e

pub comes_back : (op : Op) → over op.plan ≡ false → few op.plan.edits ≡ true → Back op (slot_of op.plan.edits) op.plan.next → unpacked (packed op) ≡ KnownOp.Known op
comes_back op v h e = ap unpacked (whole_packed op v h) ∙ known (whole op) (stands_whole op h e) ∙ ap KnownOp.Known (read_back op h e)

-- Nothing follows that runs: 0 and 6 are no numbers of what follows.
pub not_running : (op : Op) (slot : Slot) → unpacked (in_numbers op slot (next_at 0 0 0)) ≡ KnownOp.Unknown
unfolding unpacked standing
not_running op slot = refl

pub not_ended : (op : Op) (slot : Slot) → unpacked (in_numbers op slot (next_at 6 0 0)) ≡ KnownOp.Unknown
unfolding unpacked standing
not_ended op slot = refl
