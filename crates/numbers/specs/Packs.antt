-- A running operation in numbers. What a kind does not use is 0.
use Rattle.std.specs.Prelude.{ℕ, ◌≡◌, Bool, true, false, cond, Result, Ok, Err, Option, Some, None}
use Rattle.format.specs.declared.Removal.{Removal}
use Rattle.lookup.specs.declared.Room.{Room}
use Rattle.refusals.specs.Refusals.{number}
use Rattle.plans.specs.declared.Success.TheVariants.{Complete, Written, Freed}
use Rattle.plans.specs.declared.Aim.{Aim}
use Rattle.plans.specs.declared.Lent.{Lent}
use Rattle.plans.specs.declared.Edit.{Edit}
use Rattle.plans.specs.declared.Edits.{Edits}
use Rattle.plans.specs.declared.Then.{Then}
use Rattle.plans.specs.declared.Plan.{Plan}
use Rattle.plans.specs.Answers.{Answer}
use Rattle.plans.specs.Writes.{first}
use Rattle.running.specs.declared.Op.{Op}
use Rattle.operations.specs.declared.COperation.{COperation}
use Rattle.operations.specs.Unpacks.{no_operation}
use Rattle.numbers.specs.declared.CStart.{CStart}
use Rattle.numbers.specs.declared.packs.Slot.{Slot}
use Rattle.numbers.specs.declared.packs.Next.{Next}
use Rattle.refusals.specs.declared.Refusal.{Refusal}

-- R12.4: `lent`: 0 nothing, 1 a value, 2 a buffer.
abbrev pub lent_number : Lent → ℕ
lent_number Lent.Nothing = 0
lent_number (Lent.Value len) = 1
lent_number (Lent.Buffer len) = 2

-- R12.4: `len`: the length of what is lent.
abbrev pub lent_length : Lent → ℕ
lent_length Lent.Nothing = 0
lent_length (Lent.Value len) = len
lent_length (Lent.Buffer len) = len

-- An edit: 1 lay, 2 invalidate, 3 zeroise, 4 erase; 5 a run of erases, from a region up to another.

-- R12.4: the numbers of an edit with no record in it.
abbrev pub slot_at : ℕ → ℕ → ℕ → Slot
slot_at edit region at = record { edit = edit; version = 0; flags = 0; region = region; at = at; size = 0; found = 0 }

-- R12.4: the numbers of no edit, all 0.
abbrev pub no_slot : Slot
no_slot = slot_at 0 0 0

-- R12.4: `edit` where a record is made dead.
abbrev pub kill_number : Removal → ℕ
kill_number Removal.Invalidate = 2
kill_number Removal.Zeroise = 3

-- R12.4: the numbers of one edit, with all that the record is where one is made dead.
abbrev pub edit_numbers : Edit → Slot
edit_numbers (Edit.Lay r o) = slot_at 1 r o
edit_numbers (Edit.Kill how r x) =
    record { edit = kill_number how; version = x.version; flags = x.flags; region = r; at = x.at; size = x.len; found = x.key }
edit_numbers (Edit.Erase r) = slot_at 4 r 0

-- R12.4: the edits that are left have numbers: none, one, or a run of erases. No plan of today waits with more.
abbrev pub few : Edits → Bool
few Edits.Nil = true
few (Edits.One e) = true
few (Edits.Two e f) = false
few (Edits.Three e f g) = false
few (Edits.Erases i m) = true

-- R12.4: the numbers of the edits that are left, where they have any.
abbrev pub slot_of : Edits → Slot
slot_of Edits.Nil = no_slot
slot_of (Edits.One e) = edit_numbers e
slot_of (Edits.Two e f) = no_slot
slot_of (Edits.Three e f g) = no_slot
slot_of (Edits.Erases i m) = slot_at 5 i m

-- R12.4: the numbers of what follows the edits, with no lookup in it.
abbrev pub next_at : ℕ → ℕ → ℕ → Next
next_at next a b = record { next = next; aim = 0; tag = 0; a = a; b = b; c = 0 }

-- R12.4: `aim`: what a lookup is for.
abbrev pub aim_number : Aim → ℕ
aim_number Aim.Get = 1
aim_number Aim.Append = 2
aim_number (Aim.Remove Removal.Invalidate) = 3
aim_number (Aim.Remove Removal.Zeroise) = 4
aim_number Aim.Initialise = 5

-- R12.4: a lookup's aim, its index in the probe order, and the room that it has gathered: 0 none, 1 room that is not blank, 2 blank room.
abbrev pub seek_numbers : Aim → ℕ → Option Room → Next
seek_numbers aim i None = record { next = 1; aim = aim_number aim; tag = 0; a = i; b = 0; c = 0 }
seek_numbers aim i (Some room) = record { next = 1; aim = aim_number aim; tag = cond room.blank 2 1; a = i; b = room.region; c = room.at }

-- R12.4: an answer that is next, and what it carries. A refusal behind a write or an erase breaks the written rule (R8.10): `next` is 0, as in
-- numbers that stand for no operation.
abbrev pub end_numbers : Answer → Next
end_numbers (Ok (Complete len)) = next_at 3 len 0
end_numbers (Ok Written) = next_at 4 0 0
end_numbers (Ok (Freed bytes)) = next_at 5 bytes 0
end_numbers (Err w) = next_at 0 0 0

-- R12.4: `next`: 1 a lookup, 2 collect's next region, 3 Complete, 4 Written, 5 Freed. Before a value that is to be handed over, or a refusal behind
-- an edit, the written rule lets no operation rest (R8.10): `next` is 0, as in numbers that stand for no operation.
abbrev pub next_numbers : Then → Next
next_numbers (Then.Ends answer) = end_numbers answer
next_numbers (Then.Seek aim i seen) = seek_numbers aim i seen.room
next_numbers (Then.Sweep r k) = next_at 2 r k
next_numbers (Then.Gives r x anew) = next_at 0 0 0

-- R12.7: nothing is left to write or erase.
abbrev pub is_nothing : Option Edit → Bool
is_nothing None = true
is_nothing (Some e) = false

-- R12.7: an end: nothing is left but an answer.
abbrev pub over_after : Edits → Then → Bool
over_after es (Then.Ends answer) = is_nothing (first es)
over_after es (Then.Seek aim i seen) = false
over_after es (Then.Sweep r k) = false
over_after es (Then.Gives r x anew) = false

-- R12.7: the same of a plan.
abbrev pub over : Plan → Bool
over p = over_after p.edits p.next

-- R12.4: `fresh`: 1 before the first step, 0 from then on.
abbrev pub fresh_number : Bool → ℕ
fresh_number fresh = cond fresh 1 0

-- R12.4: an operation's twenty numbers, with these for its plan; 8 is the number of this layout.
abbrev pub in_numbers : Op → Slot → Next → COperation
in_numbers op slot next = record {
  layout = 8;
  fresh = fresh_number op.fresh;
  lent = lent_number op.lent;
  edit = slot.edit;
  next = next.next;
  aim = next.aim;
  tag = next.tag;
  version = slot.version;
  flags = slot.flags;
  s = op.s;
  n = op.n;
  key = op.key;
  len = lent_length op.lent;
  region = slot.region;
  at = slot.at;
  size = slot.size;
  found = slot.found;
  a = next.a;
  b = next.b;
  c = next.c;
}

-- R12.4, R12.7: a running operation in numbers. One that has ended keeps none of its plan, whose answer was given: `next` is 6. With more edits than
-- there are numbers for (`few`), `next` is 0: the numbers stand for no operation.
unfoldable pub packed : Op → COperation
packed op =
    cond (over op.plan) (in_numbers op no_slot (next_at 6 0 0))
    (cond (few op.plan.edits) (in_numbers op (slot_of op.plan.edits) (next_numbers op.plan.next))
    (in_numbers op no_slot (next_at 0 0 0)))

-- R12.6: a start hands out 0 and a fresh operation, or a refusal's number and twenty zeros.
abbrev pub start_numbers : Result Op Refusal → CStart
start_numbers (Ok op) = record { refusal = 0; op = packed op }
start_numbers (Err w) = record { refusal = number w; op = no_operation }

-- R12.6: a fresh operation looks at a region first: nothing is left to write or erase, and no answer is at hand.
pub record Looks (op : Op) : Type 0 where
  pub no_edit : op.plan.edits ≡ Edits.Nil
  pub goes_on : over op.plan ≡ false

-- R12.6: so does what a start hands out, if anything.
abbrev pub start_looks : Result Op Refusal → Type 0
start_looks (Ok op) = Looks op
start_looks (Err w) = Unit {0}

-- R12.6: what a start hands out, if anything, has numbers.
abbrev pub start_few : Result Op Refusal → Bool
start_few (Ok op) = few op.plan.edits
start_few (Err w) = true
