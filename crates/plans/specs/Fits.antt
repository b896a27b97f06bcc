-- Whether a plan lies in a chip of n regions of s bytes, and is one for what is lent: the tests of the written rule.
use Rattle.std.specs.Prelude.{ℕ, ◌-◌, Bool, true, false, ◌&&◌, ltb, leb, eqb, Option, Some, None}
use Rattle.format.specs.declared.Record.{Record}
use Rattle.format.specs.Layout.{edition, least_length, most_length, largest_value, record_length}
use Rattle.lookup.specs.declared.Room.{Room}
use Rattle.lookup.specs.declared.Seen.{Seen}
use Rattle.plans.specs.declared.Aim.{Aim}
use Rattle.plans.specs.declared.Lent.{Lent}
use Rattle.plans.specs.declared.Edit.{Edit}
use Rattle.plans.specs.declared.Edits.{Edits}
use Rattle.plans.specs.declared.Then.{Then}
use Rattle.plans.specs.declared.Plan.{Plan}
use Rattle.plans.specs.Answers.{refusal, Answer}
use Rattle.plans.specs.Writes.{value_lent, first}

-- R8.10: what lies within its region: so many bytes from place o on, in a region of s bytes
abbrev pub lies : ℕ → ℕ → ℕ → Bool
lies o len s = leb o s && leb len (s - o)

-- R8.10: a record to make dead has a length of 15 to 4,095 and lies within its region, which has s bytes
abbrev pub record_fits : ℕ → Record → Bool
record_fits s x = leb (least_length edition) x.len && (leb x.len most_length && lies x.at x.len s)

-- R8.10: the region is below N, and the new record, of a value of so many bytes, lies within it
abbrev pub place_fits : ℕ → ℕ → ℕ → ℕ → ℕ → Bool
place_fits s n len r o = ltb r n && lies o (record_length len) s

-- R8.10: a write or an erase that is still to be done lies in the chip
abbrev pub edit_fits : ℕ → ℕ → ℕ → Edit → Bool
edit_fits s n len (Edit.Lay r o) = place_fits s n len r o
edit_fits s n len (Edit.Kill how r x) = ltb r n && record_fits s x
edit_fits s n len (Edit.Erase r) = ltb r n

-- R8.10: all that an operation has still to write or erase lies in the chip
abbrev pub edits_fit : ℕ → ℕ → ℕ → Edits → Bool
edits_fit s n len Edits.Nil = true
edits_fit s n len (Edits.One e) = edit_fits s n len e
edits_fit s n len (Edits.Two e f) = edit_fits s n len e && edit_fits s n len f
edits_fit s n len (Edits.Three e f g) = edit_fits s n len e && (edit_fits s n len f && edit_fits s n len g)
edits_fit s n len (Edits.Erases i m) = leb m n

-- R8.10: the room that was gathered lies in a region below N and is long enough.
abbrev pub room_fits : ℕ → ℕ → ℕ → Option Room → Bool
room_fits s n len None = true
room_fits s n len (Some room) = place_fits s n len room.region room.at

-- R8.10: the same of all that was gathered.
abbrev pub seen_fits : ℕ → ℕ → ℕ → Seen → Bool
seen_fits s n len seen = room_fits s n len seen.room

-- R8.10: what get is lent: a buffer.
abbrev pub lent_buffer : Lent → Bool
lent_buffer Lent.Nothing = false
lent_buffer (Lent.Value len) = false
lent_buffer (Lent.Buffer len) = true

-- R8.10: what the removals and initialise are lent: nothing.
abbrev pub lent_nothing : Lent → Bool
lent_nothing Lent.Nothing = true
lent_nothing (Lent.Value len) = false
lent_nothing (Lent.Buffer len) = false

-- R8.10: what append is lent: a value, or none, where initialise appends.
abbrev pub lent_to_append : Lent → Bool
lent_to_append Lent.Nothing = true
lent_to_append (Lent.Value len) = true
lent_to_append (Lent.Buffer len) = false

-- R8.10: what is lent is what the lookup is for.
abbrev pub lent_for : Aim → Lent → Bool
lent_for Aim.Get lent = lent_buffer lent
lent_for Aim.Append lent = lent_to_append lent
lent_for (Aim.Remove how) lent = lent_nothing lent
lent_for Aim.Initialise lent = lent_nothing lent

-- R8.10: a value that is lent has 4,079 bytes at most.
abbrev pub value_short : Lent → Bool
value_short lent = leb (value_lent lent) (largest_value edition)

-- R8.10: what comes behind the edits. Where a lookup is next, what is lent is what it is for, the place in the probe order is below N, and the room
-- that was gathered lies in a region below N and is long enough. Collect's next region is below N, and it has erased no more regions than it has
-- passed. No operation rests before a value that is to be handed over (`rests`), but within a step one comes to it: its region is below N then, and
-- its record has a length of 15 to 4,095 and lies within the region.
abbrev pub then_fits : ℕ → ℕ → Lent → Then → Bool
then_fits s n lent (Then.Ends answer) = true
then_fits s n lent (Then.Seek aim i seen) = lent_for aim lent && (ltb i n && seen_fits s n (value_lent lent) seen)
then_fits s n lent (Then.Sweep r k) = ltb r n && leb k r
then_fits s n lent (Then.Gives r x anew) = ltb r n && record_fits s x

-- R8.10: no refusal stands behind a write or an erase.
abbrev pub answer_rests : Option Edit → Answer → Bool
answer_rests None answer = true
answer_rests (Some e) answer = eqb (refusal answer) 0

-- R8.10: where an operation may rest: with no refusal behind an edit, and not before a value is given, which the step does that comes to it.
abbrev pub rests : Option Edit → Then → Bool
rests f (Then.Ends answer) = answer_rests f answer
rests f (Then.Seek aim i seen) = true
rests f (Then.Sweep r k) = true
rests f (Then.Gives r x anew) = false

-- R8.10: the rule of a plan: its value, its edits, what comes behind them, and whether an operation may rest there.
abbrev pub plan_fits : ℕ → ℕ → Lent → Plan → Bool
plan_fits s n lent p =
    value_short lent && (edits_fit s n (value_lent lent) p.edits && (then_fits s n lent p.next && rests (first p.edits) p.next))
