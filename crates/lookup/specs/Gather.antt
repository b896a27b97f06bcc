-- What a lookup gathers on its way: its fields are named here, in the rule of running operations and in the numbers for C, and nowhere else.
use Rattle.std.specs.Prelude.{ℕ, Bool, ◌+◌, cond, List, leb, length, take, drop, Option, Some, None}
use Rattle.chip.specs.Chip.{is_blank}
use Rattle.lookup.specs.declared.Room.{Room}
use Rattle.lookup.specs.declared.Seen.{Seen}

-- R5.4: a region with room, the place there, and whether the record's place is blank
abbrev pub some_room : ℕ → ℕ → Bool → Option Room
some_room r o blank = Some (record { region = r; at = o; blank = blank })

-- R5.4: what append's lookup gathers on its way, before the first region
abbrev pub unseen : Seen
unseen = record { room = None }

-- R5.4: what is gathered, with another room
abbrev pub with_room : Option Room → Seen → Seen
with_room room seen = record { room = room }

-- R5.4: the first region that has room: the first of the two that is one
abbrev pub or_room : Option Room → Option Room → Option Room
or_room None later = later
or_room (Some room) later = Some room

-- R5.4: a region has room where the walk ended at o, and o plus the record's length is at most S: for a record of so many bytes in region r.
-- And whether every byte of the record's place there is 255.
abbrev pub room_at : ℕ → ℕ → ℕ → List ℕ → Option Room
room_at len r o region = cond (leb (o + len) (length region)) (some_room r o (is_blank (take len (drop o region)))) None

-- R5.4: the first region in probe order that has room: what is gathered after region r, whose walk ended at o and which did not decide
abbrev pub noted : Seen → Option ℕ → ℕ → List ℕ → ℕ → Seen
noted seen None r region o = seen
noted seen (Some len) r region o = with_room (or_room seen.room (room_at len r o region)) seen
