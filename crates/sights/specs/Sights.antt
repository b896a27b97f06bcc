-- What is found in a chip, in numbers, as C and Rust see it.
use Rattle.std.specs.Prelude.{ℕ, ◌+◌, ◌*◌, ◌≤◌, ◌<◌, Bool, cond, Result, ⊤}
use Rattle.format.specs.declared.Record.{Record}
use Rattle.format.specs.Layout.{header_length, live}
use Rattle.region.specs.Walk.{value_length}
use Rattle.refusals.specs.declared.Refusal.{Refusal}
use Rattle.refusals.specs.Refusals.{number, refusal_of}
use Rattle.entries.specs.declared.Place.{Place}
use Rattle.entries.specs.declared.Entry.{Entry}
use Rattle.entries.specs.declared.Shown.{Shown}
use Rattle.lending.specs.declared.Part.{Part}
use Rattle.lending.specs.Lending.{answer_of, place_of}
use Rattle.plans.specs.Answers.{Answer}
use Rattle.replies.specs.Answers.{answer_numbers}
use Rattle.sights.specs.declared.CFound.{CFound}
use Rattle.sights.specs.declared.CEntry.{CEntry}

-- R16.11: yes is 1, no is 0
abbrev pub flag : Bool → ℕ
flag b = cond b 1 0

-- R16.11: an answer's numbers and the place beside them
abbrev pub found_numbers : Answer → ℕ → CFound
found_numbers answer place = record { answer = answer_numbers answer; place = place }

-- R16.11: where a value is: the answer's numbers and the place
abbrev pub part_numbers : Result Part Refusal → CFound
part_numbers found = found_numbers (answer_of found) (place_of found)

-- R16.11: no record stands there: the kind, the refusal's number, and where to go on; the rest is 0
abbrev pub empty_numbers : ℕ → ℕ → Place → CEntry
empty_numbers kind refusal next =
    record {
      kind = kind;
      refusal = refusal;
      live = 0;
      sound = 0;
      key = 0;
      place = 0;
      length = 0;
      next = next;
    }

-- R16.11: a record: whether it is live and its checksum right, its key, the image place and the length of its value, and where to go on. By the
-- image place where its region begins.
abbrev pub record_numbers : ℕ → Record → Bool → Place → CEntry
record_numbers start x sound next =
    record {
      kind = 1;
      refusal = 0;
      live = flag (live x);
      sound = flag sound;
      key = x.key;
      place = start + x.at + header_length x.version;
      length = value_length x;
      next = next;
    }

-- R16.11: 0 refused, 1 a record, 2 the region ends here, 3 the place is bad, 4 there is no such region. By the image place where the region begins.
abbrev pub entry_numbers : ℕ → Place → Entry → CEntry
entry_numbers start next (Entry.Stands x sound) = record_numbers start x sound next
entry_numbers start next Entry.Ends = empty_numbers 2 0 next
entry_numbers start next (Entry.Bad f) = empty_numbers 3 (number (refusal_of f)) next
entry_numbers start next Entry.Over = empty_numbers 4 0 next
entry_numbers start next (Entry.Refused w) = empty_numbers 0 (number w) next

-- R16.11: what stands at a place of region r, in numbers, for regions of s bytes.
abbrev pub shown_numbers : ℕ → ℕ → Shown → CEntry
shown_numbers s r t = entry_numbers (r * s) t.next t.entry

-- R16.4: a record that stands at a place is a whole one, and its image place is a number of 64 bits: so it is of whatever the call shows.
abbrev pub StandsIn : ℕ → ℕ → Entry → Type 0
StandsIn s r (Entry.Stands x sound) = (15 ≤ x.len) × (r * s + x.at + 11 < 18446744073709551616)
StandsIn s r Entry.Ends = ⊤
StandsIn s r (Entry.Bad f) = ⊤
StandsIn s r Entry.Over = ⊤
StandsIn s r (Entry.Refused w) = ⊤
