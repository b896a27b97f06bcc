-- A pass over a chip, as a caller makes it, and what its calls come to.
use Rattle.std.specs.Prelude.{ℕ, zero, suc, ◌+◌, ◌*◌, ◌/◌, List, [], ◌∷◌, length}
use Rattle.std.proofs.Math.Option.{Option, none, some}
use Rattle.format.specs.Layout.{edition, least_length}
use Rattle.entries.specs.declared.Entry.{Entry}
use Rattle.entries.specs.Entries.{shown_at}
use Rattle.entries.specs.Inventory.{Item, Last, through, bad, refused, Inventory}

-- R16.6: what a pass has: the records that it was given, and how it stopped, if it did
pub record Pass : Type 0 where
  pub items : List Item
  pub stopped : Option Last

-- R16.6: one record more in front
abbrev pub with : Item → Pass → Pass
with x p = record { items = x ∷ p.items; stopped = p.stopped }

-- R16.6: nothing more is asked for
abbrev pub stops : Last → Pass
stops last = record { items = []; stopped = some last }

-- R16.6: what a call gave at place o of region r, and what the calls behind it give
abbrev pub pass_by : ℕ → ℕ → Entry → Pass → Pass
pass_by r o (Entry.Stands x sound) rest = with (record { region = r; rec = x; sound = sound }) rest
pass_by r o Entry.Ends rest = rest
pass_by r o (Entry.Bad f) rest = stops (bad r o f)
pass_by r o Entry.Over rest = stops through
pass_by r o (Entry.Refused w) rest = stops (refused w)

-- R16.6: from place o of region r on, the next call where the last one said, until a bad place, no region or a refusal stops it. In so many
-- calls at most.
unfoldable pub pass_from : ℕ → List ℕ → ℕ → ℕ → ℕ → ℕ → Pass
pass_from zero image s n r o = record { items = []; stopped = none }
pass_from (suc k) image s n r o =
    pass_by r o (shown_at image s n r o).entry (pass_from k image s n (shown_at image s n r o).next.region (shown_at image s n r o).next.at)

-- R16.6: a pass, from the chip's first place on.
abbrev pub pass : ℕ → List ℕ → ℕ → ℕ → Pass
pass k image s n = pass_from k image s n 0 0

-- R16.6: a pass that came to its end has this.
abbrev pub whole : Inventory → Pass
whole v = record { items = v.items; stopped = some v.last }

-- R16.6: a call for each record and each region, and one that is told that there is no region left
abbrev pub calls_for : Inventory → ℕ → ℕ
calls_for v n = length v.items + n + 1

-- R16.6: a region has a record for each 15 bytes at most: so many calls are enough on any image of N regions of S bytes
abbrev pub most_calls : ℕ → ℕ → ℕ
most_calls s n = n * (s / least_length edition + 1) + 1
