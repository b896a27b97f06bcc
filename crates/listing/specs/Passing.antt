-- A pass over a chip, entry by entry, up to the first bad place.
use Rattle.std.specs.Prelude.{ℕ, ◌≡◌, ◌+◌, ◌-◌, ◌*◌, Option, Some, None}
use Rattle.std.specs.Iterator.{at_most, Count}
use Rattle.entries.specs.declared.Place.{Place}
use Rattle.entries.specs.declared.Entry.{Entry}
use Rattle.entries.specs.declared.Shown.{Shown}
use Rattle.entries.specs.Entries.{shown_at}
use Rattle.listing.specs.declared.Entries.{Entries}

-- R16.6: what a pass is given at a place: what stands there, or nothing where the chip is through or there is none
abbrev pub item_at : Place → Entry → Option (Place × Entry)
item_at here (Entry.Stands x sound) = Some (here, Entry.Stands x sound)
item_at here Entry.Ends = Some (here, Entry.Ends)
item_at here (Entry.Bad f) = Some (here, Entry.Bad f)
item_at here Entry.Over = None
item_at here (Entry.Refused w) = None

-- R16.6: where it goes on: where the call says, but behind a bad place there is nothing.
abbrev pub goes_to : ℕ → Entry → Place → Place
goes_to n (Entry.Stands x sound) next = next
goes_to n Entry.Ends next = next
goes_to n (Entry.Bad f) next = record { region = n; at = 0 }
goes_to n Entry.Over next = next
goes_to n (Entry.Refused w) next = next

-- R16.4: what the call shows at the place where a pass is
abbrev pub shown_here : Entries → Shown
shown_here p = shown_at p.chip.image.now p.chip.s p.chip.n p.here.region p.here.at

-- R16.6: one entry of a pass: the next is looked for in the same chip, where the call says.
abbrev pub Passes : Entries → Option (Place × Entry) → Entries → Type 0
Passes p r q =
    (r ≡ item_at p.here (shown_here p).entry)
    × (q.here ≡ goes_to p.chip.n (shown_here p).entry (shown_here p).next)
    × (q.chip ≡ p.chip)

-- R16.6: how much is to be looked at yet: regions, and places of this one
abbrev pub ahead : ℕ → ℕ → ℕ → ℕ → ℕ
ahead s n r o = (n - r) * (s + 1) + (s - o)

-- R16.6: so a pass ends.
abbrev pub to_come : Entries → Count
to_come p = at_most (ahead p.chip.s p.chip.n p.here.region p.here.at)
