-- What stands at a place of a chip, for any image, S, N, region and place, and where to go on.
use Rattle.std.specs.Prelude.{ℕ, ◌+◌, Bool, cond, List, Result, Ok, Err, ltb}
use Rattle.chip.specs.Geometry.{geometry, region_of}
use Rattle.format.specs.declared.Record.{Record}
use Rattle.format.specs.Layout.{check_sum_fits}
use Rattle.region.specs.declared.Stop.{Stop}
use Rattle.region.specs.declared.Stop.TheVariants.{End, Bad}
use Rattle.region.specs.Walk.{met_at, bytes_in}
use Rattle.refusals.specs.declared.Refusal.{Refusal}
use Rattle.entries.specs.declared.Entry.{Entry}
use Rattle.entries.specs.declared.Shown.{Shown}

-- R3.6, R16.4: whether the checksum of a record of a region is right
abbrev pub sound_in : List ℕ → Record → Bool
sound_in region x = check_sum_fits (bytes_in region x)

-- R16.4: by what a walk of the region meets there: a record, and whether its checksum is right; that the walk ends; or why the place is bad
abbrev pub entry_of : List ℕ → Result Record Stop → Entry
entry_of region (Ok x) = Entry.Stands x (sound_in region x)
entry_of region (Err (End o)) = Entry.Ends
entry_of region (Err (Bad f o)) = Entry.Bad f

-- R16.4: what stands at a place of a region.
abbrev pub entry_in : List ℕ → ℕ → Entry
entry_in region o = entry_of region (met_at region o)

-- R16.4: what stands at place o of region r: BadGeometry where the image is no chip's (R6.1), and where there is no region r, the chip is through.
unfoldable pub entry_at : List ℕ → ℕ → ℕ → ℕ → ℕ → Entry
entry_at image s n r o =
    cond (geometry image s n) (cond (ltb r n) (entry_in (region_of s image r) o) Entry.Over) (Entry.Refused Refusal.BadGeometry)

-- R16.5: there is nowhere to go on: the place is the same.
abbrev pub staying : Entry → ℕ → ℕ → Shown
staying entry r o = record { entry = entry; next = record { region = r; at = o } }

-- R16.5: on to the start of the next region.
abbrev pub going_on : Entry → ℕ → Shown
going_on entry r = record { entry = entry; next = record { region = r + 1; at = 0 } }

-- R16.5: where to go on: behind a record; where a region ends or is bad, at the start of the next one.
abbrev pub shown : ℕ → ℕ → Entry → Shown
shown r o (Entry.Stands x sound) = record { entry = Entry.Stands x sound; next = record { region = r; at = o + x.len } }
shown r o Entry.Ends = going_on Entry.Ends r
shown r o (Entry.Bad f) = going_on (Entry.Bad f) r
shown r o Entry.Over = staying Entry.Over r o
shown r o (Entry.Refused w) = staying (Entry.Refused w) r o

-- R16.4, R16.5: the call: what stands at place o of region r, and where to go on.
abbrev pub shown_at : List ℕ → ℕ → ℕ → ℕ → ℕ → Shown
shown_at image s n r o = shown r o (entry_at image s n r o)
