-- Words of the theorems on a lookup.
use Rattle.lookup.specs.declared.Looked.{Looked}
use Rattle.lookup.specs.declared.Seen.{Seen}
use Rattle.std.specs.declared.ops.ControlFlow.TheVariants.{Break, Continue}
use Rattle.std.specs.declared.ops.ControlFlow.{ControlFlow}
use Rattle.std.specs.Prelude.{ℕ, ◌≡◌, Bool, true, false, List, [], ◌∷◌, Option, None}
use Rattle.chip.specs.Geometry.{region_of}
use Rattle.region.specs.declared.Stop.{Stop}
use Rattle.region.specs.Walk.{ending}
use Rattle.lookup.specs.declared.Room.{Room}
use Rattle.lookup.specs.Gather.{unseen, or_room, room_at}
use Rattle.lookup.specs.Turns.{turn_of}

-- R5.4: room for a record of so many bytes in region r, where its walk ended. A walk that met a bad place did not end.
abbrev pub room_on : ℕ → ℕ → List ℕ → Stop → Option Room
room_on len r region (Stop.End o) = room_at len r o region
room_on len r region (Stop.Bad f o) = None

-- R5.4: the first region that has room, in the order of a list
unfoldable pub first_room : ℕ → ℕ → List ℕ → List ℕ → Option Room
first_room len s image [] = None
first_room len s image (r ∷ rs) = or_room (room_on len r (region_of s image r) (ending (region_of s image r))) (first_room len s image rs)

-- R5.1: a region did not decide, and the lookup goes on
abbrev pub goes_on : ControlFlow Looked Seen → Bool
goes_on (Continue seen) = true
goes_on (Break looked) = false

-- R5.1: a region does not decide: a lookup of the key goes on behind it.
abbrev pub Passed : List ℕ → ℕ → ℕ → ℕ → Type 0
Passed image s key q = goes_on (turn_of unseen key None q (region_of s image q)) ≡ true
