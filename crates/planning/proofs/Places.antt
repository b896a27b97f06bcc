-- Append's plan where no record of the key was met: what holds of the plan of every place, and of none, holds of it.
-- Assumes nothing.
use Rattle.std.specs.Prelude.{Option}
use Rattle.lookup.specs.declared.Room.{Room}
use Rattle.lookup.specs.declared.Seen.{Seen}
use Rattle.lookup.specs.declared.Looked.{Looked}
use Rattle.plans.specs.declared.Plan.{Plan}
use Rattle.planning.specs.Planning.{place_plan, append_plan}

pub by_place : (P : Plan → Type 0) → ((place : Option Room) → P (place_plan place)) → (seen : Seen) → P (append_plan (Looked.Through seen))
by_place P holds seen = holds seen.room
