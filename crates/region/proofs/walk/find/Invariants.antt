-- `region::walk::find` meets its contract. The loop's invariant: the search from the place finds what the whole search finds.
-- The measure is what is left of the region. Assumes nothing.
use Prim.Native.Nat.{◌≤◌, ◌-◌}
use mathlib.Core.Path.{◌≡◌}
use lib.ListN.{length}
use Rattle.region.specs.Walk.{is_wanted}
use Rattle.region.proofs.Search.{first_from}
use Rattle.region.proofs.walk.find.Given as goal

abbrev pub invariant-loop-stop : goal.invariant-loop-stop
invariant-loop-stop l = (l.at ≤ length l.region) × (first_from (is_wanted l.want) l.region l.at ≡ first_from (is_wanted l.want) l.region 0)

abbrev pub decreases-loop-stop : goal.decreases-loop-stop
decreases-loop-stop l = length l.region - l.at
