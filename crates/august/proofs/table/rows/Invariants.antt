-- `august::table::rows` meets its contract, that it is safe and ends. The loop's invariant: the place lies in the region.
-- The measure is what is left of the region. Assumes nothing.
use Prim.Native.Nat.{◌-◌, ◌≤◌}
use lib.ListN.{length}
use Rattle.august.proofs.table.rows.Given as goal

abbrev pub invariant-loop-rec : goal.invariant-loop-rec
invariant-loop-rec g l = l.at ≤ length l.region

abbrev pub decreases-loop-rec : goal.decreases-loop-rec
decreases-loop-rec g l = length l.region - l.at
