-- `store::write::make_edits` meets its contract. The loop's invariant: what is left, on the image as it now is, makes what the whole makes.
-- The measure is how many edits are left. Assumes nothing.
use lib.ListN.{length}
use Rattle.plans.specs.Writes.{listed}
use Rattle.store.proofs.Edits.{Left}
use Rattle.store.proofs.write.make_edits.Given as goal

abbrev pub invariant-loop-edit : goal.invariant-loop-edit
invariant-loop-edit l = Left l.initial.image l.s l.n l.initial.left l.key l.value l.image l.left

abbrev pub decreases-loop-edit : goal.decreases-loop-edit
decreases-loop-edit l = length (listed l.left)
