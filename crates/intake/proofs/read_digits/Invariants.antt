-- `intake::read_digits` meets its contract. The loop's invariant: what is left, read on from what is held, gives the number.
-- The measure is what is left of the length. Assumes nothing.
use lib.ListN.{length}
use Rattle.intake.proofs.Digits.{Reading}
use Rattle.intake.proofs.read_digits.Given as goal

abbrev pub invariant-loop-byte : goal.invariant-loop-byte
invariant-loop-byte l = Reading l.text l.value l.rest

abbrev pub decreases-loop-byte : goal.decreases-loop-byte
decreases-loop-byte l = length l.rest
