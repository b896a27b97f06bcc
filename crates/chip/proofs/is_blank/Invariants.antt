-- `chip::is_blank` meets its contract. The loop's invariant: the part is blank where what is left of it is.
-- Assumes nothing.
use Rattle.std.proofs.Common.{◌≡◌}
use Rattle.chip.specs.Chip.{is_blank}
use Rattle.chip.proofs.is_blank.Given as goal

abbrev pub invariant-loop-block : goal.invariant-loop-block
invariant-loop-block l = is_blank l.block-iterator.rest.now ≡ is_blank l.part
