-- `crc32::update` meets its contract. The loop's invariant: the bytes that are left, after the state, make what all of them make after the first state.
-- Assumes nothing.
use mathlib.Core.Path.{◌≡◌}
use lib.ListN.{drop}
use Rattle.crc32.specs.Crc.{run}
use Rattle.crc32.proofs.update.Given as goal

abbrev pub invariant-loop-byte : goal.invariant-loop-byte
invariant-loop-byte l = run l.crc l.bytes ≡ run l.state (drop l.byte-index l.bytes)
