-- `crc32::update` meets its contract.
-- Invariant: Invariants.antt. Assumes nothing.
use borrow.Author.Rules.{rules}
use Rattle.crc32.proofs.Run.{run_next, run_end}
use Rattle.crc32.proofs.update.Goals as goal

pub loop-byte-preserved : goal.loop-byte-preserved
loop-byte-preserved c = search (run_next, rules)

pub returns : goal.returns
returns c = search (run_end, rules)
