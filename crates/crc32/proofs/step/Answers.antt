-- `crc32::step` meets its contract: the law of one byte, with the table's word.
-- Assumes nothing.
use lib.Bits.{xor_lt}
use native.Mathlib.Omega.{arith}
use borrow.Author.Rules.{rules}
use Rattle.crc32.proofs.Law.{byte_step}
use Rattle.crc32.proofs.step.Goals as goal

-- a byte and the state's top eight bits make a byte's value
pub table_entry-requires : goal.table_entry-requires
table_entry-requires c = xor_lt 8 c.args.byte _ (omega arith) (omega arith)

pub returns : goal.returns
returns c = search (byte_step, rules)
