-- `crc32::table` meets its contract: the constant's 256 words are those of the table's rule, word by word.
-- Assumes nothing.
use mathlib.Core.Path.{refl}
use Rattle.crc32.specs.Crc.{shift, shifts}
use Rattle.crc32.proofs.Entries.{values}
use Rattle.crc32.proofs.Law.{table_rule}
use Rattle.crc32.proofs.table.Goals as goal

pub returns : goal.returns
unfolding values shifts shift
returns c = table_rule _ refl
