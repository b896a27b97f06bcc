-- `placing::land_record` meets its contract: header, value and checksum, one run after the other.
-- Assumes nothing.
use Rattle.placing.proofs.Laid.{laid_record}
use borrow.Author.Rules.{rules}
use Rattle.placing.proofs.land_record.Goals as goal

pub returns : goal.returns
returns g c = search (laid_record g.L.Landing.run, rules)
