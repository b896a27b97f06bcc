-- `advancing::advance::next_plan` meets its contract: where the service is done, what it leaves lies in the chip.
-- Assumes nothing.
use Rattle.advancing.proofs.Keeps.{advance_gives}
use Rattle.advancing.proofs.advance.next_plan.Goals as goal

pub give-requires : goal.give-requires
give-requires c = let a = c.args in rw c.advanced.ensures (advance_gives a.ruled.op a.region.now a.ruled.ruled c.requires)
