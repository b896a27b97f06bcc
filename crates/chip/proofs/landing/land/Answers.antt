-- `chip::landing::land` meets its contract: one byte more lands in each turn, and none is left.
-- Invariant: Invariants.antt. Assumes nothing.
use Rattle.chip.proofs.Runs.{run_one, run_none}
use borrow.Author.Rules.{rules}
use Rattle.chip.proofs.landing.land.Goals as goal

pub loop-i-preserved : goal.loop-i-preserved
loop-i-preserved g c = search (run_one g.L.Landing.run, rules)

pub returns : goal.returns
returns g c = search (run_none g.L.Landing.run, rules)
