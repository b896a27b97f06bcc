-- `probe_at` meets its contract: at each return the region stands at place i of the order, by its distance from home.
use native.Mathlib.Omega.{arith}
use Rattle.probe.proofs.Order.{above, below, probe_found}
use Rattle.probe.proofs.probe_at.Goals as goal

pub returns-then-home-d : goal.returns-then-home-d
returns-then-home-d c = probe_found _ _ (omega arith) (above (omega arith) (omega arith) (omega arith))

pub returns-then-above-d : goal.returns-then-above-d
returns-then-above-d c = probe_found _ _ (omega arith) (below (omega arith) (omega arith))

pub returns-then-i-eq0 : goal.returns-then-i-eq0
returns-then-i-eq0 c = probe_found _ _ (omega arith) (below (omega arith) (omega arith))

pub returns-else-i-eq0 : goal.returns-else-i-eq0
returns-else-i-eq0 c = probe_found _ _ (omega arith) (above (omega arith) (omega arith) (omega arith))
