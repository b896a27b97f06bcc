-- `get_region` meets its contract: what is left by a remainder is below the divisor.
use native.Mathlib.Nat.{mod-lt}
use native.Mathlib.Omega.{arith}
use Rattle.probe.proofs.get_region.Goals as goal

pub returns : goal.returns
returns c = (omega arith, mod-lt _ c.requires)
