-- `placing::land_kill` meets its contract: byte 1 of the dead header alone, or that header and zeros behind it.
-- Assumes nothing.
use native.Mathlib.Nat.{add-zero}
use native.Mathlib.Omega.{arith}
use Rattle.placing.proofs.Laid.{laid_zeros}
use Rattle.placing.proofs.land_kill.Goals as goal

pub returns-in-Invalidate : goal.returns-in-Invalidate
returns-in-Invalidate g c = rw (c.in-Invalidate.is, c.land.ensures, c.dead_header-head.ensures)

pub returns-in-Zeroise : goal.returns-in-Zeroise
returns-in-Zeroise g c =
    let a = c.args in
    rw (c.in-Zeroise.is, add-zero)
    (laid_zeros g.L.Landing.run a.part.now _ _ _ a.at a.rec (omega arith) (omega arith) c.land-in-Zeroise.ensures c.dead_header-head.ensures c.fill.ensures)
