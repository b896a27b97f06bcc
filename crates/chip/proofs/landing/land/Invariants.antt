-- `chip::landing::land` meets its contract. The loop's invariant: what is left to land, landed, gives the whole.
-- Assumes nothing.
use Prim.Native.Nat.{◌+◌}
use mathlib.Core.Path.{◌≡◌}
use lib.ListN.{drop}
use Rattle.chip.proofs.landing.land.Given as goal

abbrev pub invariant-loop-i : goal.invariant-loop-i
invariant-loop-i g l = let landed = g.L.Landing.landed in landed l.part (l.at + l.i) (drop l.i l.new) ≡ landed l.initial.part l.at l.new
