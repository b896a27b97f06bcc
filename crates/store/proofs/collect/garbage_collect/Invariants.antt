-- `store::collect::garbage_collect` meets its contract. The loop's invariant: what is left to do is what the whole would do.
-- Assumes nothing.
use Rattle.store.proofs.Sweep.{Swept}
use Rattle.store.proofs.collect.garbage_collect.Given as goal

abbrev pub invariant-loop-r : goal.invariant-loop-r
invariant-loop-r l = Swept l.initial.image l.s l.n l.image l.freed l.r
