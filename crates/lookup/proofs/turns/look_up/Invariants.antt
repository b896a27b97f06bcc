-- `lookup::turns::look_up` meets its contract. The loop's invariant: the regions that are left, with what is gathered, decide as all do.
-- Assumes nothing.
use mathlib.Core.Path.{◌≡◌}
use lib.ListN.{drop}
use Rattle.probe.specs.Probe.{probes}
use Rattle.lookup.specs.Turns.{look_from, lookup_in}
use Rattle.lookup.proofs.turns.look_up.Given as goal

abbrev pub invariant-loop-i : goal.invariant-loop-i
invariant-loop-i l =
    let c = l.chip in
    look_from l.seen l.key l.need c.s c.image.now (drop l.i (probes l.key c.n)) ≡ lookup_in l.key l.need c.s c.image.now (probes l.key c.n)
