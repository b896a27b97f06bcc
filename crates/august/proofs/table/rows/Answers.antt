-- `august::table::rows` meets its contract, that it is safe and ends: the record that is found lies in the region.
-- Invariant and measure: Invariants.antt. Assumes nothing.
use native.Mathlib.Omega.{arith}
use mathlib.Core.Path.{◌∙◌, sym}
use Rattle.region.proofs.Steps.{found_fits}
use Rattle.august.proofs.table.rows.Goals as goal

pub record_row-requires : goal.record_row-requires
record_row-requires g c = (found_fits c.args.region.now c.loop-rec.at c.in-Ok.rec (sym c.look.ensures ∙ c.in-Ok.is)).0

pub overflow_add-at : goal.overflow_add-at
overflow_add-at g c = omega (arith, found_fits c.args.region.now c.loop-rec.at c.in-Ok.rec (sym c.look.ensures ∙ c.in-Ok.is))

pub loop-rec-smaller : goal.loop-rec-smaller
loop-rec-smaller g c = omega (arith, found_fits c.args.region.now c.loop-rec.at c.in-Ok.rec (sym c.look.ensures ∙ c.in-Ok.is))

pub loop-rec-preserved : goal.loop-rec-preserved
loop-rec-preserved g c = (found_fits c.args.region.now c.loop-rec.at c.in-Ok.rec (sym c.look.ensures ∙ c.in-Ok.is)).1
