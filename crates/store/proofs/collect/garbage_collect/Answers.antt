-- `store::collect::garbage_collect` meets its contract.
-- Invariant and measure: Invariants.antt. Assumes nothing.
use native.Mathlib.Omega.{arith}
use mathlib.Core.Path.{refl, sym, ◌∙◌}
use borrow.Author.Tests.{not-true, not-false}
use Rattle.chip.proofs.Image.{region_inside, region_small}
use Rattle.store.specs.Collect.{collect_of}
use Rattle.store.proofs.Sweep.{swept_start, swept_judged, swept_stands, swept_erase, swept_bad, swept_end}
use Rattle.store.proofs.collect.garbage_collect.Goals as goal
use Rattle.store.proofs.collect.garbage_collect.Goals.{in-Stands, in-Erase}

pub returns-then-not-fits : goal.returns-then-not-fits
unfolding collect_of
returns-then-not-fits c = rw (sym c.fits.ensures ∙ not-true _ c.if-not-fits.true-raw) (refl, refl)

pub loop-r-init : goal.loop-r-init
loop-r-init c = swept_start (sym c.fits.ensures ∙ not-false _ c.if-not-fits.false-raw)

pub overflow_mul-a : goal.overflow_mul-a
overflow_mul-a c = omega (arith, region_small c.loop-r.invariant.fits c.loop-r-test.true)

pub overflow_add-e : goal.overflow_add-e
overflow_add-e c = omega (arith, region_small c.loop-r.invariant.fits c.loop-r-test.true)

pub slice_bounds-judge-end : goal.slice_bounds-judge-end
slice_bounds-judge-end c = omega (arith, region_inside c.loop-r.invariant.fits c.loop-r-test.true)

pub judge-verdict-requires : goal.judge-verdict-requires
judge-verdict-requires c = swept_judged c.loop-r.invariant c.loop-r-test.true

pub erase_region-requires : goal.erase_region-requires
erase_region-requires c = (c.loop-r.invariant.fits, c.loop-r-test.true)

pub overflow_add-freed : goal.overflow_add-freed
overflow_add-freed c =
    omega (arith, region_small c.loop-r.invariant.fits c.loop-r-test.true, c.loop-r.invariant.few)

pub loop-r-preserved : goal.loop-r-preserved
loop-r-preserved c =
    let w = c.loop-r.invariant in
    elim c.match-verdict.branch [
      | in-Stands b ↦ rw (b.image-is, b.freed-is) (swept_stands w c.loop-r-test.true c.judge-verdict.ensures b.in-Stands.is)
      | in-Erase b ↦ rw (b.image-is, b.freed-is) (swept_erase w c.loop-r-test.true c.judge-verdict.ensures b.in-Erase.is b.erase_region.ensures)
    ]

pub returns : goal.returns
returns c = swept_end c.loop-r.invariant c.loop-r-test.false

pub returns-in-Bad : goal.returns-in-Bad
returns-in-Bad c =
    swept_bad c.loop-r.invariant c.loop-r-test.true c.judge-verdict.ensures c.in-Bad.is c.into.ensures
