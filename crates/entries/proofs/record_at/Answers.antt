-- `entries::record_at` meets its contract: the tests of the code are the definition's, and what is shown goes by what stands there.
-- Assumes nothing.
use native.Mathlib.Omega.{arith}
use mathlib.Core.Path.{◌≡◌, sym, ◌∙◌, ap}
use Rattle.chip.specs.Geometry.{Fits, region_of}
use Rattle.chip.proofs.Image.{geometry_fits}
use Rattle.entries.specs.Entries.{entry_in, entry_at, shown}
use Rattle.entries.proofs.Looks.{no_chip, no_region, in_region_lem, goes_on, stays, stands_small, regions_few}
use Rattle.entries.proofs.record_at.Goals as goal
use Rattle.entries.proofs.record_at.Goals.{In-Some, After-look_in-entry}

-- the image is a chip's
whole : (c : In-Some) → let a = c.args in Fits a.image.now a.s a.n
whole c = geometry_fits (sym c.in-Some.ensures.one)

-- what the code found in the region is what stands there in the chip
entry_is : (c : After-look_in-entry) → let a = c.args in c.look_in-entry.result ≡ entry_at a.image.now a.s a.n a.region a.at
entry_is c =
    let a = c.args in
    let t = c.in-Some.ensures in
    c.look_in-entry.ensures
    ∙ ap (λ part. entry_in part a.at) (c.region.ensures ∙ (λ i. region_of (t.same.1 i) (t.same.0 i) a.region))
    ∙ sym (in_region_lem a.image.now a.s a.n a.region a.at (sym t.one) c.if-region-n.false)

pub returns-in_default : goal.returns-in_default
returns-in_default c = c.stay.ensures ∙ no_chip c.args.image.now _ _ _ _ (sym c.in_default.ensures.one)

pub returns-then-region-n : goal.returns-then-region-n
returns-then-region-n c = c.stay-then-region-n.ensures ∙ no_region c.args.image.now _ _ _ _ (sym c.in-Some.ensures.one) c.if-region-n.true

pub region-requires : goal.region-requires
region-requires c = omega (arith, c.in-Some.ensures.same.2, c.if-region-n.false)

pub overflow_add-result : goal.overflow_add-result
overflow_add-result c =
    let a = c.args in
    let f = whole (goal.at.overflow_add-result c).In-Some in
    omega (arith, stands_small f a.region a.at c.if-region-n.false (sym (entry_is (goal.at.overflow_add-result c).After-look_in-entry) ∙ c.in-Stands.is))

pub go_on-requires : goal.go_on-requires
go_on-requires c = omega (arith, regions_few (whole (goal.at.go_on-requires c).In-Some), c.if-region-n.false)

pub returns-in-Stands : goal.returns-in-Stands
returns-in-Stands c =
    let a = c.args in
    ap (shown a.region a.at) (sym c.in-Stands.is ∙ entry_is (goal.at.returns-in-Stands c).After-look_in-entry)

pub returns-in-Ends : goal.returns-in-Ends
returns-in-Ends c =
    let a = c.args in
    c.go_on.ensures ∙ goes_on a.region a.at _ c.in-Ends.is ∙ ap (shown a.region a.at) (entry_is (goal.at.returns-in-Ends c).After-look_in-entry)

pub returns-in-Over : goal.returns-in-Over
returns-in-Over c =
    let a = c.args in
    c.stay-in-Over.ensures ∙ stays a.region a.at _ c.in-Over.is ∙ ap (shown a.region a.at) (entry_is (goal.at.returns-in-Over c).After-look_in-entry)
