-- `listing::list_from` meets its contract: at each entry what is still to be put, behind what is put, makes up the whole.
-- Assumes nothing.
use mathlib.Core.Path.{ap}
use Rattle.listing.specs.declared.Entries.{Entries}
use Rattle.listing.proofs.Passing.{on_first, line_room, line_put, bad_room, bad_put, none_put, all_put}
use Rattle.listing.proofs.list_from.Goals as goal

pub loop-place-init : goal.loop-place-init
loop-place-init c = (tt, tt, on_first c.args.chip.now.fits c.args.page.now _ (ap (λ (i : Entries). i.chip) c.into_iter-place-iterator.ensures.into_iter_gives) (ap (λ (i : Entries). i.here) c.into_iter-place-iterator.ensures.into_iter_gives))

pub put_line-requires : goal.put_line-requires
put_line-requires c =
    let z = c.requires in
    line_room c.args.chip.now.fits c.loop-place.invariant.2 c.next.new.self c.in-Some.ensures.steps _ _ c.in-Stands.is z.0 z.1 z.2

pub loop-place-preserved-in-Stands : goal.loop-place-preserved-in-Stands
loop-place-preserved-in-Stands c =
    (tt, tt, line_put c.args.chip.now.fits c.loop-place.invariant.2 c.next.new.self c.in-Some.ensures.steps _ _ c.in-Stands.is c.put_line.new.self c.put_line.ensures)

pub put_bad-requires : goal.put_bad-requires
put_bad-requires c =
    let z = c.requires in
    bad_room c.args.chip.now.fits c.loop-place.invariant.2 c.next.new.self c.in-Some.ensures.steps _ c.in-Bad.is z.0 z.1 z.2

pub loop-place-preserved-in-Bad : goal.loop-place-preserved-in-Bad
loop-place-preserved-in-Bad c =
    (tt, tt, bad_put c.args.chip.now.fits c.loop-place.invariant.2 c.next.new.self c.in-Some.ensures.steps _ c.in-Bad.is c.put_bad.new.self c.put_bad.ensures)

pub loop-place-preserved : goal.loop-place-preserved
loop-place-preserved c =
    (tt, tt, none_put c.args.chip.now.fits c.loop-place.invariant.2 c.next.new.self c.in-Some.ensures.steps c.in_default.not-Stands c.in_default.not-Bad)

pub returns : goal.returns
returns c = all_put c.args.chip.now.fits c.loop-place.invariant.2 c.next.new.self c.in-None.ensures.steps
