-- `listing::list_from` meets its contract: at each entry what is still to be put, behind what is put, makes up the whole.
-- Assumes nothing.
use Rattle.listing.proofs.Passing.{On}
use Rattle.listing.proofs.list_from.Given as goal

abbrev pub invariant-loop-place : goal.invariant-loop-place
invariant-loop-place l =
    goal.iterator-loop-place.can_next l.place-iterator
    × goal.iterator-loop-place.is_finite l.place-iterator
    × On l.fn.chip l.initial.page l.page l.place-iterator
