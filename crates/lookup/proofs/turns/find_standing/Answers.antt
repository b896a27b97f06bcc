-- `lookup::turns::find_standing` meets its contract: the record that is found lies in its region, and the region in the image.
-- Assumes nothing.
use mathlib.Core.Path.{sym, ◌∙◌, ap}
use lib.ListN.{length}
use Rattle.lookup.proofs.Ends.{Held, held}
use Rattle.lookup.proofs.turns.find_standing.Goals as goal
use Rattle.lookup.proofs.turns.find_standing.Goals.{In_ok-region, After-region}

-- the record that is found
here : (c : In_ok-region) → let a = c.args in let h = c.in_ok-region.field-0 in Held a.image.now a.s a.n a.key h.region h.rec
here c = held _ _ _ _ _ _ (sym c.in_ok-region.ensures)

pub invariant_of-chip : goal.invariant_of-chip
invariant_of-chip c = record { fits = (here (goal.at.invariant_of-chip c).In_ok-region).fit }

pub region-requires : goal.region-requires
region-requires c = (here (goal.at.region-requires c).In_ok-region).found.number

pub invariant_of-standing : goal.invariant_of-standing
invariant_of-standing c =
    let h = here (goal.at.invariant_of-standing c).In_ok-region in
    record { least = h.found.least; inside = rw (c.region.ensures, h.size) h.found.fits }

pub returns-clause-size : goal.returns-clause-size
returns-clause-size c = ap length c.region.ensures ∙ (here (goal.at.returns-clause-size c).In_ok-region).size
