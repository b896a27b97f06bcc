-- `chip::geometry::erase_region` meets its contract: the region lies in the image, and comes back erased.
-- Assumes nothing.
use Rattle.chip.proofs.Image.{erased_in_part}
use Rattle.chip.proofs.geometry.erase_region.Goals as goal

pub returns : goal.returns
returns c =
    let p = c.requires in
    rw c.erase.ensures (erased_in_part p.0 p.1)
