-- `intake::is_image` meets its contract: where the image fits, its length is the product.
-- Assumes nothing.
use Rattle.intake.proofs.Taken.{image_is, image_not}
use Rattle.intake.proofs.is_image.Goals as goal

pub returns-then-fits : goal.returns-then-fits
returns-then-fits c = let a = c.args in image_is a.image.now a.s a.n c.fits.ensures c.if-fits.true

pub returns-else-fits : goal.returns-else-fits
returns-else-fits c = let a = c.args in image_not a.image.now a.s a.n c.fits.ensures c.if-fits.false
