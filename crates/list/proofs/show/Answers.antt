-- `list::show` is safe: what is called text lies in the buffer.
-- Assumes nothing.
use native.Mathlib.Omega.{arith}
use mathlib.Core.Path.{sym}
use lib.Seq.{length-take-le}
use Rattle.listing.proofs.Theorems.{text_inside}
use Rattle.list.proofs.show.Goals as goal

pub slice_bounds-write_all-end : goal.slice_bounds-write_all-end
slice_bounds-write_all-end c = omega (arith, text_inside c.args.input.now c.args.text.now)

pub slice_bounds-write_all-end-2 : goal.slice_bounds-write_all-end-2
slice_bounds-write_all-end-2 c = sym (length-take-le _ _ (omega (arith, text_inside c.args.input.now c.args.text.now)))
