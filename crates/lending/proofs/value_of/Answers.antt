-- `lending::value_of` meets its contract: the part that is found lies in the image.
-- Assumes nothing.
use native.Mathlib.Omega.{arith}
use mathlib.Core.Path.{sym, ◌∙◌}
use Rattle.lending.proofs.Lies.{part_inside}
use Rattle.lending.proofs.value_of.Goals as goal

pub overflow_add-result : goal.overflow_add-result
overflow_add-result c = let h = part_inside _ _ _ _ (sym c.in-Ok.is ∙ c.find_value.ensures) in record { fits = omega (arith, h.0, h.1) }

pub slice_bounds-result-end : goal.slice_bounds-result-end
slice_bounds-result-end c = (part_inside _ _ _ _ (sym c.in-Ok.is ∙ c.find_value.ensures)).0
