-- `stilefray::looking::stilefray_find_value` meets its contract: what was found, in numbers.
-- Assumes nothing.
use mathlib.Core.Path.{◌∙◌, ap}
use Rattle.sights.specs.Sights.{part_numbers}
use Rattle.stilefray.proofs.looking.stilefray_find_value.Goals as goal

-- src/looking.rt:9:1
pub returns : goal.returns
returns c = c.part_numbers.ensures ∙ ap part_numbers c.find_value.ensures
