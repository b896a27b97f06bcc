-- `stilefray::image::stilefray_garbage_collect` meets its contract: it is store's call, and its answer in numbers.
-- Assumes nothing.
use mathlib.Core.Path.{◌∙◌, ap}
use Rattle.replies.specs.Answers.{answer_numbers}
use Rattle.stilefray.proofs.image.stilefray_garbage_collect.Goals as goal

pub returns : goal.returns
returns c = let e = c.garbage_collect.ensures in (c.answer_numbers.ensures ∙ ap answer_numbers e.0, e.1)
