-- `stilefray::image::stilefray_zeroise_key` meets its contract: it is store's call, and its answer in numbers.
-- Assumes nothing.
use mathlib.Core.Path.{◌∙◌, ap}
use Rattle.replies.specs.Answers.{answer_numbers}
use Rattle.stilefray.proofs.image.stilefray_zeroise_key.Goals as goal

pub returns : goal.returns
returns c = let e = c.zeroise_key.ensures in (c.answer_numbers.ensures ∙ ap answer_numbers e.0, e.1)
