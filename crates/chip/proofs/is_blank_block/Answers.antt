-- `chip::is_blank_block` meets its contract: what is folded is the test of each byte in turn.
-- Assumes nothing.
use mathlib.Core.Bool.{true, ◌&&◌}
use lib.Dec.{eqb}
use Rattle.std.proofs.Common.{rules, tests}
use Rattle.std.proofs.lemmas.Iterator.{YieldsList-from_slice}
use Rattle.std.proofs.lemmas.Iterator.Consumers.{fold_from_yields_List}
use Rattle.chip.proofs.Laws.{blank_folded}
use Rattle.chip.proofs.is_blank_block.Goals as goal

pub returns : goal.returns
returns c =
    blank_folded _ _
    (fold_from_yields_List _ (λ t x. t && eqb x 255) true _ c.fold.ensures.ran (YieldsList-from_slice c.args.part.now (cc)) (λ t x b q k. search (rules, tests)))
