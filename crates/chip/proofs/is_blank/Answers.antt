-- `chip::is_blank` meets its contract: a block that is not blank decides, and one that is leaves it to what is behind it.
-- Invariant: Invariants.antt. Assumes nothing.
use mathlib.Core.Path.{sym, ◌∙◌}
use Rattle.chip.proofs.Laws.{blank_not, blank_behind, blank_end}
use Rattle.chip.proofs.is_blank.Goals as goal

pub returns-then-not-is_blank_block : goal.returns-then-not-is_blank_block
returns-then-not-is_blank_block c =
    blank_not c.loop-block.block-iterator.rest.now c.in-Some.block.now c.next.new.self.rest.now c.in-Some.ensures.steps.1.0
    (sym c.is_blank_block.ensures ∙ c.if-not-is_blank_block.true) ∙ c.loop-block.invariant

pub loop-block-preserved : goal.loop-block-preserved
loop-block-preserved c =
    blank_behind c.loop-block.block-iterator.rest.now c.in-Some.block.now c.next.new.self.rest.now c.in-Some.ensures.steps.1.0
    (sym c.is_blank_block.ensures ∙ c.if-not-is_blank_block.false) ∙ c.loop-block.invariant

pub returns : goal.returns
returns c = blank_end c.loop-block.block-iterator.rest.now c.in-None.ensures.steps.1.0 ∙ c.loop-block.invariant
