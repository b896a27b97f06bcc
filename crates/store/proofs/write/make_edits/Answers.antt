-- `store::write::make_edits` meets its contract.
-- Invariant and measure: Invariants.antt. Assumes nothing.
use borrow.Author.Rules.{rules}
use Rattle.store.proofs.Edits.{left_start, left_end, left_fits, left_next, left_less}
use Rattle.store.proofs.write.make_edits.Goals as goal

pub loop-edit-init : goal.loop-edit-init
loop-edit-init c = left_start c.args.key c.args.value.now c.requires.0 c.requires.2

pub returns : goal.returns
returns c = search (left_end, rules)

pub make_edit-requires : goal.make_edit-requires
make_edit-requires c = let l = c.loop-edit.invariant in (l.fits, c.requires.1, left_fits l c.first_of.ensures c.in-Some.is)

pub loop-edit-smaller : goal.loop-edit-smaller
loop-edit-smaller c = search (left_less, rules)

pub loop-edit-preserved : goal.loop-edit-preserved
loop-edit-preserved c = search (left_next, rules)
