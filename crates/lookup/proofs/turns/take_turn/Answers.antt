-- `lookup::turns::take_turn` meets its contract: what each event of the region says.
-- Assumes nothing.
use native.Mathlib.Omega.{arith}
use mathlib.Core.Path.{sym, ◌∙◌, ap}
use Rattle.std.specs.declared.ops.ControlFlow.TheVariants.{Continue}
use Rattle.region.specs.declared.Stop.{Stop}
use Rattle.lookup.proofs.Scan.{within}
use Rattle.lookup.proofs.turns.take_turn.Goals as goal

pub overflow_add-result : goal.overflow_add-result
overflow_add-result c = omega (arith, within c.args.region.now c.args.key (Stop.Bad _ _) (sym c.find-event.ensures ∙ c.in-Bad.is))

pub note-requires : goal.note-requires
note-requires c = within c.args.region.now c.args.key (Stop.End _) (sym c.find-event.ensures ∙ c.in-End.is)

pub returns-in-Live : goal.returns-in-Live
returns-in-Live c = rw (sym c.find-event.ensures ∙ c.in-Live.is)

pub returns-in-Bad : goal.returns-in-Bad
returns-in-Bad c = rw (sym c.find-event.ensures ∙ c.in-Bad.is)

pub returns-in-End : goal.returns-in-End
returns-in-End c = rw (sym c.find-event.ensures ∙ c.in-End.is) (ap Continue c.note.ensures)
