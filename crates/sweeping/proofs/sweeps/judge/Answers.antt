-- `sweeping::sweeps::judge` meets its contract: the first event that decides a search for any live record decides.
-- Assumes nothing.
use native.Mathlib.Omega.{arith}
use mathlib.Core.Path.{sym, ◌∙◌}
use Rattle.region.specs.declared.Stop.{Stop}
use Rattle.sweeping.proofs.Sweeping.{stop_inside, verdict_none, verdict_dead}
use borrow.Author.Rules.{rules}
use Rattle.sweeping.proofs.sweeps.judge.Goals as goal

pub overflow_add-result : goal.overflow_add-result
overflow_add-result c = omega (arith, stop_inside c.args.region.now (Stop.Bad _ _) (sym c.find-event.ensures ∙ c.in-Bad.is))

pub returns-in-Live : goal.returns-in-Live
returns-in-Live c = rw (sym c.find-event.ensures ∙ c.in-Live.is)

pub returns-in-Bad : goal.returns-in-Bad
returns-in-Bad c = rw (sym c.find-event.ensures ∙ c.in-Bad.is)

pub returns-then-at-eq0 : goal.returns-then-at-eq0
returns-then-at-eq0 c = search (verdict_none, rules)

pub returns-else-at-eq0 : goal.returns-else-at-eq0
returns-else-at-eq0 c = search (verdict_dead, rules)
