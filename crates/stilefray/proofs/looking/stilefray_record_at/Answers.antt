-- `stilefray::looking::stilefray_record_at` meets its contract: what stands there, in numbers.
-- Assumes nothing.
use mathlib.Core.Path.{sym, ◌∙◌, ap, subst}
use Rattle.entries.specs.declared.Shown.{Shown}
use Rattle.sights.specs.Sights.{StandsIn, shown_numbers}
use Rattle.sights.proofs.Standing.{stands_in}
use Rattle.stilefray.proofs.looking.stilefray_record_at.Goals as goal

pub shown_numbers-requires : goal.shown_numbers-requires
shown_numbers-requires c = let a = c.args in subst (λ (t : Shown). StandsIn a.s a.region t.entry) (sym c.record_at.ensures) (stands_in a.image.now a.s a.n a.region a.place)

pub returns : goal.returns
returns c = let a = c.args in c.shown_numbers.ensures ∙ ap (shown_numbers a.s a.region) c.record_at.ensures
