-- `stilefray::stepped::stilefray_start_get` meets its contract: it is running's start, in numbers.
-- Assumes nothing.
use mathlib.Core.Path.{sym, ◌∙◌, ap, subst}
use Rattle.plans.specs.declared.Aim.{Aim}
use Rattle.plans.specs.declared.Lent.{Lent}
use Rattle.numbers.specs.Packs.{start_numbers, start_looks}
use Rattle.stilefray.proofs.Looks.{look_looks}
use Rattle.stilefray.proofs.stepped.stilefray_start_get.Goals as goal

pub pack_start-requires : goal.pack_start-requires
pack_start-requires c = subst start_looks (sym c.start_get.ensures) (look_looks Aim.Get _ _ _ (Lent.Buffer _))

pub returns : goal.returns
returns c = c.pack_start.ensures ∙ ap start_numbers c.start_get.ensures
