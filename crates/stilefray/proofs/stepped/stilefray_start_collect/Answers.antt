-- `stilefray::stepped::stilefray_start_collect` meets its contract: it is running's start, in numbers.
-- Assumes nothing.
use mathlib.Core.Path.{sym, ◌∙◌, ap, subst}
use Rattle.numbers.specs.Packs.{start_numbers, start_looks}
use Rattle.stilefray.proofs.Looks.{collect_looks}
use Rattle.stilefray.proofs.stepped.stilefray_start_collect.Goals as goal

pub pack_start-requires : goal.pack_start-requires
pack_start-requires c = subst start_looks (sym c.start_collect.ensures) (collect_looks _ _)

pub returns : goal.returns
returns c = c.pack_start.ensures ∙ ap start_numbers c.start_collect.ensures
