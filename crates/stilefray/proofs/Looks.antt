-- What a start hands out looks at a region first.
-- Assumes nothing.
use Prim.Native.Nat.{ℕ}
use mathlib.Core.Path.{refl}
use Rattle.std.specs.Prelude.{Result, Ok, Err}
use Rattle.plans.specs.declared.Aim.{Aim}
use Rattle.plans.specs.declared.Lent.{Lent}
use Rattle.plans.specs.Writes.{value_lent}
use Rattle.running.specs.declared.Op.{Op}
use Rattle.running.specs.Starts.{start_refusal, started_or, look_started, collect_started}
use Rattle.numbers.specs.Packs.{Looks, start_looks}
use Rattle.refusals.specs.declared.Refusal.{Refusal}

looks_or : (op : Op) → Looks op → (check : Result (Unit {0}) Refusal) → start_looks (started_or op check)
looks_or op l (Ok u) = l
looks_or op l (Err w) = tt

pub look_looks : (aim : Aim) (s n key : ℕ) (lent : Lent) → start_looks (look_started aim s n key lent)
look_looks aim s n key lent = looks_or _ (record { no_edit = refl; goes_on = refl }) (start_refusal s n key (value_lent lent))

pub collect_looks : (s n : ℕ) → start_looks (collect_started s n)
collect_looks s n = looks_or _ (record { no_edit = refl; goes_on = refl }) (start_refusal s n 1 0)
