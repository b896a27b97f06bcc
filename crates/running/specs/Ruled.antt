-- The written rule as facts, which functions inside ask for: what every running operation keeps that a start hands out, or a step that is no BadCall.
use Rattle.plans.specs.declared.Edit.{Edit}
use Rattle.std.specs.Prelude.{◌≡◌, Bool, true, false, Option, Some, None}
use Rattle.chip.specs.Geometry.{Shape}
use Rattle.probe.specs.Probe.{allowed_key}
use Rattle.plans.specs.declared.Then.{Then}
use Rattle.plans.specs.Writes.{first}
use Rattle.plans.specs.Fits.{plan_fits}
use Rattle.running.specs.declared.Op.{Op}

-- R8.10: a fresh operation has a service to ask for: it does not begin with an answer.
abbrev pub fresh_fits : Bool → Option Edit → Then → Bool
fresh_fits false f next = true
fresh_fits true (Some e) next = true
fresh_fits true None (Then.Ends answer) = false
fresh_fits true None (Then.Seek aim i seen) = true
fresh_fits true None (Then.Sweep r k) = true
fresh_fits true None (Then.Gives r x anew) = true

-- R8.10: the written rule, part by part.
pub record Ruled (op : Op) : Type 0 where
  pub shape : Shape op.s op.n
  pub key_good : allowed_key op.key ≡ true
  pub fresh_good : fresh_fits op.fresh (first op.plan.edits) op.plan.next ≡ true
  pub plan_good : plan_fits op.s op.n op.lent op.plan ≡ true
