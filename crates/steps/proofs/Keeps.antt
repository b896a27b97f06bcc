-- A step keeps the written rule: what it makes of an operation that keeps it keeps it too.
-- Assumes nothing.
use Prim.Native.Nat.{ℕ}
use mathlib.Core.Path.{◌≡◌, refl}
use mathlib.Core.Bool.{true}
use mathlib.Core.List.{List}
use lib.ListN.{length}
use Rattle.std.specs.Prelude.{Err}
use Rattle.refusals.specs.declared.Refusal.{Refusal}
use Rattle.plans.specs.Fits.{plan_fits}
use Rattle.plans.proofs.Facts.{plan_fits_lem, ends_fits}
use Rattle.running.specs.declared.Op.{Op}
use Rattle.running.specs.declared.Reply.{Reply}
use Rattle.running.specs.Ruled.{Ruled}
use Rattle.running.proofs.Rules.{plan_of}
use Rattle.advancing.specs.Advance.{advance, next_plan}
use Rattle.steps.specs.Step.{next_op}
use Rattle.advancing.proofs.Keeps.{given_rests, advance_sound}

-- Any reply.
pub next_ruled : (op : Op) (y : Reply) (region : List ℕ) → Ruled op → length region ≡ op.s → Ruled (next_op op y region)
next_ruled op y region k l = record { shape = k.shape; key_good = k.key_good; fresh_good = refl; plan_good = go y }
  where
    go : (y : Reply) → plan_fits op.s op.n op.lent (next_plan op y region) ≡ true
    go Reply.Begin = k.plan_good
    go Reply.Done = plan_fits_lem op.s op.n op.lent _ (given_rests op.s op.n op.lent region (advance op region) k.shape.n_least (advance_sound op region k l))
    go Reply.NotReady = k.plan_good
    go Reply.Failed = plan_fits_lem op.s op.n op.lent _ (ends_fits op.s op.n op.lent (plan_of op k).value_short_lem (Err Refusal.FlashFailed))
