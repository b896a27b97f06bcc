-- The written rule as facts: what they say of the plan and of what an operation waits for, and that a start hands out only operations that keep it.
-- Assumes nothing.
use Prim.Native.Nat.{ℕ, ◌≤◌}
use native.Mathlib.Omega.{arith}
use mathlib.Core.Path.{◌≡◌, refl, subst}
use mathlib.Core.Bool.{Bool, true, false, not, cond}
use lib.Dec.{ltb}
use borrow.Author.Tests.{ltb-false, lt-ltb, le-leb}
use Rattle.std.specs.Prelude.{Result, Ok, Err, None}
use Rattle.chip.specs.Geometry.{Shape, sized}
use Rattle.chip.proofs.Image.{sized_shape}
use Rattle.probe.specs.Probe.{allowed_key}
use Rattle.refusals.specs.declared.Refusal.{Refusal}
use Rattle.plans.specs.declared.Aim.{Aim}
use Rattle.plans.specs.declared.Lent.{Lent}
use Rattle.plans.specs.declared.Then.{Then}
use Rattle.plans.specs.Writes.{value_lent, follows, look}
use Rattle.plans.specs.Fits.{lent_for, then_fits, rests}
use Rattle.plans.proofs.Facts.{join, PlanFits, plan_facts, plan_fits_lem, look_fits}
use Rattle.running.specs.declared.Op.{Op}
use Rattle.running.specs.Starts.{started, start_refusal, started_or, look_started, collect_started}
use Rattle.running.specs.Ruled.{fresh_fits, Ruled}

-- What the rule says of the plan.
pub plan_of : (op : Op) → Ruled op → PlanFits op.s op.n op.lent op.plan
plan_of op k = plan_facts op.s op.n op.lent op.plan k.plan_good

-- What a start hands out.

-- Nothing is refused: the geometry and the key are allowed, and the value is not too long.
pub start_fine : (s n key len : ℕ) → start_refusal s n key len ≡ Ok tt → Shape s n × (allowed_key key ≡ true) × (len ≤ 4079)
unfolding start_refusal
start_fine s n key len h = go (sized s n) refl (allowed_key key) refl (ltb 4079 len) refl h
  where
    go : (a : Bool) → sized s n ≡ a → (b : Bool) → allowed_key key ≡ b → (c : Bool) → ltb 4079 len ≡ c
        → cond (not a) (Err Refusal.BadGeometry) (cond (not b) (Err Refusal.BadKey) (cond c (Err Refusal.ObjectTooLarge) (Ok (tt {0})))) ≡ Ok tt
        → Shape s n × (allowed_key key ≡ true) × (len ≤ 4079)
    go true p true q false t h = (sized_shape p, q, ltb-false _ _ t)
    go true p true q true t h = absurd (let z : ◌≡◌ {A = ℕ} 0 1 = cc in omega arith)
    go true p false q c t h = absurd (let z : ◌≡◌ {A = ℕ} 0 1 = cc in omega arith)
    go false p b q c t h = absurd (let z : ◌≡◌ {A = ℕ} 0 1 = cc in omega arith)

-- An operation that is handed out keeps the rule, where what it begins with fits.
start_ruled : (s n key : ℕ) (lent : Lent) (next : Then) {op : Op} → (1 ≤ n → then_fits s n lent next ≡ true) → rests None next ≡ true → fresh_fits true None next ≡ true
    → started_or (started s n key lent (follows next)) (start_refusal s n key (value_lent lent)) ≡ Ok op → Ruled op
start_ruled s n key lent next {op} fits calm asks h = go (start_refusal s n key (value_lent lent)) refl h
  where
    go : (k : Result (Unit {0}) Refusal) → start_refusal s n key (value_lent lent) ≡ k → started_or (started s n key lent (follows next)) k ≡ Ok op → Ruled op
    go (Err w) e h = absurd (let z : ◌≡◌ {A = ℕ} 0 1 = cc in omega arith)
    go (Ok u) e h =
        let f = start_fine s n key (value_lent lent) e in
        let same : started s n key lent (follows next) ≡ op = cc in
        subst Ruled same (record {
          shape = f.0;
          key_good = f.1;
          fresh_good = asks;
          plan_good = plan_fits_lem s n lent (follows next) (record { value_short_lem = le-leb _ _ f.2; edits_good = refl; next_good = fits f.0.n_least; at_rest = calm });
        })

pub look_ruled : (aim : Aim) (s n key : ℕ) (lent : Lent) {op : Op} → lent_for aim lent ≡ true → look_started aim s n key lent ≡ Ok op → Ruled op
look_ruled aim s n key lent h = start_ruled s n key lent (look aim) (look_fits s n lent aim h) refl refl

pub collect_ruled : (s n : ℕ) {op : Op} → collect_started s n ≡ Ok op → Ruled op
collect_ruled s n = start_ruled s n 1 Lent.Nothing (Then.Sweep 0 0) (λ least. join (lt-ltb 0 n (omega arith)) refl) refl refl
