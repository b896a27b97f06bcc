-- What a start hands out: the fresh operation of a call's key, of what is lent for it and of what it begins with. And what an operation that keeps the
-- rule asks for: it lies in the chip.
-- Assumes nothing.
use Prim.Native.Nat.{ℕ, ◌+◌, ◌≤◌, ◌<◌}
use native.Mathlib.Nat.{le-add_right}
use native.Mathlib.Omega.{arith}
use mathlib.Core.Path.{◌≡◌, refl, sym, ◌∙◌}
use mathlib.Core.Bool.{Bool, true, false, cond}
use lib.ListN.{length}
use Rattle.std.specs.Prelude.{Option, Some, None, Result, Ok, Err}
use Rattle.probe.proofs.Theorems.{in_range}
use Rattle.plans.specs.declared.Lent.{Lent}
use Rattle.plans.specs.declared.Edit.{Edit}
use Rattle.plans.specs.declared.Then.{Then}
use Rattle.plans.specs.Writes.{value_lent, in_region, start_of as begins_at, size_of, first}
use Rattle.plans.specs.Fits.{then_fits}
use Rattle.plans.proofs.Facts.{edit_facts, edits_facts, seek_facts, sweep_facts}
use Rattle.store.specs.Call.{Call, get, append, remove, collect, initialise}
use Rattle.running.specs.declared.Op.{Op}
use Rattle.running.specs.declared.Wait.{Wait}
use Rattle.running.specs.Starts.{start_refusal, started_or}
use Rattle.running.specs.Waits.{wait_next, wait_first, request_edit, request_for, request_of}
use Rattle.running.specs.Ruled.{Ruled}
use Rattle.running.proofs.Rules.{plan_of, look_ruled, collect_ruled}
use Rattle.stepwise.specs.Asked.{Inside, reads, writes, erases, answers}
use Rattle.stepwise.specs.Begins.{start_of, key_carried, lent_of, fresh_of}
use Rattle.refusals.specs.declared.Refusal.{Refusal}

-- Every start is of one form, and hands out what keeps the rule.
pub starts_so : (c : Call) (s n : ℕ) → start_of c s n ≡ started_or (fresh_of c s n) (start_refusal s n (key_carried c) (value_lent (lent_of c)))
starts_so (get key buffer) s n = refl
starts_so (append key value) s n = refl
starts_so (remove how key) s n = refl
starts_so collect s n = refl
starts_so (initialise key) s n = refl

pub start_ruled : (c : Call) (s n : ℕ) {op : Op} → start_of c s n ≡ Ok op → Ruled op
start_ruled (get key buffer) s n h = look_ruled _ s n key (Lent.Buffer (length buffer)) refl h
start_ruled (append key value) s n h = look_ruled _ s n key (Lent.Value (length value)) refl h
start_ruled (remove how key) s n h = look_ruled _ s n key Lent.Nothing refl h
start_ruled collect s n h = collect_ruled s n h
start_ruled (initialise key) s n h = look_ruled _ s n key Lent.Nothing refl h

pub record Runs (c : Call) (s n : ℕ) (op : Op) : Type 0 where
  pub is : op ≡ fresh_of c s n
  pub fine : start_refusal s n (key_carried c) (value_lent (lent_of c)) ≡ Ok tt

pub start_runs : (c : Call) (s n : ℕ) (op : Op) → start_of c s n ≡ Ok op → Runs c s n op
start_runs c s n op h = go (start_refusal s n (key_carried c) (value_lent (lent_of c))) refl (sym (starts_so c s n) ∙ h)
  where
    go : (check : Result (Unit {0}) Refusal) → start_refusal s n (key_carried c) (value_lent (lent_of c)) ≡ check → started_or (fresh_of c s n) check ≡ Ok op → Runs c s n op
    go (Ok u) e h = record { is = let same : op ≡ fresh_of c s n = cc in same; fine = e }
    go (Err w) e h = absurd (let z : ◌≡◌ {A = ℕ} 0 1 = cc in omega arith)

-- What is asked for lies in the chip.

edit_asks : (s n len : ℕ) (e : Edit) → (in_region e < n) × (begins_at e + size_of len e ≤ s) → Inside s n (request_edit s len e)
edit_asks s n len (Edit.Lay r o) (number, fits) = writes r number (le-add_right _ _) fits
edit_asks s n len (Edit.Kill how r x) (number, fits) = writes r number (le-add_right _ _) fits
edit_asks s n len (Edit.Erase r) (number, fits) = erases number

next_asks : (s n key : ℕ) (lent : Lent) (next : Then) → then_fits s n lent next ≡ true → Inside s n (request_for s (value_lent lent) (wait_next key n next))
next_asks s n key lent (Then.Ends answer) h = answers
next_asks s n key lent (Then.Seek aim i seen) h = reads (in_range key n i (seek_facts s n lent aim i seen h).1)
next_asks s n key lent (Then.Sweep r k) h = reads (sweep_facts s n lent r k h).0
next_asks s n key lent (Then.Gives r x anew) h = answers

pub inside : (op : Op) → Ruled op → Inside op.s op.n (request_of op)
inside op k = go op.fresh (first op.plan.edits) refl
  where
    go : (t : Bool) (f : Option Edit) → first op.plan.edits ≡ f
        → Inside op.s op.n (request_for op.s (value_lent op.lent) (cond t Wait.Begin (wait_first op.key op.n f op.plan.next)))
    go true f e = answers
    go false None e = next_asks op.s op.n op.key op.lent op.plan.next (plan_of op k).next_good
    go false (Some d) e =
        edit_asks op.s op.n (value_lent op.lent) d
        (edit_facts op.s op.n (value_lent op.lent) d (edits_facts op.s op.n (value_lent op.lent) op.plan.edits (plan_of op k).edits_good e).0)
