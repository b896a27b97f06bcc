-- The rule's test and its facts say the same; what a call that it allows says, and back.
-- Assumes nothing.
use Prim.Native.Nat.{ℕ, ◌≤◌}
use native.Mathlib.Omega.{arith}
use mathlib.Core.Path.{◌≡◌, refl, sym}
use mathlib.Core.Bool.{true}
use mathlib.Core.List.{List}
use lib.Dec.{eqb}
use lib.ListN.{length}
use borrow.Author.Tests.{eqb-true, eq-eqb}
use Rattle.chip.proofs.Image.{both, sized_shape, shape_sized}
use Rattle.plans.specs.declared.Lent.{Lent}
use Rattle.plans.specs.Writes.{value_lent, value_of, buffer_lent}
use Rattle.plans.proofs.Facts.{join, short_facts}
use Rattle.running.specs.declared.Op.{Op}
use Rattle.running.specs.declared.Reply.{Reply}
use Rattle.running.specs.Waits.{wait_of}
use Rattle.running.specs.Ruled.{Ruled}
use Rattle.rule.specs.Rule.{rule, reply_fits, buffers_fit, call_fits}
use Rattle.running.proofs.Rules.{plan_of}

-- The test and the facts say the same.

pub ruled : (op : Op) → rule op ≡ true → Ruled op
unfolding rule
ruled op e =
    let a = both _ _ e in
    let b = both _ _ a.1 in
    let c = both _ _ b.1 in
    record { shape = sized_shape a.0; key_good = b.0; fresh_good = c.0; plan_good = c.1 }

pub is_ruled : (op : Op) → Ruled op → rule op ≡ true
unfolding rule
is_ruled op k = join (shape_sized k.shape) (join k.key_good (join k.fresh_good k.plan_good))

-- What a call that is allowed says, and back.

pub fits_ruled : (op : Op) (y : Reply) (region value buffer : ℕ) → call_fits op y region value buffer ≡ true
    → Ruled op × (region ≡ op.s) × (buffers_fit op.lent value buffer ≡ true) × (reply_fits (wait_of op) y ≡ true)
unfolding call_fits
fits_ruled op y region value buffer e =
    let a = both (rule op) _ e in
    let b = both (eqb region op.s) _ a.1 in
    let c = both (buffers_fit op.lent value buffer) (reply_fits (wait_of op) y) b.1 in
    (ruled op a.0, eqb-true _ _ b.0, c.0, c.1)

pub fits_of : (op : Op) (y : Reply) (region value buffer : ℕ)
    → Ruled op × (region ≡ op.s) × (buffers_fit op.lent value buffer ≡ true) × (reply_fits (wait_of op) y ≡ true) → call_fits op y region value buffer ≡ true
unfolding call_fits
fits_of op y region value buffer (k, e, b, r) = join (is_ruled op k) (join (eq-eqb region op.s e) (join b r))

-- What is lent, where the buffers fit: the value that is written has the length that the operation names, and get's buffer is as long as it says.

pub value_lent_lem : (lent : Lent) (value : List ℕ) (buffer : ℕ) → buffers_fit lent (length value) buffer ≡ true → length (value_of lent value) ≡ value_lent lent
value_lent_lem Lent.Nothing value buffer h = refl
value_lent_lem (Lent.Value len) value buffer h = eqb-true (length value) len h
value_lent_lem (Lent.Buffer len) value buffer h = refl

pub value_small : (op : Op) (value : List ℕ) (buffer : ℕ) → Ruled op → buffers_fit op.lent (length value) buffer ≡ true → length (value_of op.lent value) ≤ 4079
value_small op value buffer k h =
    let e : length (value_of op.lent value) ≡ value_lent op.lent = value_lent_lem op.lent value buffer h in
    let l : value_lent op.lent ≤ 4079 = short_facts op.lent (plan_of op k).value_short_lem in
    omega arith

pub buffer_lent_lem : (len value buffer : ℕ) → buffers_fit (Lent.Buffer len) value buffer ≡ true → buffer_lent (Lent.Buffer len) ≡ buffer
buffer_lent_lem len value buffer h = sym (eqb-true buffer len h)
