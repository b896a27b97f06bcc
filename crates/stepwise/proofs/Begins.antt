-- What a start refuses: its three tests, and what each says of S, N, the key and the length of the value.
-- Assumes nothing.
use Prim.Native.Nat.{ℕ, ◌<◌}
use native.Mathlib.Omega.{arith}
use mathlib.Core.Path.{◌≡◌, refl, sym, ◌∙◌, ap, subst}
use mathlib.Core.Bool.{Bool, true, false, not, cond}
use mathlib.Core.Option.{some}
use mathlib.Core.Logic.{◌↔◌}
use lib.Dec.{ltb}
use lib.ListN.{length}
use Rattle.std.specs.Prelude.{Result, Ok, Err}
use Rattle.chip.specs.Geometry.{Shape, sized}
use Rattle.chip.proofs.Image.{sized_shape, shape_sized}
use Rattle.probe.specs.Probe.{allowed_key}
use Rattle.format.specs.Layout.{edition, largest_value}
use Rattle.refusals.specs.declared.Refusal.{Refusal}
use Rattle.plans.specs.Writes.{value_lent}
use Rattle.store.specs.Call.{Call, get, append, remove, collect, initialise, value_of}
use Rattle.pinned.specs.When.{BadKey}
use Rattle.pinned.proofs.Early.{Says, says_true, says_false, size_says, keyless}
use Rattle.pinned.proofs.Early as Early
use Rattle.running.specs.declared.Op.{Op}
use Rattle.running.specs.Starts.{start_refusal, started_or}
use Rattle.stepwise.specs.Begins.{start_of, StartWhen, bad_geometry, bad_key, object_too_large, Allowed, key_carried, lent_of, fresh_of}
use Rattle.stepwise.proofs.Starts.{starts_so}

shape_says : (s n : ℕ) → Says (sized s n) (Shape s n)
shape_says s n = go (sized s n) refl
  where
    go : (b : Bool) → sized s n ≡ b → Says b (Shape s n)
    go true e = sized_shape e
    go false e = λ f. let z : true ≡ false = sym (shape_sized f) ∙ e in let y : ◌≡◌ {A = ℕ} 0 1 = cc in omega arith

-- collect carries 1, which is allowed, as its want of a key is
key_says : (c : Call) → Says (not (allowed_key (key_carried c))) (BadKey c)
key_says (get key buffer) = Early.key_says (some key)
key_says (append key value) = Early.key_says (some key)
key_says (remove how key) = Early.key_says (some key)
key_says collect = keyless
key_says (initialise key) = Early.key_says (some key)

-- only append is lent a value
value_named : (c : Call) → value_lent (lent_of c) ≡ length (value_of c)
value_named (get key buffer) = refl
value_named (append key value) = refl
value_named (remove how key) = refl
value_named collect = refl
value_named (initialise key) = refl

large_says : (c : Call) → Says (ltb (largest_value edition) (value_lent (lent_of c))) (largest_value edition < length (value_of c))
large_says c = subst (λ (m : ℕ). Says (ltb (largest_value edition) (value_lent (lent_of c))) (largest_value edition < m)) (value_named c) (size_says (value_lent (lent_of c)))

-- The three tests, and what each says.
abbrev check : Call → ℕ → ℕ → Result (Unit {0}) Refusal
check c s n = start_refusal s n (key_carried c) (value_lent (lent_of c))

data Checked (s n : ℕ) (c : Call) : Result (Unit {0}) Refusal → Type 0 where
  refuses : {w : Refusal} → StartWhen s n c w → Checked s n c (Err w)
  fine : Allowed s n c → Checked s n c (Ok tt)

checked : (c : Call) (s n : ℕ) → Checked s n c (check c s n)
unfolding start_refusal
checked c s n = go (sized s n) (shape_says s n) (not (allowed_key (key_carried c))) (key_says c) (ltb (largest_value edition) (value_lent (lent_of c))) (large_says c)
  where
    go : (a : Bool) → Says a (Shape s n) → (b : Bool) → Says b (BadKey c) → (d : Bool) → Says d (largest_value edition < length (value_of c))
        → Checked s n c (cond (not a) (Err Refusal.BadGeometry) (cond b (Err Refusal.BadKey) (cond d (Err Refusal.ObjectTooLarge) (Ok tt))))
    go false p b q d t = refuses (bad_geometry p)
    go true p true q d t = refuses (bad_key p q)
    go true p false q true t = refuses (object_too_large {c = c} p q (omega (arith, t)))
    go true p false q false t = fine (record { shape = p; key_good = q; not_large = omega arith })

check_is : {c : Call} {s n : ℕ} {k : Result (Unit {0}) Refusal} → Checked s n c k → check c s n ≡ k
unfolding start_refusal
check_is {c} {s} {n} (refuses (bad_geometry p)) = rw (says_false (sized s n) (shape_says s n) p)
check_is {c} {s} {n} (refuses (bad_key p q)) = rw (shape_sized p, says_true (not (allowed_key (key_carried c))) (key_says c) q)
check_is {c} {s} {n} (refuses (object_too_large p q t)) =
    rw (shape_sized p, says_false (not (allowed_key (key_carried c))) (key_says c) q, says_true (ltb (largest_value edition) (value_lent (lent_of c))) (large_says c) (omega (arith, t)))
check_is {c} {s} {n} (fine a) =
    rw (
      shape_sized a.shape,
      says_false (not (allowed_key (key_carried c))) (key_says c) a.key_good,
      says_false (ltb (largest_value edition) (value_lent (lent_of c))) (large_says c) (λ t. let l = a.not_large in omega arith),
    )

-- So a start refuses where R6.1, R6.2 or R6.3 says so, and where none does it runs.
pub refuses_when : (c : Call) (s n : ℕ) (w : Refusal) → (start_of c s n ≡ Err w) ↔ StartWhen s n c w
refuses_when c s n w = (λ h. go (check c s n) (checked c s n) (sym (starts_so c s n) ∙ h), λ v. starts_so c s n ∙ ap (started_or (fresh_of c s n)) (check_is (refuses v)))
  where
    go : (k : Result (Unit {0}) Refusal) → Checked s n c k → started_or (fresh_of c s n) k ≡ Err w → StartWhen s n c w
    go (Err v) (refuses u) h = subst (StartWhen s n c) (let same : v ≡ w = cc in same) u
    go (Ok u) (fine a) h = absurd (let z : ◌≡◌ {A = ℕ} 0 1 = cc in omega arith)

pub runs_when : (c : Call) (s n : ℕ) (op : Op) → (start_of c s n ≡ Ok op) ↔ (Allowed s n c × (op ≡ fresh_of c s n))
runs_when c s n op =
    (λ h. go (check c s n) (checked c s n) (sym (starts_so c s n) ∙ h), λ (a, e). starts_so c s n ∙ ap (started_or (fresh_of c s n)) (check_is (fine a)) ∙ ap Ok (sym e))
  where
    go : (k : Result (Unit {0}) Refusal) → Checked s n c k → started_or (fresh_of c s n) k ≡ Ok op → Allowed s n c × (op ≡ fresh_of c s n)
    go (Err v) (refuses u) h = absurd (let z : ◌≡◌ {A = ℕ} 0 1 = cc in omega arith)
    go (Ok u) (fine a) h = (a, let same : op ≡ fresh_of c s n = cc in same)

pub runs_else : (c : Call) (s n : ℕ) → Allowed s n c → start_of c s n ≡ Ok (fresh_of c s n)
runs_else c s n a = (runs_when c s n (fresh_of c s n)).1 (a, refl)
