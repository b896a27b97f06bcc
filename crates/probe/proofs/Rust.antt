-- The Rust's rule gives the probe order.
-- The proof follows the order outwards, one distance a step, and looks up what the rule answers there.
use Prim.Native.Nat.{ℕ, zero, suc, ◌+◌, ◌-◌, ◌≤◌, ◌<◌}
use mathlib.Core.Path.{◌≡◌, refl, sym, ap, ◌∙◌}
use mathlib.Core.List.{List, ◌∷◌, ◌++◌}
use mathlib.Core.Logic.{◌↔◌}
use mathlib.Core.Bool.{Bool, true, false}
use mathlib.Core.Option.{Option, none, some}
use lib.Dec.{ltb, leb}
use borrow.Author.Tests.{ltb-true, ltb-false, leb-true, leb-false, lt-ltb, le-ltb}
use native.Mathlib.Omega.{arith}
use Rattle.probe.specs.Rust.{Offset, same, plus, minus, turned, region, too_small, increment, Visits, last, more}
use Rattle.probe.specs.Probe.{keep, around, outward, probe}

-- There is one such list.
one_list : {t n h : ℕ} {o : Offset} {l m : List ℕ} → Visits t n h o l → Visits t n h o m → l ≡ m
one_list (last e) (last f) = refl
one_list (last e) (more f w) = let z : ◌≡◌ {A = ℕ} 0 1 = cc in absurd (omega arith)
one_list (more e v) (last f) = let z : ◌≡◌ {A = ℕ} 0 1 = cc in absurd (omega arith)
one_list {h = h} (more {o} {q} e v) (more {q = q'} f w) =
    let s : q' ≡ q = cc in
    ap (λ l. region h o ∷ l) (one_list v (rw s at w))

-- What the rule answers, where its loop is allowed three turns or more.
module _ (t n h : ℕ) (p : h < n) where
  abbrev turns : ℕ
  turns = suc (suc (suc t))

  abbrev rule : Offset → Option Offset
  rule = increment turns n h false false

  goes_up : (d : ℕ) → h + suc d < n → rule (minus d) ≡ some (plus (suc d))
  unfolding increment turned region too_small
  goes_up d a = rw (le-ltb (n - 1) (h + suc d) (omega arith))

  goes_on_down : (d : ℕ) → n ≤ h + suc d → suc d ≤ h → rule (minus d) ≡ some (minus (suc d))
  unfolding increment turned region too_small
  goes_on_down d a b = rw (lt-ltb (n - 1) (h + suc d) (omega arith), le-ltb (n - 1) (h - suc d) (omega arith), le-ltb h (suc d) b)

  ends : (d : ℕ) → n ≤ h + suc d → h < suc d → rule (minus d) ≡ none
  unfolding increment turned region too_small
  ends d a b = rw (lt-ltb (n - 1) (h + suc d) (omega arith), le-ltb (n - 1) (h - suc d) (omega arith), lt-ltb h (suc d) b)

  goes_down : (d : ℕ) → d ≤ h → rule (plus d) ≡ some (minus d)
  unfolding increment turned region too_small
  goes_down d b = rw (le-ltb (n - 1) (h - d) (omega arith), le-ltb h d b)

  -- Where none is left below home, the rule answers d as it answers -d.
  passes : (d : ℕ) → h < d → rule (plus d) ≡ rule (minus d)
  unfolding increment turned region too_small
  passes d a = rw (le-ltb (n - 1) (h - d) (omega arith), lt-ltb h d a) (go (ltb (n - 1) (h + suc d)) refl)
    where
      go : (b : Bool) → ltb (n - 1) (h + suc d) ≡ b → increment (suc (suc t)) n h false true (minus d) ≡ rule (minus d)
      go true e =
          let left : increment (suc (suc t)) n h false true (minus d) ≡ none = rw e in
          left ∙ sym (ends d (omega (arith, ltb-true)) (omega arith))
      go false e = rw e

  -- After the distance d, from -d or from an offset that the rule answers as it answers -d.
  onward : (k d : ℕ) (o : Offset) → n ≤ suc d + k → rule o ≡ rule (minus d) → Visits turns n h o (region h o ∷ outward n h (suc d) k)
  unfolding outward around keep region
  onward zero d o m e = last (e ∙ ends d (omega arith) (omega arith))
  onward (suc k) d o m e = go (λ q r. onward k (suc d) q (omega arith) r) (ltb (h + suc d) n) refl (leb (suc d) h) refl
    where
      go : ((q : Offset) → rule q ≡ rule (minus (suc d)) → Visits turns n h q (region h q ∷ outward n h (suc (suc d)) k))
          → (a : Bool) → ltb (h + suc d) n ≡ a → (b : Bool) → leb (suc d) h ≡ b
          → Visits turns n h o (region h o ∷ ((keep a (h + suc d) ++ keep b (h - suc d)) ++ outward n h (suc (suc d)) k))
      go later true x true y = more (e ∙ goes_up d (ltb-true _ _ x)) (more (goes_down (suc d) (leb-true _ _ y)) (later (minus (suc d)) refl))
      go later true x false y = more (e ∙ goes_up d (ltb-true _ _ x)) (later (plus (suc d)) (passes (suc d) (leb-false _ _ y)))
      go later false x true y = more (e ∙ goes_on_down d (ltb-false _ _ x) (leb-true _ _ y)) (later (minus (suc d)) refl)
      go later false x false y =
          let a : n ≤ h + suc d = ltb-false _ _ x in
          let b : h < suc d = leb-false _ _ y in
          later o (e ∙ ends d a b ∙ sym (ends (suc d) (omega arith) (omega arith)))

  from_home : Visits turns n h same (probe n h)
  unfolding probe region increment turned
  from_home = onward n 0 same (omega arith) refl

-- A search from the offset 0 looks at the regions of the probe order, and at no others.
pub rust_visits : (t n h : ℕ) (l : List ℕ) → 3 ≤ t → h < n → Visits t n h same l ↔ (l ≡ probe n h)
rust_visits t n h l m p =
    let e : t ≡ suc (suc (suc (t - 3))) = omega arith in
    rw e (λ v. one_list v (from_home (t - 3) n h p), λ x. rw x (from_home (t - 3) n h p))
