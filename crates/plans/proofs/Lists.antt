-- A list of edits by its first and its rest: what it lists, and what it makes of an image.
-- Assumes nothing.
use Prim.Native.Nat.{ℕ, suc, ◌+◌, ◌-◌, ◌≤◌, ◌<◌}
use native.Mathlib.Omega.{arith}
use mathlib.Core.Path.{◌≡◌, refl, ◌∙◌, ap}
use mathlib.Core.Bool.{Bool, true, false, cond}
use mathlib.Core.List.{List, [], ◌∷◌, map}
use lib.Dec.{ltb}
use borrow.Author.Tests.{ltb-true, ltb-false}
use Rattle.std.specs.Prelude.{Some, None}
use Rattle.chip.specs.Geometry.{numbers}
use Rattle.plans.specs.declared.Edit.{Edit}
use Rattle.plans.specs.declared.Edits.{Edits}
use Rattle.plans.specs.Writes.{listed, applied, edited, first, rest}

-- Regions in number order, from i to the one before m.
numbers_none : (i m : ℕ) → m ≤ i → numbers i (m - i) ≡ []
unfolding numbers
numbers_none i m h = let e : m - i ≡ 0 = omega arith in ap (numbers i) e

pub numbers_one : (i m : ℕ) → i < m → numbers i (m - i) ≡ i ∷ numbers (i + 1) (m - (i + 1))
unfolding numbers
numbers_one i m h = let e : m - i ≡ suc (m - (i + 1)) = omega arith in ap (numbers i) e

-- Nothing is left to do: nothing is listed.
pub listed_none : (es : Edits) → first es ≡ None → listed es ≡ []
listed_none Edits.Nil h = refl
listed_none (Edits.One e) h = absurd (let z : ◌≡◌ {A = ℕ} 0 1 = cc in omega arith)
listed_none (Edits.Two e f) h = absurd (let z : ◌≡◌ {A = ℕ} 0 1 = cc in omega arith)
listed_none (Edits.Three e f g) h = absurd (let z : ◌≡◌ {A = ℕ} 0 1 = cc in omega arith)
listed_none (Edits.Erases i m) h = go (ltb i m) refl h
  where
    go : (t : Bool) → ltb i m ≡ t → cond t (Some (Edit.Erase i)) None ≡ None → map Edit.Erase (numbers i (m - i)) ≡ []
    go true e h = absurd (let z : ◌≡◌ {A = ℕ} 0 1 = cc in omega arith)
    go false e h = ap (map Edit.Erase) (numbers_none i m (ltb-false _ _ e))

-- An edit is: it is listed first, and the others behind it.
pub listed_some : (es : Edits) {d : Edit} → first es ≡ Some d → listed es ≡ d ∷ listed (rest es)
listed_some Edits.Nil h = absurd (let z : ◌≡◌ {A = ℕ} 0 1 = cc in omega arith)
listed_some (Edits.One e) {d} h = ap (λ (x : Edit). x ∷ []) (let q : e ≡ d = cc in q)
listed_some (Edits.Two e f) {d} h = ap (λ (x : Edit). x ∷ f ∷ []) (let q : e ≡ d = cc in q)
listed_some (Edits.Three e f g) {d} h = ap (λ (x : Edit). x ∷ f ∷ g ∷ []) (let q : e ≡ d = cc in q)
listed_some (Edits.Erases i m) {d} h = go (ltb i m) refl h
  where
    go : (t : Bool) → ltb i m ≡ t → cond t (Some (Edit.Erase i)) None ≡ Some d
        → map Edit.Erase (numbers i (m - i)) ≡ d ∷ listed (cond t (Edits.Erases (i + 1) m) Edits.Nil)
    go true e h = let q : Edit.Erase i ≡ d = cc in ap (map Edit.Erase) (numbers_one i m (ltb-true _ _ e)) ∙ ap (λ (x : Edit). x ∷ map Edit.Erase (numbers (i + 1) (m - (i + 1)))) q
    go false e h = absurd (let z : ◌≡◌ {A = ℕ} 0 1 = cc in omega arith)

-- What they make of an image.
module _ (s key : ℕ) (value : List ℕ) (image : List ℕ) where
  pub applied_none : (es : Edits) → first es ≡ None → applied s key value (listed es) image ≡ image
  unfolding applied
  applied_none es h = ap (λ (xs : List Edit). applied s key value xs image) (listed_none es h)

  pub applied_some : (es : Edits) {e : Edit} → first es ≡ Some e
      → applied s key value (listed es) image ≡ applied s key value (listed (rest es)) (edited s key value e image)
  unfolding applied
  applied_some es h = ap (λ (xs : List Edit). applied s key value xs image) (listed_some es h)
