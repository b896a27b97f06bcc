-- Records in lists, and a record that stands among those of a region.
-- Assumes nothing.
use mathlib.Core.Path.{◌≡◌, refl, sym, ap}
use mathlib.Core.Logic.{◌⊎◌, inl, inr, ⊎_elim}
use mathlib.Core.List.Memᴰ
use mathlib.Core.List.{List, [], ◌∷◌, ◌++◌, Memᴰ}

-- a member splits its list
pub record Around {A : Type 0} (xs : List A) (x : A) : Type 0 where
  pub before : List A
  pub after : List A
  pub split : xs ≡ before ++ x ∷ after

pub around : {A : Type 0} {x : A} {xs : List A} → Memᴰ x xs → Around xs x
around {xs = []} m = elim m [ ]
around {xs = y ∷ ys} (Memᴰ.head e) = record { before = []; after = ys; split = ap (λ z. z ∷ ys) (sym e) }
around {xs = y ∷ ys} (Memᴰ.tail m) = let a = around m in record { before = y ∷ a.before; after = a.after; split = ap (λ l. y ∷ l) a.split }

-- the element in the middle is a member, and so is each on either side
pub middle : {A : Type 0} (a : List A) (x : A) (b : List A) → Memᴰ x (a ++ x ∷ b)
middle a x b = Memᴰ.append_right a (Memᴰ.head refl)

pub beside : {A : Type 0} (a : List A) (x : A) (b : List A) {y : A} → Memᴰ y (a ++ b) → Memᴰ y (a ++ x ∷ b)
beside a x b m = ⊎_elim (λ l. Memᴰ.append_left (x ∷ b) l) (λ r. Memᴰ.append_right a (Memᴰ.tail r)) (Memᴰ.append_cases a m)

pub middle_cases : {A : Type 0} (a : List A) (x : A) (b : List A) {y : A} → Memᴰ y (a ++ x ∷ b) → (y ≡ x) ⊎ Memᴰ y (a ++ b)
middle_cases a x b m =
    ⊎_elim (λ l. inr (Memᴰ.append_left b l)) (λ r. ⊎_elim inl (λ t. inr (Memᴰ.append_right a t)) (Memᴰ.cases_cons r)) (Memᴰ.append_cases a m)
