-- Parts of lists, and runs of stores: what library laws leave out.
-- Assumes nothing.
use Prim.Native.Nat.{ℕ, zero, suc, ◌+◌, ◌-◌, ◌≤◌, ◌<◌}
use native.Mathlib.Nat.{add-zero, sub-zero, zero-sub, suc-sub-suc}
use native.Mathlib.Omega.{arith}
use mathlib.Core.Path.{◌≡◌, sym, ◌∙◌, ap}
use mathlib.Core.List.{List, [], ◌∷◌, ◌++◌, append_assoc}
use lib.ListN.{length, get_or, take, drop, set, length-append, length-take, length-drop, take-append-drop, get_or-append}
use lib.Seq.{sets, sets-eq, get_or-take, get_or-drop, take-take, take-length, drop-drop, take-nil, take_at, drop_at, length-take-le, get_or-append-add, take-append-le, drop-append-le, drop-append-add}
pub use Rattle.chip.specs.Every.{Every, none, also}

module _ {A : Type 0} where
  pub drop-take : (p m : ℕ) (l : List A) → drop p (take m l) ≡ take (m - p) (drop p l)
  drop-take zero m l = rw sub-zero
  drop-take (suc p) zero l = rw (zero-sub (suc p))
  drop-take (suc p) (suc m) [] = sym (take-nil (suc m - suc p))
  drop-take (suc p) (suc m) (x ∷ l) = rw suc-sub-suc (drop-take p m l)

  pub every_join : {P : A → Type 0} {xs ys : List A} → Every P xs → Every P ys → Every P (xs ++ ys)
  every_join none k = k
  every_join (also p j) k = also p (every_join j k)

  pub every_split : {P : A → Type 0} (xs ys : List A) → Every P (xs ++ ys) → Every P xs × Every P ys
  every_split [] ys k = (none, k)
  every_split (x ∷ xs) ys (also p k) = let s = every_split xs ys k in (also p s.0, s.1)

-- Two lists that agree before a place, or from a place on.

pub byte_before : (r' r : List ℕ) (p i : ℕ) → take p r' ≡ take p r → i < p → get_or r' i 0 ≡ get_or r i 0
byte_before r' r p i e h = sym (get_or-take p r' i 0 h) ∙ ap (λ (l : List ℕ). get_or l i 0) e ∙ get_or-take p r i 0 h

pub byte_after : (r' r : List ℕ) (p i : ℕ) → drop p r' ≡ drop p r → p ≤ i → get_or r' i 0 ≡ get_or r i 0
byte_after r' r p i e h =
    let j : p + (i - p) ≡ i = omega arith in
    let g : get_or r' (p + (i - p)) 0 ≡ get_or r (p + (i - p)) 0 = sym (get_or-drop p r' (i - p) 0) ∙ ap (λ (l : List ℕ). get_or l (i - p) 0) e ∙ get_or-drop p r (i - p) 0 in
    rw j at g

pub part_before : (r' r : List ℕ) (p o n : ℕ) → take p r' ≡ take p r → o + n ≤ p → take n (drop o r') ≡ take n (drop o r)
part_before r' r p o n e h = sym (part r') ∙ ap (λ (l : List ℕ). take n (drop o l)) e ∙ part r
  where
    part : (l : List ℕ) → take n (drop o (take p l)) ≡ take n (drop o l)
    part l = let j : n ≤ p - o = omega arith in rw (drop-take o p l, take-take n (p - o) (drop o l))

pub part_after : (r' r : List ℕ) (p o n : ℕ) → drop p r' ≡ drop p r → p ≤ o → take n (drop o r') ≡ take n (drop o r)
part_after r' r p o n e h = ap (take n) (sym (part r') ∙ ap (drop (o - p)) e ∙ part r)
  where
    part : (l : List ℕ) → drop (o - p) (drop p l) ≡ drop o l
    part l = let j : p + (o - p) ≡ o = omega arith in rw (drop-drop (o - p) p l, j)

pub part_middle : (x y z : List ℕ) (a k : ℕ) → length x ≡ a → length y ≡ k → take k (drop a (x ++ (y ++ z))) ≡ y
part_middle x y z a k e h = ap (take k) (drop_at x (y ++ z) a e) ∙ take_at y z k h

-- A run of stores of b from p on.

pub sets-append : (l : List ℕ) (p : ℕ) (xs ys : List ℕ) → sets l p (xs ++ ys) ≡ sets (sets l p xs) (p + length xs) ys
sets-append l p [] ys = rw add-zero
sets-append l p (x ∷ xs) ys = let e : p + suc (length xs) ≡ suc p + length xs = omega arith in rw e (sets-append (set l p x) (suc p) xs ys)

module _ (r : List ℕ) (p : ℕ) (b : List ℕ) (fits : p + length b ≤ length r) where
  -- the same, by parts
  pub sets_parts : sets r p b ≡ take p r ++ (b ++ drop (p + length b) r)
  sets_parts = sets-eq b r p fits ∙ append_assoc (take p r) b (drop (p + length b) r)

  pub sets-before : take p (sets r p b) ≡ take p r
  sets-before = rw sets_parts (take_at (take p r) _ p (length-take-le p r (omega arith)))

  pub sets-after : drop (p + length b) (sets r p b) ≡ drop (p + length b) r
  sets-after = rw (sets-eq b r p fits) (drop_at (take p r ++ b) _ (p + length b) (simp (length-append, length-take) (omega arith)))

  pub sets_at : (k : ℕ) → k < length b → get_or (sets r p b) (p + k) 0 ≡ get_or b k 0
  sets_at k l =
      ap (λ (d : List ℕ). get_or d (p + k) 0) sets_parts
      ∙ ap (λ (m : ℕ). get_or (take p r ++ (b ++ drop (p + length b) r)) (m + k) 0) (sym (length-take-le p r (omega arith)))
      ∙ get_or-append-add (take p r) (b ++ drop (p + length b) r) k 0
      ∙ get_or-append b (drop (p + length b) r) 0 k l

  pub sets_part : (k n : ℕ) → k + n ≤ length b → take n (drop (p + k) (sets r p b)) ≡ take n (drop k b)
  sets_part k n l =
      let rest = drop (p + length b) r in
      let g : drop (p + k) (take p r ++ (b ++ rest)) ≡ drop k (b ++ rest) =
      ap (λ (m : ℕ). drop (m + k) (take p r ++ (b ++ rest))) (sym (length-take-le p r (omega arith))) ∙ drop-append-add (take p r) (b ++ rest) k in
      let d : drop k (b ++ rest) ≡ drop k b ++ rest = drop-append-le k b rest (omega arith) in
      ap (λ (s : List ℕ). take n (drop (p + k) s)) sets_parts
      ∙ ap (take n) (g ∙ d)
      ∙ take-append-le n (drop k b) rest (omega (arith, length-drop k b))

-- A part that was lent and is back: what the whole holds then.

pub part_put : (r ys : List ℕ) (a k : ℕ) → length ys ≡ k → a + k ≤ length r → take a r ++ (ys ++ drop k (drop a r)) ≡ sets r a ys
part_put r ys a k n h =
    let f : a + length ys ≤ length r = omega arith in
    rw (drop-drop k a r, ← n) (sym (sets_parts r a ys f))

pub part_stored : (r new : List ℕ) (a k : ℕ) → length new ≤ k → a + k ≤ length r
    → take a r ++ ((take (length new) new ++ drop (length new) (take k (drop a r))) ++ drop k (drop a r)) ≡ sets r a new
part_stored r new a k h l =
    let d = drop a r in
    let n = length new in
    let m : n ≤ length (take k d) = simp (length-take, length-drop) (omega arith) in
    let j : drop n (take k d) ++ drop k d ≡ drop n d = sym (drop-append-le n (take k d) (drop k d) m) ∙ ap (drop n) (take-append-drop k d) in
    let s : sets r a new ≡ take a r ++ (new ++ drop (a + n) r) = sets_parts r a new (omega arith) in
    rw (take-length new, append_assoc new (drop n (take k d)) (drop k d), j, drop-drop n a r) (sym s)
