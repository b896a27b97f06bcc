-- A run of stores from one place on, and a list that is changed in one part only: what that part holds then, and what the rest.
-- Proved once for every rule by which the old byte and the new make the stored one, by induction on the new bytes. Assumes nothing.
use Prim.Native.Nat.{ℕ, zero, suc, ◌+◌, ◌≤◌, ◌<◌}
use native.Mathlib.Nat.{add-suc, add-zero}
use native.Mathlib.Numerals.{add-one}
use native.Mathlib.Omega.{arith}
use mathlib.Core.Path.{◌≡◌, sym, ◌∙◌, ap}
use mathlib.Core.List.{List, [], ◌∷◌, ◌++◌}
use lib.ListN.{length, get_or, take, drop, set, replicate, length-set, drop_of_length-le}
use lib.Seq.{sets, drop-cons, get_or-take, get_or-drop, take-set-le, take-set-lt, drop-set-lt, drop-set-add, drop-drop}
use borrow.Rule.Slice.PartMut.{mid_of, put_mid, put_same}
pub use Rattle.chip.specs.Landing.{Run, sets-run, written_run}

-- But for the k bytes from place a on the two are the same.
pub record Within (l' l : List ℕ) (a k : ℕ) : Type 0 where
  pub before : take a l' ≡ take a l
  pub after : drop (a + k) l' ≡ drop (a + k) l

-- What lies outside the part is all that a lender has kept of the old list.
pub within_back : {l' l : List ℕ} {a k : ℕ} → Within l' l a k → put_mid a k l (mid_of a k l') ≡ l'
within_back {l'} {l} {a} {k} w =
    let d : drop k (drop a l) ≡ drop k (drop a l') = drop-drop k a l ∙ sym w.after ∙ sym (drop-drop k a l') in
    (λ i. sym w.before i ++ (mid_of a k l' ++ d i)) ∙ put_same a k l'

module _ {byte : ℕ → ℕ → ℕ} {g : List ℕ → ℕ → List ℕ → List ℕ} (run : Run byte g) where
  -- A run a byte at a time, as a loop goes: the one at i is stored, and the rest from i + 1 on; none is left at the end.
  pub run_one : (l b : List ℕ) (p i : ℕ) → i < length b → g (set l (p + i) (byte (get_or l (p + i) 0) (get_or b i 0))) (p + (i + 1)) (drop (i + 1) b) ≡ g l (p + i) (drop i b)
  run_one l b p i h =
      rw (drop-cons b i 0 h, add-one, add-suc)
      (sym (run.one l (p + i) (get_or b i 0) (drop (suc i) b)))

  pub run_none : (l b : List ℕ) (p i : ℕ) → length b ≤ i → g l p (drop i b) ≡ l
  run_none l b p i h = rw (drop_of_length-le b h) (run.none l p)

  run_before : (l : List ℕ) (p : ℕ) (b : List ℕ) (m : ℕ) → m ≤ p → take m (g l p b) ≡ take m l
  run_before l p [] m h = ap (take m) (run.none l p)
  run_before l p (x ∷ b) m h =
      let v = byte (get_or l p 0) x in
      ap (take m) (run.one l p x b) ∙ run_before (set l p v) (suc p) b m (omega arith) ∙ take-set-le m l p v h

  run_after : (l : List ℕ) (p : ℕ) (b : List ℕ) (m : ℕ) → p + length b ≤ m → drop m (g l p b) ≡ drop m l
  run_after l p [] m h = ap (drop m) (run.none l p)
  run_after l p (x ∷ b) m h =
      let v = byte (get_or l p 0) x in
      ap (drop m) (run.one l p x b) ∙ run_after (set l p v) (suc p) b m (omega arith) ∙ drop-set-lt m l p v (omega arith)

  pub run_within : (l : List ℕ) (p : ℕ) (b : List ℕ) (a k : ℕ) → a ≤ p → p + length b ≤ a + k → Within (g l p b) l a k
  run_within l p b a k h e = record { before = run_before l p b a h; after = run_after l p b (a + k) e }

  -- A run inside a part is the same run in the part alone.
  pub run_part : (l : List ℕ) (a k o : ℕ) (b : List ℕ) → o + length b ≤ k → mid_of a k (g l (a + o) b) ≡ g (mid_of a k l) o b
  run_part l a k o [] h = ap (mid_of a k) (run.none l (a + o)) ∙ sym (run.none (mid_of a k l) o)
  run_part l a k o (x ∷ b) h =
      let f = byte in
      let v = f (get_or l (a + o) 0) x in
      let i : o < k = omega arith in
      let s : mid_of a k (set l (a + o) v) ≡ set (mid_of a k l) o v = rw (drop-set-add a l o v) (take-set-lt k (drop a l) o v i) in
      let e : get_or l (a + o) 0 ≡ get_or (mid_of a k l) o 0 = sym (get_or-take k (drop a l) o 0 i ∙ get_or-drop a l o 0) in
      ap (mid_of a k) (run.one l (a + o) x b)
      ∙ ap (λ (p : ℕ). mid_of a k (g (set l (a + o) v) p b)) (sym (add-suc a o))
      ∙ run_part (set l (a + o) v) a k (suc o) b (omega arith)
      ∙ ap (λ (m : List ℕ). g m (suc o) b) (s ∙ ap (λ (y : ℕ). set (mid_of a k l) o (f y x)) e)
      ∙ sym (run.one (mid_of a k l) o x b)

  -- A part that is lent and comes back with the run in it.
  pub run_back : (l : List ℕ) (a k o : ℕ) (b : List ℕ) → o + length b ≤ k → put_mid a k l (g (mid_of a k l) o b) ≡ g l (a + o) b
  run_back l a k o b h = ap (put_mid a k l) (sym (run_part l a k o b h)) ∙ within_back (run_within l (a + o) b a k (omega arith) (omega arith))

  -- A run is as long as what it goes over; two, one behind the other, are one; and zeros are stored, whatever stood there.
  pub run_length : (l : List ℕ) (p : ℕ) (b : List ℕ) → length (g l p b) ≡ length l
  run_length l p [] = ap length (run.none l p)
  run_length l p (x ∷ b) =
      let v = byte (get_or l p 0) x in
      ap length (run.one l p x b) ∙ run_length (set l p v) (suc p) b ∙ length-set l p v

  pub run_append : (l : List ℕ) (p : ℕ) (xs ys : List ℕ) → g l p (xs ++ ys) ≡ g (g l p xs) (p + length xs) ys
  run_append l p [] ys = rw (add-zero, run.none)
  run_append l p (x ∷ xs) ys =
      let e : p + suc (length xs) ≡ suc p + length xs = omega arith in
      let v = byte (get_or l p 0) x in
      run.one l p x (xs ++ ys) ∙ run_append (set l p v) (suc p) xs ys ∙ (λ i. g (sym (run.one l p x xs) i) (sym e i) ys)

  pub run_zeros : (l : List ℕ) (p n : ℕ) → g l p (replicate n 0) ≡ sets l p (replicate n 0)
  run_zeros l p zero = run.none l p
  run_zeros l p (suc n) =
      run.one l p 0 (replicate n 0)
      ∙ ap (λ (v : ℕ). g (set l p v) (suc p) (replicate n 0)) (run.zero (get_or l p 0))
      ∙ run_zeros (set l p 0) (suc p) n
