-- Numbers as bytes, the highest first and the lowest first.
-- Assumes nothing.
use Prim.Native.Nat.{ℕ, zero, suc, ◌+◌, ◌*◌, ◌/◌, ◌%◌, ◌^◌, ◌≤◌, ◌<◌}
use native.Mathlib.Nat.{zero-add, add-zero}
use native.Mathlib.Omega.{arith}
use mathlib.Core.Path.{◌≡◌, refl, sym, ◌∙◌}
use mathlib.Core.List.{List, [], ◌∷◌, ◌++◌}
use lib.ListN.{length, get_or, take, drop, length-append, length-drop, get_or-append}
use lib.Seq.{get_or_at, get_or-drop, take-suc}
use Rattle.chip.specs.Chip.{Bytes}
use Rattle.chip.proofs.Laws.{bytes_cons, bytes_append}
use Rattle.format.specs.Layout.{big_endian, little_endian, big_endian_at, sum_at}

-- k bytes say the same number in another list that has the same bytes there
pub big_same : (r' r : List ℕ) (p' p k : ℕ) → ((i : ℕ) → i < k → get_or r' (p' + i) 0 ≡ get_or r (p + i) 0) → big_endian_at k r' p' ≡ big_endian_at k r p
unfolding big_endian_at
big_same r' r p' p zero h = refl
big_same r' r p' p (suc k) h = λ i. big_same r' r p' p k (λ j l. h j (omega arith)) i * 256 + h k (omega arith) i

-- and so the four bytes of a sum
pub sum_same : (r' r : List ℕ) (p : ℕ) → ((i : ℕ) → i < 4 → get_or r' (p + i) 0 ≡ get_or r i 0) → sum_at r' p ≡ sum_at r 0
sum_same r' r p h =
    let z : get_or r' p 0 ≡ get_or r 0 0 = rw add-zero at (h 0 (omega arith)) in
    λ i. z i + h 1 (omega arith) i * 256 + h 2 (omega arith) i * 65536 + h 3 (omega arith) i * 16777216

pub length_big : (k n : ℕ) → length (big_endian k n) ≡ k
unfolding big_endian
length_big zero n = refl
length_big (suc k) n = simp length-append (omega (arith, length_big k (n / 256)))

pub length_little : (k n : ℕ) → length (little_endian k n) ≡ k
unfolding little_endian
length_little zero n = refl
length_little (suc k) n = omega (arith, length_little k (n / 256))

-- the bytes of a number say the number
pub big_says : (k n : ℕ) → n < 256 ^ k → big_endian_at k (big_endian k n) 0 ≡ n
unfolding big_endian big_endian_at
big_says zero n h = omega arith
big_says (suc k) n h =
    let high = big_endian k (n / 256) in
    let a : big_endian_at k (high ++ (n % 256 ∷ [])) 0 ≡ big_endian_at k high 0 = big_same _ _ 0 0 k (λ i l. get_or-append high (n % 256 ∷ []) 0 (0 + i) (omega (arith, length_big k (n / 256)))) in
    let b : get_or (high ++ (n % 256 ∷ [])) (0 + k) 0 ≡ n % 256 = rw zero-add (get_or_at high (n % 256) [] 0 k (length_big k (n / 256))) in
    omega (arith, a, b, big_says k (n / 256) (omega arith))

pub little_says : (n : ℕ) → n < 2 ^ 32 → sum_at (little_endian 4 n) 0 ≡ n
unfolding little_endian
little_says n h = omega arith

-- and the number that bytes say has these bytes, where each is below 256
pub big_back : (k : ℕ) (r : List ℕ) (o : ℕ) → Bytes r → o + k ≤ length r → big_endian k (big_endian_at k r o) ≡ take k (drop o r)
unfolding big_endian big_endian_at
big_back zero r o b h = refl
big_back (suc k) r o b h =
    let n = big_endian_at k r o in
    let byte = get_or r (o + k) 0 in
    let l : byte < 256 = b (o + k) in
    let high : (n * 256 + byte) / 256 ≡ n = omega arith in
    let low : (n * 256 + byte) % 256 ≡ byte = omega arith in
    (λ i. big_endian k (high i) ++ (low i ∷ []))
    ∙ (λ i. big_back k r o b (omega arith) i ++ (sym (get_or-drop o r k 0) i ∷ []))
    ∙ sym (take-suc (drop o r) k 0 (omega (arith, length-drop o r)))

-- each byte of a number is below 256
pub no_bytes : Bytes []
no_bytes k = omega arith

pub big_bytes : (k n : ℕ) → Bytes (big_endian k n)
unfolding big_endian
big_bytes zero n = no_bytes
big_bytes (suc k) n = bytes_append (big_endian k (n / 256)) (n % 256 ∷ []) (big_bytes k (n / 256)) (bytes_cons (n % 256) [] (omega arith) no_bytes)

pub little_bytes : (k n : ℕ) → Bytes (little_endian k n)
unfolding little_endian
little_bytes zero n = no_bytes
little_bytes (suc k) n = bytes_cons (n % 256) (little_endian k (n / 256)) (omega arith) (little_bytes k (n / 256))
