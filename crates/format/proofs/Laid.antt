-- The library's bytes of a number are those of the definitions, and its number of eight bytes too.
-- Assumes nothing.
use Prim.Native.Nat.{ℕ, ◌+◌, ◌/◌, ◌%◌, ◌^◌}
use native.Mathlib.Nat.{add-zero}
use native.Mathlib.Omega.{arith}
use mathlib.Core.Path.{◌≡◌}
use mathlib.Core.List.{List, [], ◌∷◌}
use lib.ListN.{get_or}
use Rattle.std.specs.Int.{w32, w64, to_be_bytes, to_le_bytes, from_be_bytes}
use Rattle.format.specs.Layout.{big_endian, little_endian, big_endian_at}

pub big_eight : (n : ℕ) → to_be_bytes w64 n ≡ big_endian 8 n
unfolding big_endian
big_eight n =
    let one : n / 256 ^ 7 % 256 ≡ n / 256 / 256 / 256 / 256 / 256 / 256 / 256 % 256 = omega arith in
    let two : n / 256 ^ 6 % 256 ≡ n / 256 / 256 / 256 / 256 / 256 / 256 % 256 = omega arith in
    let three : n / 256 ^ 5 % 256 ≡ n / 256 / 256 / 256 / 256 / 256 % 256 = omega arith in
    let four : n / 256 ^ 4 % 256 ≡ n / 256 / 256 / 256 / 256 % 256 = omega arith in
    let five : n / 256 ^ 3 % 256 ≡ n / 256 / 256 / 256 % 256 = omega arith in
    let six : n / 256 ^ 2 % 256 ≡ n / 256 / 256 % 256 = omega arith in
    λ i. one i ∷ two i ∷ three i ∷ four i ∷ five i ∷ six i ∷ (n / 256 % 256) ∷ (n % 256) ∷ []

pub little_four : (n : ℕ) → to_le_bytes w32 n ≡ little_endian 4 n
unfolding little_endian
little_four n =
    let three : n / 256 ^ 2 % 256 ≡ n / 256 / 256 % 256 = omega arith in
    let four : n / 256 ^ 3 % 256 ≡ n / 256 / 256 / 256 % 256 = omega arith in
    λ i. (n % 256) ∷ (n / 256 % 256) ∷ three i ∷ four i ∷ []

pub eight_says : (r : List ℕ) (o : ℕ)
    → from_be_bytes w64 (get_or r o 0 ∷ get_or r (o + 1) 0 ∷ get_or r (o + 2) 0 ∷ get_or r (o + 3) 0 ∷ get_or r (o + 4) 0 ∷ get_or r (o + 5) 0 ∷ get_or r (o + 6) 0 ∷ get_or r (o + 7) 0 ∷ []) ≡ big_endian_at 8 r o
unfolding big_endian_at
eight_says r o =
    let z : get_or r (o + 0) 0 ≡ get_or r o 0 = rw add-zero in
    omega arith
