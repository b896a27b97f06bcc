-- What others rely on of the checksum. The two values are computed, and the laws follow from those of Run and of equality.
-- Assumes nothing.
use mathlib.Core.Path.{◌≡◌, refl, sym, ap, ◌∙◌}
use mathlib.Core.List.{List, [], ◌∷◌, ◌++◌}
use Prim.Native.Nat.{ℕ, ◌^◌, ◌<◌}
use native.Mathlib.Omega.{arith}
use lib.Bits.{xor_lt}
use Rattle.crc32.specs.Crc.{shift, shifts, feed, run, finish, checksum}
use Rattle.crc32.proofs.Run.{run_append, run_fits}

-- R3.5: of the nine bytes "123456789" it is 0x765E7680, the published check of CRC-32/CKSUM.
pub check_value : checksum (49 ∷ 50 ∷ 51 ∷ 52 ∷ 53 ∷ 54 ∷ 55 ∷ 56 ∷ 57 ∷ []) ≡ 0x765E7680
unfolding checksum run feed shifts shift
check_value = refl

-- R3.5: of no bytes it is 0xFFFFFFFF: they leave the start value, and its complement is all ones.
pub empty : checksum [] ≡ 0xFFFFFFFF
unfolding checksum run
empty = refl

-- R3.5: two parts are summed one after the other, with no need to put them together.
pub in_two_parts : (a b : List ℕ) → checksum (a ++ b) ≡ finish (run (run 0 a) b)
unfolding checksum
in_two_parts a b = ap finish (run_append a b 0)

-- R3.5: a checksum is 32 bits wide, so it fits four bytes, whatever is summed.
pub checksum_fits : (s : List ℕ) → checksum s < 2 ^ 32
unfolding checksum
checksum_fits s = xor_lt 32 (run 0 s) 0xFFFFFFFF (run_fits s 0 (omega arith)) (omega arith)

-- R7.5: for one input there is one answer: any two results that the contract allows for the same bytes are identical.
pub only_one : (s : List ℕ) (x y : ℕ) → x ≡ checksum s → y ≡ checksum s → x ≡ y
only_one s x y p q = p ∙ sym q
