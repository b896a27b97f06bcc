-- Two laws of xor that the library lacks: the order of what is xored in does not matter, by induction on the digits, and a shift passes through.
-- Assumes nothing.
use mathlib.Core.Path.{◌≡◌, refl, sym, ap₂, ◌∙◌}
use Prim.Native.Nat.{ℕ, zero, suc, ◌+◌, ◌*◌, ◌/◌, ◌%◌, ◌^◌, ◌<◌}
use native.Mathlib.Nat.{div-add-mod', add-zero}
use native.Mathlib.Omega.{arith}
use lib.Arith.{bin_ind}
use lib.Pow.{pow_pos}
use lib.Bits.{bit_xor, xor_block, xor_shr, xor_mod, xor_comm, xor_zero_r}

-- the order does not matter for single digits
digits : (x y z : ℕ) → x < 2 → y < 2 → z < 2 → bit_xor (bit_xor x y) z ≡ bit_xor (bit_xor x z) y
digits zero y z hx hy hz = xor_comm y z
digits (suc zero) zero z hx hy hz = sym (xor_zero_r (bit_xor 1 z))
digits (suc zero) (suc zero) zero hx hy hz = refl
digits (suc zero) (suc zero) (suc zero) hx hy hz = refl
digits (suc zero) (suc zero) (suc (suc z)) hx hy hz = omega arith
digits (suc zero) (suc (suc y)) z hx hy hz = omega arith
digits (suc (suc x)) y z hx hy hz = omega arith

-- the lowest digit and those above it are xored apart
apart : (x y : ℕ) → bit_xor x y ≡ bit_xor (x / 2) (y / 2) * 2 + bit_xor (x % 2) (y % 2)
apart x y =
    ap₂ bit_xor (sym (div-add-mod' x 2)) (sym (div-add-mod' y 2))
    ∙ xor_block 1 (x / 2) (y / 2) (x % 2) (y % 2) (omega arith) (omega arith)

three_apart : (x y z : ℕ) → bit_xor (bit_xor x y) z ≡ bit_xor (bit_xor (x / 2) (y / 2)) (z / 2) * 2 + bit_xor (bit_xor (x % 2) (y % 2)) (z % 2)
three_apart x y z =
    apart (bit_xor x y) z
    ∙ ap₂ (λ (p q : ℕ). bit_xor p (z / 2) * 2 + bit_xor q (z % 2)) (xor_shr x y 1) (xor_mod x y 1)

pub xor_right_comm : (x y z : ℕ) → bit_xor (bit_xor x y) z ≡ bit_xor (bit_xor x z) y
xor_right_comm =
    bin_ind (λ (x : ℕ). (y z : ℕ) → bit_xor (bit_xor x y) z ≡ bit_xor (bit_xor x z) y) xor_comm
    (λ x ih y z. three_apart x y z
    ∙ ap₂ (λ (p q : ℕ). p * 2 + q) (ih (y / 2) (z / 2)) (digits (x % 2) (y % 2) (z % 2) (omega arith) (omega arith) (omega arith))
    ∙ sym (three_apart x z y))

pub xor_shl : (k x y : ℕ) → bit_xor x y * 2 ^ k ≡ bit_xor (x * 2 ^ k) (y * 2 ^ k)
xor_shl k x y =
    sym (add-zero (bit_xor x y * 2 ^ k))
    ∙ sym (xor_block k x y 0 0 (pow_pos k) (pow_pos k))
    ∙ ap₂ bit_xor (add-zero (x * 2 ^ k)) (add-zero (y * 2 ^ k))
