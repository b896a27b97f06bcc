-- A byte by the table is a byte bit by bit. The low 24 bits of a state only move up while its top eight are shifted out, so what those
-- eight make can be looked up by themselves.
-- Assumes nothing.
use mathlib.Core.Path.{◌≡◌, sym, ap, ap₂, ◌∙◌}
use mathlib.Core.List.{List}
use Prim.Native.Nat.{ℕ, zero, suc, ◌+◌, ◌*◌, ◌/◌, ◌%◌, ◌^◌, ◌<◌, ◌≤◌}
use native.Mathlib.Omega.{arith}
use native.Mathlib.Nat.{mul-one, mul_assoc, mul_comm, pow-suc, add-zero, lt_of_lt_of_le}
use lib.Pow.{pow_mono, pow_pos, shl_lt, split}
use lib.Bits.{bit_xor, xor_block, xor_shr, xor_mod, xor_comm, xor_zero_r, xor_shifted}
use Rattle.crc32.specs.Crc.{Table, polynomial, shift, shifts, feed, entry}
use Rattle.crc32.proofs.Entries.{values, at}
use Rattle.crc32.proofs.Xor.{xor_shl, xor_right_comm}

-- a part l without the top bit leaves the top bit of x as it is
top : (x l : ℕ) → l < 2 ^ 31 → bit_xor x l / 2 ^ 31 ≡ x / 2 ^ 31
top x l h =
    let e : l / 2 ^ 31 ≡ 0 = omega arith in
    xor_shr x l 31 ∙ ap (bit_xor (x / 2 ^ 31)) e ∙ xor_zero_r (x / 2 ^ 31)

-- and loses no bit where the two are doubled
doubled : (x l : ℕ) → l < 2 ^ 31 → bit_xor x l * 2 % 2 ^ 32 ≡ bit_xor (x * 2 % 2 ^ 32) (l * 2)
doubled x l h =
    let e : l * 2 % 2 ^ 32 ≡ l * 2 = omega arith in
    ap (λ (n : ℕ). n % 2 ^ 32) (xor_shl 1 x l) ∙ xor_mod (x * 2) (l * 2) 32 ∙ ap (bit_xor (x * 2 % 2 ^ 32)) e

-- so one bit only moves it up
shift_xor : (x l : ℕ) → l < 2 ^ 31 → shift (bit_xor x l) ≡ bit_xor (shift x) (l * 2)
unfolding shift
shift_xor x l h =
    ap₂ (λ (n t : ℕ). bit_xor n (t % 2 * polynomial)) (doubled x l h) (top x l h)
    ∙ xor_right_comm (x * 2 % 2 ^ 32) (l * 2) (x / 2 ^ 31 % 2 * polynomial)

-- and so do k bits, where l has j bits and none of them is shifted out
shifts_xor : (k j x l : ℕ) → j + k ≤ 32 → l < 2 ^ j → shifts k (bit_xor x l) ≡ bit_xor (shifts k x) (l * 2 ^ k)
unfolding shifts
shifts_xor zero j x l s h = ap (bit_xor x) (sym (mul-one l))
shifts_xor (suc k) j x l s h =
    ap (shifts k) (shift_xor x l (lt_of_lt_of_le h (pow_mono {j = 31} (omega arith))))
    ∙ shifts_xor k (j + 1) (shift x) (l * 2) (omega arith) (shl_lt j 1 h)
    ∙ ap (bit_xor (shifts k (shift x))) (mul_assoc l 2 (2 ^ k) ∙ ap (λ (n : ℕ). l * n) (mul_comm 2 (2 ^ k) ∙ sym (pow-suc 2 k)))

-- a state with the byte b xored into its top eight bits: those eight, and the low 24
parts : (c b : ℕ) → bit_xor c (b * 2 ^ 24) ≡ bit_xor (bit_xor b (c / 2 ^ 24) * 2 ^ 24) (c % 2 ^ 24)
parts c b =
    let small : c % 2 ^ 24 < 2 ^ 24 = omega arith in
    xor_comm c (b * 2 ^ 24)
    ∙ ap₂ bit_xor (sym (add-zero (b * 2 ^ 24))) (sym (split c 24))
    ∙ xor_block 24 b (c / 2 ^ 24) 0 (c % 2 ^ 24) (pow_pos 24) small
    ∙ sym (xor_shifted (bit_xor b (c / 2 ^ 24)) 24 (c % 2 ^ 24) small)

-- one byte, where w is the table's word for the top eight bits
pub byte_step : (c b w : ℕ) → w ≡ entry (bit_xor b (c / 2 ^ 24)) → bit_xor w (c * 2 ^ 8 % 2 ^ 32) ≡ feed c b
unfolding feed
byte_step c b w e =
    let low : c * 2 ^ 8 % 2 ^ 32 ≡ c % 2 ^ 24 * 2 ^ 8 = omega arith in
    sym (ap (shifts 8) (parts c b) ∙ shifts_xor 8 24 (bit_xor b (c / 2 ^ 24) * 2 ^ 24) (c % 2 ^ 24) (omega arith) (omega arith) ∙ cc)

-- the table's rule, from one equation of lists
pub table_rule : (t : List ℕ) → t ≡ values entry 0 256 → Table t
table_rule t e = record { word = λ k h. rw e (at entry 256 k h) }
