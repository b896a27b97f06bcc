-- The state after several bytes: of two parts, at a loop's turn and end, and within 32 bits. By induction on the bytes.
-- Assumes nothing.
use mathlib.Core.Path.{◌≡◌, refl, sym, ◌∙◌}
use mathlib.Core.List.{List, [], ◌∷◌, ◌++◌}
use Prim.Native.Nat.{ℕ, zero, suc, ◌+◌, ◌*◌, ◌/◌, ◌%◌, ◌^◌, ◌<◌, ◌≤◌}
use native.Mathlib.Omega.{arith}
use native.Mathlib.Numerals.{add-one}
use lib.Bits.{bit_xor, xor_lt}
use lib.ListN.{length, get_or, drop, drop_of_length-le}
use lib.Seq.{drop-cons}
use Rattle.crc32.specs.Crc.{polynomial, shift, shifts, feed, run}

pub run_append : (a b : List ℕ) (c : ℕ) → run c (a ++ b) ≡ run (run c a) b
unfolding run
run_append [] b c = refl
run_append (x ∷ a) b c = run_append a b (feed c x)

-- a loop's turn: where the bytes that are left make of the state what all of them make of the first, so they do after one byte more
pub run_next : (crc state next : ℕ) (s : List ℕ) (i : ℕ) → run crc s ≡ run state (drop i s) → next ≡ feed state (get_or s i 0) → i < length s
    → run crc s ≡ run next (drop (i + 1) s)
unfolding run
run_next crc state next s i inv e h = inv ∙ rw (e, add-one, drop-cons s i 0)

-- a loop's end: none is left
pub run_end : (crc state : ℕ) (s : List ℕ) (i : ℕ) → run crc s ≡ run state (drop i s) → length s ≤ i → state ≡ run crc s
unfolding run
run_end crc state s i inv h = sym (inv ∙ rw (drop_of_length-le s h))

-- one bit leaves a number of 32 bits, whatever it is given
shift_fits : (c : ℕ) → shift c < 2 ^ 32
unfolding shift
shift_fits c = xor_lt 32 (c * 2 % 2 ^ 32) (c / 2 ^ 31 % 2 * polynomial) (omega arith) (omega arith)

shifts_fit : (n c : ℕ) → shifts (suc n) c < 2 ^ 32
unfolding shifts
shifts_fit zero c = shift_fits c
shifts_fit (suc n) c = shifts_fit n (shift c)

feed_fits : (c b : ℕ) → feed c b < 2 ^ 32
unfolding feed
feed_fits c b = shifts_fit 7 (bit_xor c (b * 2 ^ 24))

pub run_fits : (s : List ℕ) (c : ℕ) → c < 2 ^ 32 → run c s < 2 ^ 32
unfolding run
run_fits [] c h = h
run_fits (b ∷ s) c h = run_fits s (feed c b) (feed_fits c b)
