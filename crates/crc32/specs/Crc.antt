-- The checksum of a record, bit by bit, as crc32.rs has it: highest bit first, from 0, complemented at the end.
-- It is CRC-32/CKSUM of the CRC RevEng catalogue (alias CRC-32/POSIX):
-- width=32 poly=0x04c11db7 init=0x00000000 refin=false refout=false xorout=0xffffffff check=0x765e7680 residue=0xc704dd7b.
-- Assumes nothing.
use Rattle.std.specs.Prelude.{ℕ, zero, suc, ◌*◌, ◌/◌, ◌%◌, ◌^◌, ◌<◌, ◌≡◌, List, [], ◌∷◌, get_or}
use Rattle.std.specs.Int.Bits.{bit_xor}

-- R3.5: the polynomial, `poly: 0x04c11db7`
abbrev pub polynomial : ℕ
polynomial = 0x04C11DB7

-- R3.5: one step of the polynomial, which is one bit of a `u32` in `poly_sum_crc32`: `(value << 1) ^ ((value >> 31) * poly)`
unfoldable pub shift : ℕ → ℕ
shift c = bit_xor (c * 2 % 2 ^ 32) (c / 2 ^ 31 % 2 * polynomial)

-- R3.5: n steps of the polynomial: in `crc32` the line `value = poly_sum_crc32(poly, value);`, n times
unfoldable pub shifts : ℕ → ℕ → ℕ
shifts zero c = c
shifts (suc n) c = shifts n (shift c)

-- R3.5: each byte with its highest bit first (`refin: false`): xored into the top eight bits of the state, which are then shifted out
unfoldable pub feed : ℕ → ℕ → ℕ
feed c b = shifts 8 (bit_xor c (b * 2 ^ 24))

-- R3.5: the bytes in turn, from the state c, as `update` takes them
unfoldable pub run : ℕ → List ℕ → ℕ
run c [] = c
run c (b ∷ bs) = run (feed c b) bs

-- R3.5: every bit of the result is inverted, as in `finalise`: `crc ^ 0xffffffff`
abbrev pub finish : ℕ → ℕ
finish c = bit_xor c 0xFFFFFFFF

-- R3.5, R5.10: the checksum of any bytes, by `Crc32::new`, `update` and `finalise`: the start value is 0, `init: 0x00000000`
unfoldable pub checksum : List ℕ → ℕ
checksum s = finish (run 0 s)

-- R3.5: what k, put into the top byte of 32 bits, becomes by eight steps of the polynomial: `crc32(poly, byte)`, `(byte as u32) << 24`
abbrev pub entry : ℕ → ℕ
entry k = shifts 8 (k * 2 ^ 24)

-- R3.5: a table of 256 words, one for each value of a byte, as `CRC_TABLE` is: word k is `crc32(0x04c11db7, k)`
pub record Table (t : List ℕ) : Type 0 where
  pub word : (k : ℕ) → k < 256 → get_or t k 0 ≡ entry k
