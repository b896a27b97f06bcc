-- A record's bytes: how many, that each is a byte, its header's among them, and that its checksum fits.
-- Assumes nothing.
use Prim.Native.Nat.{ℕ, ◌+◌, ◌-◌, ◌*◌, ◌/◌, ◌%◌, ◌^◌, ◌≤◌, ◌<◌}
use native.Mathlib.Omega.{arith}
use mathlib.Core.Path.{◌≡◌, sym, ◌∙◌, ap}
use mathlib.Core.Bool.{true}
use mathlib.Core.List.{List, ◌∷◌, ◌++◌}
use lib.ListN.{length, get_or, take, length-append, get_or-append}
use lib.Seq.{get_or-append-add, take_at}
use borrow.Author.Tests.{eq-eqb}
use Rattle.crc32.specs.Crc.{checksum}
use Rattle.chip.specs.Chip.{Bytes}
use Rattle.chip.proofs.Laws.{bytes_cons, bytes_append}
use Rattle.format.specs.Layout.{edition, big_endian, little_endian, header, record_length, header_and_value, record_bytes, sum_at, check_sum_fits}
use Rattle.format.proofs.Numbers.{sum_same, big_bytes, length_big, length_little, little_says, little_bytes}

pub length-header : (version flags len key : ℕ) → length (header version flags len key) ≡ 11
length-header version flags len key = omega (arith, length_big 8 key)

pub length_summed : (key : ℕ) (value : List ℕ) → length (header_and_value key value) ≡ length value + 11
length_summed key value = length-append (header edition 8 (record_length (length value)) key) value ∙ omega (arith, length-header edition 8 (record_length (length value)) key)

pub length_record : (key : ℕ) (value : List ℕ) → length (record_bytes key value) ≡ record_length (length value)
unfolding record_bytes
length_record key value =
    length-append (header_and_value key value) (little_endian 4 (checksum (header_and_value key value)))
    ∙ omega (arith, length_summed key value, length_little 4 (checksum (header_and_value key value)))

pub header_bytes : (version flags len key : ℕ) → version < 256 → flags ≤ 15 → len ≤ 4095 → Bytes (header version flags len key)
header_bytes version flags len key v f h =
    let low = bytes_cons (len % 256) (big_endian 8 key) (omega arith) (big_bytes 8 key) in
    let high = bytes_cons (flags * 16 + len / 256) (len % 256 ∷ big_endian 8 key) (omega arith) low in
    bytes_cons version ((flags * 16 + len / 256) ∷ (len % 256) ∷ big_endian 8 key) v high

pub record_bytes_lem : (key : ℕ) (value : List ℕ) → length value ≤ 4079 → Bytes value → Bytes (record_bytes key value)
unfolding record_bytes
record_bytes_lem key value l b =
    bytes_append (header_and_value key value) (little_endian 4 (checksum (header_and_value key value)))
    (bytes_append (header edition 8 (record_length (length value)) key) value (header_bytes edition 8 (record_length (length value)) key (omega arith) (omega arith) (omega arith)) b)
    (little_bytes 4 (checksum (header_and_value key value)))

-- the header's bytes, where the record's are
pub in_header : (key : ℕ) (value : List ℕ) (k : ℕ) → k < 11 → get_or (record_bytes key value) k 0 ≡ get_or (header edition 8 (record_length (length value)) key) k 0
unfolding record_bytes
in_header key value k h =
    get_or-append (header_and_value key value) _ 0 k (omega (arith, length_summed key value))
    ∙ get_or-append (header edition 8 (record_length (length value)) key) value 0 k (omega (arith, length-header edition 8 (record_length (length value)) key))

-- the checksum of header and value stands after them, for any bytes of which it is one word
pub sum_says : (key : ℕ) (value : List ℕ) → checksum (header_and_value key value) < 2 ^ 32 → check_sum_fits (record_bytes key value) ≡ true
unfolding record_bytes check_sum_fits
sum_says key value h =
    let body = header_and_value key value in
    let b = body ++ little_endian 4 (checksum body) in
    let m : length b - 4 ≡ length body = omega (arith, length-append body (little_endian 4 (checksum body)), length_little 4 (checksum body)) in
    let before : take (length b - 4) b ≡ body = take_at body (little_endian 4 (checksum body)) (length b - 4) (sym m) in
    let after : sum_at b (length b - 4) ≡ checksum body =
    ap (sum_at b) m ∙ sum_same b (little_endian 4 (checksum body)) (length body) (λ i l. get_or-append-add body (little_endian 4 (checksum body)) i 0) ∙ little_says (checksum body) h in
    eq-eqb (checksum (take (length b - 4) b)) (sum_at b (length b - 4)) (ap checksum before ∙ sym after)
