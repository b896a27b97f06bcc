-- A record's bytes say the record.
-- Assumes nothing.
use Prim.Native.Nat.{ℕ, ◌+◌, ◌-◌, ◌*◌, ◌/◌, ◌%◌, ◌^◌, ◌≤◌, ◌<◌}
use native.Mathlib.Nat.{zero-add}
use native.Mathlib.Omega.{arith}
use mathlib.Core.Path.{◌≡◌, ◌∙◌, ap}
use mathlib.Core.List.{List, [], ◌∷◌, ◌++◌, append_assoc}
use lib.ListN.{length, get_or, take, drop, length-append}
use lib.Seq.{get_or-append-add, take_all, take_at, drop_at}
use Rattle.crc32.specs.Crc.{checksum}
use Rattle.std.specs.Prelude.{Ok}
use Rattle.format.specs.Layout.{edition, big_endian, little_endian, header, record_length, header_and_value, record_bytes}
use Rattle.region.specs.Walk.{length_at, flags_at, key_at, met_at, value_in, record_of}
use Rattle.format.proofs.Numbers.{big_same, big_says, length_little}
use Rattle.format.proofs.Bytes.{in_header, length-header, length_summed, length_record}
use Rattle.region.proofs.Steps.{is_found}

pub record_says : (key : ℕ) (value : List ℕ) → key < 2 ^ 64 → length value ≤ 4079 → met_at (record_bytes key value) 0 ≡ Ok (record_of 0 key value)
record_says key value h l =
    let b = record_bytes key value in
    let n = record_length (length value) in
    let size = length_record key value in
    let zero_is : get_or b 0 0 ≡ 1 = in_header key value 0 (omega arith) in
    let one_is : get_or b (0 + 1) 0 ≡ 8 * 16 + n / 256 = in_header key value 1 (omega arith) in
    let two_is : get_or b (0 + 2) 0 ≡ n % 256 = in_header key value 2 (omega arith) in
    let len : length_at b 0 ≡ n = omega arith in
    let flags : flags_at b 0 ≡ 8 = omega arith in
    let key_is : key_at b 0 ≡ key =
    big_same b (big_endian 8 key) (0 + 3) 0 8
    (λ i j. in_header key value (3 + i) (omega arith)
    ∙ get_or-append-add (1 ∷ (8 * 16 + n / 256) ∷ (n % 256) ∷ []) (big_endian 8 key) i 0
    ∙ rw zero-add)
    ∙ big_says 8 key h in
    is_found _ _ _
    (record {
      space = omega arith;
      version_is = zero_is;
      least = omega arith;
      fits = omega arith;
      same = λ i. record { at = 0; len = len i; version = zero_is i; flags = flags i; key = key_is i };
    })

pub value_says : (key : ℕ) (value : List ℕ) → value_in (record_bytes key value) (record_of 0 key value) ≡ value
unfolding record_bytes
value_says key value =
    let n : length value ≡ record_length (length value) - 15 = omega arith in
    let sum = little_endian 4 (checksum (header_and_value key value)) in
    let b = header_and_value key value ++ sum in
    ap (λ (l : List ℕ). take (record_length (length value) - 15) (drop 11 l)) (take_all (record_length (length value)) b (omega (arith, length-append (header_and_value key value) sum, length_summed key value, length_little 4 (checksum (header_and_value key value)))))
    ∙ ap (λ (l : List ℕ). take (record_length (length value) - 15) (drop 11 l)) (append_assoc (header edition 8 (record_length (length value)) key) value sum)
    ∙ ap (take (record_length (length value) - 15)) (drop_at (header edition 8 (record_length (length value)) key) (value ++ sum) 11 (length-header edition 8 (record_length (length value)) key))
    ∙ take_at value sum (record_length (length value) - 15) n
