-- What makes a record dead, of the record alone, is what the region's own bytes say; a write of it makes that record dead and leaves the rest.
-- Assumes nothing.
use Prim.Native.Nat.{ℕ, suc, ◌+◌, ◌-◌, ◌*◌, ◌/◌, ◌%◌, ◌≤◌, ◌<◌}
use native.Mathlib.Nat.{add-zero}
use native.Mathlib.Omega.{arith}
use mathlib.Core.Path.{◌≡◌, refl, sym, ◌∙◌, ap, subst}
use mathlib.Core.Bool.{Bool, true, false}
use mathlib.Core.List.{List, [], ◌∷◌, ◌++◌}
use lib.Bits.{bit_and, and_self, and_zero_r}
use lib.Dec.{ltb, eqb}
use lib.ListN.{length, get_or, take, drop, set, replicate, length-append, length-set, length-take, length-drop, length-replicate, get_or-replicate, get_or-append}
use lib.Seq.{sets, length-sets, drop-cons, get_or-take, get_or-drop, get_or-set_same, get_or-set_other, get_or-append-add, take-set-le, drop-set-lt}
use borrow.Author.Tests.{ltb-true, ltb-false, eqb-true, eqb-false}
use Rattle.chip.specs.Chip.{Bytes, written}
use Rattle.chip.proofs.Lists.{sets-before, sets-after, sets_at}
use Rattle.chip.proofs.Laws.{written_stores, and_clear}
use Rattle.chip.proofs.Theorems.{clears_flag}
use Rattle.format.specs.declared.Record.{Record}
use Rattle.format.specs.declared.Removal.{Removal}
use Rattle.std.specs.Prelude.{Ok}
use Rattle.format.specs.Layout.{dead_header, kill_bytes, kill_place}
use Rattle.region.specs.Walk.{record_at, met_at}
use Rattle.format.proofs.Numbers.{big_back}
use Rattle.region.proofs.Steps.{found, found_fits}
use Rattle.region.proofs.Change.{Buried, flag_gone}

-- The same bytes, read off the region where the record stands.

-- byte 1 of the record at o with the top bit cleared
abbrev pub dead_byte : List ℕ → ℕ → ℕ
dead_byte r o = get_or r (o + 1) 0 % 128

-- its header with that byte, value and checksum 0
abbrev pub zero_bytes : List ℕ → ℕ → ℕ → List ℕ
zero_bytes r o len = set (take 11 (drop o r)) 1 (dead_byte r o) ++ replicate (len - 11) 0

abbrev pub bytes_at : Removal → List ℕ → Record → List ℕ
bytes_at Removal.Invalidate r x = dead_byte r x.at ∷ []
bytes_at Removal.Zeroise r x = zero_bytes r x.at x.len

header_at : (r : List ℕ) (o : ℕ) → o + 11 ≤ length r → take 11 (drop o r) ≡ get_or r o 0 ∷ get_or r (o + 1) 0 ∷ get_or r (o + 2) 0 ∷ take 8 (drop (o + 3) r)
header_at r o h =
    let one : suc o ≡ o + 1 = omega arith in
    let two : suc (o + 1) ≡ o + 2 = omega arith in
    let three : suc (o + 2) ≡ o + 3 = omega arith in
    ap (take 11) (drop-cons r o 0 (omega arith) ∙ ap (λ (n : ℕ). get_or r o 0 ∷ drop n r) one)
    ∙ ap (λ (l : List ℕ). get_or r o 0 ∷ take 10 l) (drop-cons r (o + 1) 0 (omega arith) ∙ ap (λ (n : ℕ). get_or r (o + 1) 0 ∷ drop n r) two)
    ∙ ap (λ (l : List ℕ). get_or r o 0 ∷ get_or r (o + 1) 0 ∷ take 9 l) (drop-cons r (o + 2) 0 (omega arith) ∙ ap (λ (n : ℕ). get_or r (o + 2) 0 ∷ drop n r) three)

-- flags and the length's high bits, taken apart and put together without the top flag
flag_back : (b c : ℕ) → b / 16 % 8 * 16 + (b % 16 * 256 + c % 256) / 256 ≡ b % 128
flag_back b c =
    let high : (b % 16 * 256 + c % 256) / 256 ≡ b % 16 = omega arith in
    let low : b % 128 ≡ b % 128 / 16 * 16 + b % 16 = omega arith in
    omega (arith, flag_gone b)

module _ (r : List ℕ) (x : Record) (bytes : Bytes r) (stands : met_at r x.at ≡ Ok x) where
  header_is : dead_header x ≡ set (take 11 (drop x.at r)) 1 (dead_byte r x.at)
  header_is =
      let o = x.at in
      let f = found_fits r o x stands in
      let two = bytes (o + 2) in
      let low : (get_or r (o + 1) 0 % 16 * 256 + get_or r (o + 2) 0 % 256) % 256 ≡ get_or r (o + 2) 0 = omega arith in
      ap dead_header (sym (found (length r - o) (record_at r o) x stands).same)
      ∙ (λ i. get_or r o 0 ∷ flag_back (get_or r (o + 1) 0) (get_or r (o + 2) 0) i ∷ low i ∷ big_back 8 r (o + 3) bytes (omega arith) i)
      ∙ ap (λ (l : List ℕ). set l 1 (dead_byte r o)) (sym (header_at r o (omega arith)))

  pub bytes_are : (how : Removal) → kill_bytes how x ≡ bytes_at how r x
  bytes_are Removal.Invalidate =
      let w : length (take 11 (drop x.at r)) ≡ 11 = simp (length-take, length-drop) (omega (arith, found_fits r x.at x stands)) in
      ap (λ (l : List ℕ). get_or l 1 0 ∷ []) header_is ∙ ap (λ (b : ℕ). b ∷ []) (get_or-set_same (take 11 (drop x.at r)) 1 (dead_byte r x.at) 0 (omega arith))
  bytes_are Removal.Zeroise = ap (λ (l : List ℕ). l ++ replicate (x.len - 11) 0) header_is

-- The bytes that zeroise writes, one by one.

module _ (r : List ℕ) (o len : ℕ) (least : 15 ≤ len) (fits : o + len ≤ length r) where
  head_length : length (set (take 11 (drop o r)) 1 (dead_byte r o)) ≡ 11
  head_length = length-set (take 11 (drop o r)) 1 (dead_byte r o) ∙ simp (length-take, length-drop) (omega arith)

  length_zero : length (zero_bytes r o len) ≡ len
  length_zero =
      length-append (set (take 11 (drop o r)) 1 (dead_byte r o)) (replicate (len - 11) 0)
      ∙ omega (arith, head_length, length-replicate {A = ℕ} (len - 11) 0)

  in_head : (k : ℕ) → k < 11 → get_or (zero_bytes r o len) k 0 ≡ get_or (set (take 11 (drop o r)) 1 (dead_byte r o)) k 0
  in_head k l = get_or-append (set (take 11 (drop o r)) 1 (dead_byte r o)) (replicate (len - 11) 0) 0 k (omega (arith, head_length))

  zero_flag : get_or (zero_bytes r o len) 1 0 ≡ dead_byte r o
  zero_flag = in_head 1 (omega arith) ∙ get_or-set_same (take 11 (drop o r)) 1 (dead_byte r o) 0 (omega (arith, head_length, length-set (take 11 (drop o r)) 1 (dead_byte r o)))

  zero_head : (k : ℕ) → k < 11 → (k ≡ 1 → ⊥) → get_or (zero_bytes r o len) k 0 ≡ get_or r (o + k) 0
  zero_head k l n = in_head k l ∙ get_or-set_other (take 11 (drop o r)) 1 k (dead_byte r o) 0 n ∙ get_or-take 11 (drop o r) k 0 l ∙ get_or-drop o r k 0

  zero_rest : (k : ℕ) → 11 ≤ k → k < len → get_or (zero_bytes r o len) k 0 ≡ 0
  zero_rest k h l =
      let head = set (take 11 (drop o r)) 1 (dead_byte r o) in
      let e : k ≡ length head + (k - 11) = omega (arith, head_length) in
      ap (λ (i : ℕ). get_or (zero_bytes r o len) i 0) e
      ∙ get_or-append-add head (replicate (len - 11) 0) (k - 11) 0
      ∙ get_or-replicate (len - 11) (k - 11) 0 0 (omega arith)

  -- over the record that stands there the write stores them
  zeroise_stores : written r o (zero_bytes r o len) ≡ sets r o (zero_bytes r o len)
  zeroise_stores = written_stores r o (zero_bytes r o len) (λ k l. by_place k (omega (arith, length_zero)) (ltb k 11) refl (eqb k 1) refl)
    where
      same : (k b : ℕ) → get_or (zero_bytes r o len) k 0 ≡ b → bit_and (get_or r (o + k) 0) b ≡ b → bit_and (get_or r (o + k) 0) (get_or (zero_bytes r o len) k 0) ≡ get_or (zero_bytes r o len) k 0
      same k b e h = rw e h

      by_place : (k : ℕ) → k < len → (b : Bool) → ltb k 11 ≡ b → (c : Bool) → eqb k 1 ≡ c → bit_and (get_or r (o + k) 0) (get_or (zero_bytes r o len) k 0) ≡ get_or (zero_bytes r o len) k 0
      by_place k l false p c q = same k 0 (zero_rest k (ltb-false _ _ p) l) (and_zero_r (get_or r (o + k) 0))
      by_place k l true p true q =
          let e : k ≡ 1 = eqb-true k 1 q in
          rw e (same 1 (dead_byte r o) zero_flag (and_clear (get_or r (o + 1) 0)))
      by_place k l true p false q = same k (get_or r (o + k) 0) (zero_head k (ltb-true _ _ p) (eqb-false k 1 q)) (and_self (get_or r (o + k) 0))

-- Both bury the record that stands at its place.

module _ (r : List ℕ) (x : Record) (least : 15 ≤ x.len) (fits : x.at + x.len ≤ length r) where
  stores_at : (how : Removal) → written r (kill_place how x) (bytes_at how r x) ≡ sets r (kill_place how x) (bytes_at how r x)
  stores_at Removal.Invalidate = clears_flag r (x.at + 1)
  stores_at Removal.Zeroise = rw add-zero (zeroise_stores r x.at x.len least fits)

  buries_at : (how : Removal) → Buried (sets r (kill_place how x) (bytes_at how r x)) r x
  buries_at Removal.Invalidate =
      let o = x.at in
      let d = dead_byte r o in
      record {
        as_long = length-set r (o + 1) d;
        before = take-set-le o r (o + 1) d (omega arith);
        after = drop-set-lt (o + x.len) r (o + 1) d (omega arith);
        flag = get_or-set_same r (o + 1) d 0 (omega arith);
        rest = λ k l m. get_or-set_other r (o + 1) (o + k) d 0 (λ e. m (omega arith));
      }
  buries_at Removal.Zeroise =
      let o = x.at in
      let z = zero_bytes r o x.len in
      let n = length_zero r o x.len least fits in
      let f : o + length z ≤ length r = omega arith in
      subst (λ (p : ℕ). Buried (sets r p z) r x) (sym (add-zero o))
      (record {
        as_long = length-sets r o z;
        before = sets-before r o z f;
        after = subst (λ (m : ℕ). drop (o + m) (sets r o z) ≡ drop (o + m) r) n (sets-after r o z f);
        flag = sets_at r o z f 1 (omega arith) ∙ zero_flag r o x.len least fits;
        rest = λ k l m. sets_at r o z f k (omega arith) ∙ zero_head r o x.len least fits k l m;
      })

module _ (how : Removal) (r : List ℕ) (x : Record) (bytes : Bytes r) (stands : met_at r x.at ≡ Ok x) where
  -- over the record that stands there the write stores its bytes
  pub kill_stores : written r (kill_place how x) (kill_bytes how x) ≡ sets r (kill_place how x) (kill_bytes how x)
  kill_stores =
      let (l, f) = found_fits r x.at x stands in
      subst (λ (b : List ℕ). written r (kill_place how x) b ≡ sets r (kill_place how x) b) (sym (bytes_are r x bytes stands how)) (stores_at r x l f how)

  pub kill_buries : Buried (written r (kill_place how x) (kill_bytes how x)) r x
  kill_buries =
      let (l, f) = found_fits r x.at x stands in
      subst (λ (r' : List ℕ). Buried r' r x) (sym kill_stores)
      (subst (λ (b : List ℕ). Buried (sets r (kill_place how x) b) r x) (sym (bytes_are r x bytes stands how)) (buries_at r x l f how))
