-- Runs of bytes that land one after the other are those of the definitions.
-- Assumes nothing.
use Prim.Native.Nat.{ℕ, ◌+◌, ◌-◌, ◌%◌, ◌≤◌}
use native.Mathlib.Omega.{arith}
use mathlib.Core.Path.{◌≡◌, sym, ◌∙◌, ap}
use mathlib.Core.List.{List, ◌++◌}
use lib.ListN.{length, take, drop, replicate, length-take, length-drop, length-replicate, length-append}
use borrow.Rule.Slice.PartMut.{put_mid}
use Rattle.crc32.specs.Crc.{checksum}
use Rattle.chip.proofs.Lists.{part_put}
use Rattle.chip.proofs.Runs.{Run, run_append, run_length, run_zeros}
use Rattle.format.specs.declared.Record.{Record}
use Rattle.format.specs.declared.Removal.{Removal}
use Rattle.format.specs.Layout.{edition, little_endian, header, record_length, header_and_value, record_bytes, dead_header, kill_bytes}
use Rattle.format.proofs.Bytes.{length-header}

-- header, value and checksum, one run after the other
pub laid_record : {byte : ℕ → ℕ → ℕ} {run : List ℕ → ℕ → List ℕ → List ℕ} (how : Run byte run) (r r₁ r₂ r₃ : List ℕ) (at key : ℕ) (value head sum : List ℕ) (s : ℕ)
    → r₁ ≡ run r at head → r₂ ≡ run r₁ (at + 11) value → r₃ ≡ run r₂ (at + 11 + length value) sum
    → head ≡ header edition 8 (record_length (length value)) key → sum ≡ little_endian 4 s → s ≡ checksum (head ++ value)
    → r₃ ≡ run r at (record_bytes key value)
unfolding record_bytes
laid_record {run} how r r₁ r₂ r₃ at key value head sum s e₁ e₂ e₃ p q z =
    let n : at + 11 ≡ at + length head = omega (arith, ap length p, length-header edition 8 (record_length (length value)) key) in
    let m : at + 11 + length value ≡ at + length (head ++ value) = omega (arith, length-append head value) in
    let w : sum ≡ little_endian 4 (checksum (header_and_value key value)) = q ∙ ap (little_endian 4) z ∙ ap (λ (l : List ℕ). little_endian 4 (checksum (l ++ value))) p in
    let two : r₂ ≡ run r at (head ++ value) = e₂ ∙ (λ i. run (e₁ i) (n i) value) ∙ sym (run_append how r at head value) in
    e₃ ∙ (λ i. run (two i) (m i) sum) ∙ sym (run_append how r at (head ++ value) sum) ∙ (λ i. run r at ((p i ++ value) ++ w i))

-- the dead header, and zeros after it
pub laid_zeros : {byte : ℕ → ℕ → ℕ} {run : List ℕ → ℕ → List ℕ → List ℕ} (how : Run byte run) (r r' z head : List ℕ) (at : ℕ) (x : Record) → 15 ≤ x.len → at + x.len ≤ length r
    → r' ≡ run r at head → head ≡ dead_header x → z ≡ replicate (length (take (at + x.len - (at + 11)) (drop (at + 11) r'))) 0
    → put_mid (at + 11) (at + x.len - (at + 11)) r' z ≡ run r at (kill_bytes Removal.Zeroise x)
laid_zeros {run} how r r' z head at x h l p e q =
    let zeros : List ℕ = replicate (x.len - 11) 0 in
    let n : length r' ≡ length r = ap length p ∙ run_length how r at head in
    let k : length (take (at + x.len - (at + 11)) (drop (at + 11) r')) ≡ x.len - 11 = simp (length-take, length-drop) (omega arith) in
    let j : at + x.len - (at + 11) ≡ x.len - 11 = omega arith in
    let f : z ≡ zeros = q ∙ ap (λ (m : ℕ). replicate m 0) k in
    let w : at + 11 ≡ at + length head = omega (arith, ap length e, length-header x.version (x.flags % 8) x.len x.key) in
    (λ i. put_mid (at + 11) (j i) r' (f i))
    ∙ part_put r' zeros (at + 11) (x.len - 11) (length-replicate (x.len - 11) 0) (omega arith)
    ∙ sym (run_zeros how r' (at + 11) (x.len - 11))
    ∙ (λ i. run (p i) (w i) zeros)
    ∙ sym (run_append how r at head zeros)
    ∙ (λ i. run r at (e i ++ zeros))
