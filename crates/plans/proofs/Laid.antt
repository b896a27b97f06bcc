-- An edit that lies in the chip: how many bytes it has, and that they are what a write takes from a buffer in which they were laid.
-- Assumes nothing.
use Prim.Native.Nat.{ℕ, ◌+◌, ◌-◌, ◌%◌, ◌≤◌}
use native.Mathlib.Nat.{add-zero}
use native.Mathlib.Omega.{arith}
use mathlib.Core.Path.{◌≡◌, refl, sym, ◌∙◌, ap}
use mathlib.Core.Bool.{true}
use mathlib.Core.List.{List}
use lib.ListN.{length, take, drop, replicate, length-append, length-replicate}
use lib.Seq.{length-sets, take_all}
use Rattle.chip.proofs.Lists.{sets_part}
use Rattle.format.specs.declared.Record.{Record}
use Rattle.format.specs.declared.Removal.{Removal}
use Rattle.format.specs.Layout.{dead_header, kill_length, kill_bytes}
use Rattle.format.proofs.Bytes.{length-header, length_record}
use Rattle.plans.specs.declared.Edit.{Edit}
use Rattle.plans.specs.Writes.{start_of, bytes_of, size_of, laid_in}
use Rattle.plans.specs.Fits.{edit_fits}
use Rattle.plans.proofs.Facts.{in_chip, edit_facts}

-- R3.7: invalidating is one write of byte 1, zeroising one write over the whole record.
length_kill : (how : Removal) (x : Record) → 15 ≤ x.len → length (kill_bytes how x) ≡ kill_length how x
length_kill Removal.Invalidate x h = refl
length_kill Removal.Zeroise x h =
    length-append (dead_header x) (replicate (x.len - 11) 0)
    ∙ omega (arith, length-header x.version (x.flags % 8) x.len x.key, length-replicate {A = ℕ} (x.len - 11) 0)

pub length_bytes : (s n key : ℕ) (value : List ℕ) (e : Edit) → edit_fits s n (length value) e ≡ true → length (bytes_of key value e) ≡ size_of (length value) e
length_bytes s n key value (Edit.Lay r o) h = length_record key value
length_bytes s n key value (Edit.Kill how r x) h = length_kill how x (in_chip s n r x h).1
length_bytes s n key value (Edit.Erase r) h = refl

-- The buffer keeps its length, and holds the bytes at their place.
pub laid-length : (key : ℕ) (value : List ℕ) (e : Edit) (region : List ℕ) → length (laid_in key value e region) ≡ length region
laid-length key value e region = length-sets region (start_of e) (bytes_of key value e)

pub laid_there : (s n key : ℕ) (value : List ℕ) (e : Edit) (region : List ℕ) → length region ≡ s → edit_fits s n (length value) e ≡ true
    → take (size_of (length value) e) (drop (start_of e) (laid_in key value e region)) ≡ bytes_of key value e
laid_there s n key value e region l h =
    let b : List ℕ = bytes_of key value e in
    let size : length b ≡ size_of (length value) e = length_bytes s n key value e h in
    let in_region_lem : start_of e + size_of (length value) e ≤ s = (edit_facts s n (length value) e h).1 in
    let there = sets_part region (start_of e) b (omega arith) 0 (length b) (omega arith) in
    ap (λ (m : ℕ). take m (drop (start_of e) (laid_in key value e region))) (sym size) ∙ rw add-zero at there ∙ take_all (length b) b (omega arith)
