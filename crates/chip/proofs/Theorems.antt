-- What a write and an erase of the chip leave.
-- Assumes nothing.
use Prim.Native.Nat.{ℕ, suc, ◌+◌, ◌*◌, ◌%◌, ◌≤◌, ◌<◌}
use native.Mathlib.Omega.{arith}
use mathlib.Core.Path.{◌≡◌, sym, ◌∙◌, ap}
use mathlib.Core.Bool.{true}
use mathlib.Core.Logic.{◌⊎◌, ⊎_elim}
use mathlib.Core.List.{List, [], ◌∷◌}
use lib.Bits.{bit_and, and_self}
use lib.ListN.{length, get_or, set, take, drop, length-take, length-drop}
use lib.Seq.{sets, get_or-take, get_or-drop}
use Rattle.chip.specs.Chip.{Bytes, written, is_blank}
use Rattle.chip.specs.Geometry.{erase_region}
use Rattle.chip.proofs.Lists.{byte_before, byte_after}
use Rattle.chip.proofs.Laws.{written_stores, and_blank, and_clear, and_under, under_trans, set_under, blank_at_lem}
use Rattle.chip.proofs.Image.{erase_within}

-- R1.4: over 255 a write leaves the new bytes.
pub over_blank : (image : List ℕ) (at : ℕ) (new : List ℕ) → Bytes new → at + length new ≤ length image
    → is_blank (take (length new) (drop at image)) ≡ true → written image at new ≡ sets image at new
over_blank image at new b h e =
    written_stores image at new
    (λ k l.
    let n : length (take (length new) (drop at image)) ≡ length new = simp (length-take, length-drop) (omega arith) in
    let o : get_or image (at + k) 0 ≡ 255 = sym (get_or-take (length new) (drop at image) k 0 l ∙ get_or-drop at image k 0) ∙ blank_at_lem _ e k (omega arith) in
    ap (λ (x : ℕ). bit_and x (get_or new k 0)) o ∙ and_blank (get_or new k 0) (b k))

-- R1.4: clearing a byte's top bit by AND is the same as storing it so.
pub clears_flag : (image : List ℕ) (at : ℕ) → written image at (get_or image at 0 % 128 ∷ []) ≡ sets image at (get_or image at 0 % 128 ∷ [])
unfolding written
clears_flag image at = rw (and_clear (get_or image at 0))

-- R1.4: a write clears bits and sets none: at every place the bits after it are among those before it.
pub write_clears : (image : List ℕ) (at : ℕ) (new : List ℕ) (k : ℕ) → bit_and (get_or (written image at new) k 0) (get_or image k 0) ≡ get_or (written image at new) k 0
unfolding written
write_clears image at [] k = and_self (get_or image k 0)
write_clears image at (b ∷ new) k =
    let old = get_or image at 0 in
    under_trans _ _ _ (write_clears (set image at (bit_and old b)) (suc at) new k) (set_under image at (bit_and old b) (and_under old b) k)

-- R1.3: an erase alters no other byte: every byte before or behind its region is as it was.
pub erase_only : (s r : ℕ) (image : List ℕ) (k : ℕ) → (k < r * s) ⊎ (r * s + s ≤ k) → get_or (erase_region s r image) k 0 ≡ get_or image k 0
erase_only s r image k =
    let w = erase_within s r image in
    ⊎_elim (byte_before _ _ _ k w.before) (byte_after _ _ _ k w.after)
