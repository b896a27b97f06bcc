-- The edits of a list on an image, one at a time.
-- Assumes nothing.
use Prim.Native.Nat.{ℕ, suc, ◌<◌}
use native.Mathlib.Omega.{arith}
use mathlib.Core.Path.{◌≡◌, refl, sym, ◌∙◌, ap}
use mathlib.Core.Bool.{true}
use mathlib.Core.List.{List}
use lib.ListN.{length}
use Rattle.std.specs.Prelude.{Option, Some, None}
use Rattle.chip.specs.Geometry.{Fits}
use Rattle.chip.proofs.Image.{fits_written, fits_erased}
use Rattle.plans.specs.declared.Edit.{Edit}
use Rattle.plans.specs.declared.Edits.{Edits}
use Rattle.plans.specs.Writes.{edited, listed, applied, first, rest}
use Rattle.plans.specs.Fits.{edit_fits, edits_fit}
use Rattle.plans.proofs.Facts.{edits_facts}
use Rattle.plans.proofs.Lists.{listed_some, applied_none, applied_some}

-- An image keeps its geometry.
pub fits_edited : {image : List ℕ} {s n : ℕ} (key : ℕ) (value : List ℕ) (e : Edit) → Fits image s n → Fits (edited s key value e image) s n
fits_edited key value (Edit.Lay r o) f = fits_written f _ _
fits_edited key value (Edit.Kill how r x) f = fits_written f _ _
fits_edited key value (Edit.Erase r) f = fits_erased f r

-- Some edits of a list are done: what is left of it, on the image as it now is, makes what the whole makes of the image as it was.
pub record Left (image₀ : List ℕ) (s n : ℕ) (edits : Edits) (key : ℕ) (value : List ℕ) (image : List ℕ) (left : Edits) : Type 0 where
  pub fits : Fits image s n
  pub good : edits_fit s n (length value) left ≡ true
  pub same : applied s key value (listed left) image ≡ applied s key value (listed edits) image₀

pub left_start : {image : List ℕ} {s n : ℕ} {edits : Edits} (key : ℕ) (value : List ℕ) → Fits image s n → edits_fit s n (length value) edits ≡ true → Left image s n edits key value image edits
left_start key value f g = record { fits = f; good = g; same = refl }

module _ {image₀ : List ℕ} {s n : ℕ} {edits : Edits} {key : ℕ} {value image : List ℕ} {left : Edits} (l : Left image₀ s n edits key value image left) where
  -- nothing is left
  pub left_end : {f : Option Edit} → f ≡ first left → f ≡ None → image ≡ applied s key value (listed edits) image₀
  left_end e h = sym (applied_none s key value image left (sym e ∙ h)) ∙ l.same

  -- one more is done
  module _ {f : Option Edit} {e : Edit} (found : f ≡ first left) (h : f ≡ Some e) where
    pub left_fits : edit_fits s n (length value) e ≡ true
    left_fits = (edits_facts s n (length value) left l.good (sym found ∙ h)).0

    pub left_next : {image' : List ℕ} {others : Edits} → image' ≡ edited s key value e image → others ≡ rest left → Left image₀ s n edits key value image' others
    left_next a b =
        let (_, good) = edits_facts s n (length value) left l.good (sym found ∙ h) in
        rw (a, b) (record { fits = fits_edited key value e l.fits; good = good; same = sym (applied_some s key value image left (sym found ∙ h)) ∙ l.same })

    pub left_less : {others : Edits} → others ≡ rest left → length (listed others) < length (listed left)
    left_less b =
        let m : length (listed left) ≡ suc (length (listed (rest left))) = ap length (listed_some left (sym found ∙ h)) in
        rw b (omega arith)
