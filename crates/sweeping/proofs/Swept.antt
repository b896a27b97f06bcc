-- The plan after a region's verdict lies in the chip.
-- Assumes nothing.
use Prim.Native.Nat.{ℕ, ◌+◌, ◌*◌, ◌≤◌, ◌<◌}
use native.Mathlib.Omega.{arith}
use mathlib.Core.Path.{◌≡◌, refl}
use mathlib.Core.Bool.{Bool, true, false, cond}
use lib.Dec.{ltb}
use borrow.Author.Tests.{lt-ltb, le-leb}
use Rattle.std.specs.Prelude.{Option, Some, None, Ok}
use Rattle.plans.specs.declared.Success.{Success}
use Rattle.plans.specs.declared.Lent.{Lent}
use Rattle.plans.specs.declared.Edit.{Edit}
use Rattle.plans.specs.declared.Edits.{Edits}
use Rattle.plans.specs.declared.Then.{Then}
use Rattle.sweeping.specs.declared.Verdict.{Verdict}
use Rattle.plans.specs.Writes.{value_lent, first}
use Rattle.plans.specs.Fits.{edits_fit, value_short, answer_rests}
use Rattle.sweeping.specs.Sweeps.{swept_to, sweep_plan}
use Rattle.plans.proofs.Facts.{PlanFits, join, ends_fits}

module _ (s n : ℕ) (lent : Lent) (short : value_short lent ≡ true) where
  swept_fits : (es : Edits) (r k : ℕ) → edits_fit s n (value_lent lent) es ≡ true → k ≤ r → PlanFits s n lent (record { edits = es; next = swept_to s n r k })
  swept_fits es r k h l = go (ltb r n) refl
    where
      freed : (f : Option Edit) → answer_rests f (Ok (Success.Freed (k * s))) ≡ true
      freed None = refl
      freed (Some e) = refl

      go : (b : Bool) → ltb r n ≡ b → PlanFits s n lent (record { edits = es; next = cond b (Then.Sweep r k) (Then.Ends (Ok (Success.Freed (k * s)))) })
      go true e = record { value_short_lem = short; edits_good = h; next_good = join e (le-leb k r l); at_rest = refl }
      go false e = record { value_short_lem = short; edits_good = h; next_good = refl; at_rest = freed (first es) }

  pub sweep_fits : (r k : ℕ) (v : Verdict) → r < n → k ≤ r → PlanFits s n lent (sweep_plan s n r k v)
  sweep_fits r k Verdict.Stands h l = swept_fits Edits.Nil (r + 1) k refl (omega arith)
  sweep_fits r k Verdict.Erase h l = swept_fits (Edits.One (Edit.Erase r)) (r + 1) (k + 1) (lt-ltb r n h) (omega arith)
  sweep_fits r k (Verdict.Bad f p) h l = ends_fits s n lent short _
