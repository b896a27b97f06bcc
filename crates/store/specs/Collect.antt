-- Collect in one call: for any image, S and N, what it answers and leaves.
use Rattle.std.specs.Prelude.{ℕ, ◌+◌, cond, List, [], ◌∷◌, Ok}
use Rattle.chip.specs.Geometry.{geometry, region_of, erase_region, numbers}
use Rattle.refusals.specs.declared.Refusal.{Refusal}
use Rattle.refusals.specs.Refusals.{refusal_of}
use Rattle.plans.specs.declared.Success.TheVariants.{Freed}
use Rattle.sweeping.specs.declared.Verdict.{Verdict}
use Rattle.sweeping.specs.Sweeps.{verdict}
use Rattle.store.specs.Write.{Done, refused}

-- R5.7, R5.8: the regions of a list in its order, with so many bytes freed before them. A bad place that decides ends collect with its refusal:
-- the regions before it are collected already; it and those after it stand.
unfoldable pub collect_in : ℕ → List ℕ → ℕ → List ℕ → Done
collect_in s image freed [] = record { answer = Ok (Freed freed); image = image }
collect_in s image freed (r ∷ rs) = elim (verdict r (region_of s image r)) [
  | Verdict.Stands ↦ collect_in s image freed rs
  | Verdict.Erase ↦ collect_in s (erase_region s r image) (freed + s) rs
  | Verdict.Bad f p ↦ refused (refusal_of f) image
]

-- R5.7: collect in one call: regions 0 to N - 1 are taken in number order.
unfoldable pub collect_of : List ℕ → ℕ → ℕ → Done
collect_of image s n = cond (geometry image s n) (collect_in s image 0 (numbers 0 n)) (refused Refusal.BadGeometry image)
