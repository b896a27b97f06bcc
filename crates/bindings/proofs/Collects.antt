-- Collect on a well-formed image: it ends with a count, and changes no binding.
-- Assumes nothing.
use Prim.Native.Nat.{ℕ, zero, suc, ◌+◌, ◌<◌}
use native.Mathlib.Omega.{arith}
use mathlib.Core.Path.{◌≡◌, refl, sym, subst}
use native.Mathlib.Nat.{zero-add}
use mathlib.Core.Logic.{◌↔◌}
use mathlib.Core.List.{List, [], ◌∷◌}
use Rattle.std.specs.Prelude.{Ok}
use Rattle.chip.specs.Geometry.{region_of, erase_region, numbers}
use Rattle.chip.proofs.Lists.{Every}
use Rattle.chip.proofs.Image.{fits_geometry}
use Rattle.region.specs.declared.Stop.{Stop}
use Rattle.region.specs.declared.Want.{Want}
use Rattle.region.specs.Walk.{records, is_wanted}
use Rattle.region.proofs.Search.{None}
use Rattle.region.proofs.Theorems.{stop_decides}
use Rattle.sweeping.specs.declared.Verdict.{Verdict}
use Rattle.plans.specs.declared.Success.TheVariants.{Freed}
use Rattle.sweeping.specs.Sweeps.{verdict}
use Rattle.store.specs.Collect.{collect_in, collect_of}
use Rattle.pinned.proofs.Swept.{Judged, judged}
use Rattle.bindings.specs.WellFormed.{WellFormed, Bound}
use Rattle.bindings.proofs.Images.{every_of}
use Rattle.bindings.proofs.Kept.{erase_keeps, erase_binds}

pub numbers_below : (r k : ℕ) → Every (λ (q : ℕ). q < r + k) (numbers r k)
unfolding numbers
numbers_below r zero = Every.none
numbers_below r (suc k) = let e : r + suc k ≡ r + 1 + k = omega arith in Every.also {x = r} (omega arith) (subst (λ (m : ℕ). Every (λ (q : ℕ). q < m) (numbers (r + 1) k)) (sym e) (numbers_below (r + 1) k))

-- what a run of collect over some regions leaves
pub record Collected (s n : ℕ) (image image' : List ℕ) : Type 0 where
  pub kept : WellFormed s n image'
  pub same : (key : ℕ) (value : List ℕ) → Bound s n image' key value ↔ Bound s n image key value

pub collected : (s n : ℕ) (rs : List ℕ) (image : List ℕ) (freed : ℕ) → WellFormed s n image → Every (λ (q : ℕ). q < n) rs
    → Collected s n image (collect_in s image freed rs).image × ((f : ℕ) × ((collect_in s image freed rs).answer ≡ Ok (Freed f)))
unfolding collect_in
collected s n [] image freed w Every.none = (record { kept = w; same = λ key value. (λ b. b, λ b. b) }, (freed, refl))
collected s n (r ∷ rs) image freed w (Every.also h hs) = go (λ image freed w. collected s n rs image freed w hs) (judged r (region_of s image r)) refl
  where
    go : ((image : List ℕ) (freed : ℕ) → WellFormed s n image → Collected s n image (collect_in s image freed rs).image × ((f : ℕ) × ((collect_in s image freed rs).answer ≡ Ok (Freed f))))
        → {v : Verdict} → Judged r (region_of s image r) v → verdict r (region_of s image r) ≡ v
        → Collected s n image (collect_in s image freed (r ∷ rs)).image × ((f : ℕ) × ((collect_in s image freed (r ∷ rs)).answer ≡ Ok (Freed f)))
    go ih (Judged.stands d b) e = rw (e, collect_in) (ih image freed w)
    go ih (Judged.erase d b) e =
        let dull : None (is_wanted Want.Any) (records (region_of s image r)) = every_of (records (region_of s image r)) d.none_live in
        let (c, f) = ih (erase_region s r image) (freed + s) (erase_keeps w r h dull) in
        rw (e, collect_in)
        (record { kept = c.kept; same = λ key value. (λ b. (erase_binds w r h dull key value).0 ((c.same key value).0 b), λ b. (c.same key value).1 ((erase_binds w r h dull key value).1 b)) }, f)
    go ih (Judged.bad {f = f} {o = o} found) e =
        let (_, stop) = stop_decides (region_of s image r) Want.Any (Stop.Bad f o) found in
        let (p, end) = w.no_bad r h in
        absurd (let z : ◌≡◌ {A = ℕ} 0 1 = cc in omega arith)

pub collect_done : {s n : ℕ} {image : List ℕ} → WellFormed s n image → Collected s n image (collect_of image s n).image × ((f : ℕ) × ((collect_of image s n).answer ≡ Ok (Freed f)))
unfolding collect_of
collect_done {s} {n} {image} w = rw (fits_geometry w.fits) (collected s n (numbers 0 n) image 0 w (rw zero-add at (numbers_below 0 n)))
