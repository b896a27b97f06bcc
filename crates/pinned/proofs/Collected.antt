-- The regions after collect, by what it erased.
-- Assumes nothing.
use Prim.Native.Nat.{ℕ, zero, suc, ◌+◌, ◌*◌, ◌≤◌, ◌<◌}
use native.Mathlib.Omega.{arith}
use mathlib.Core.Path.{◌≡◌, refl, sym, ◌∙◌, ap, subst}
use mathlib.Core.Bool.{Bool, true, false, cond}
use mathlib.Core.List.{List, [], Memᴰ}
use mathlib.Core.Logic.{◌↔◌}
use lib.Dec.{eqb}
use lib.ListN.{length}
use borrow.Author.Tests.{eqb-true, eqb-false}
use Rattle.std.specs.Prelude.{Ok}
use Rattle.chip.specs.Chip.{erased}
use Rattle.chip.specs.Geometry.{Fits, geometry, region_of, numbers}
use Rattle.chip.proofs.Image.{fits_geometry}
use Rattle.probe.proofs.Theorems.{Distinct, none, one}
use Rattle.format.specs.declared.Fault.{Fault}
use Rattle.plans.specs.declared.Success.TheVariants.{Freed}
use Rattle.plans.specs.Answers.{Answer}
use Rattle.sweeping.specs.declared.Verdict.{Verdict}
use Rattle.sweeping.specs.Sweeps.{verdict}
use Rattle.store.specs.Write.{Done}
use Rattle.store.specs.Call.{collect, answer_of, image_after}
use Rattle.pinned.specs.When.{NotBad, FirstBad}
use Rattle.pinned.specs.Left.{Dead, erased_on, erased_in, erased_by, erase_all, Collected, erased_one, stood}
use Rattle.pinned.proofs.Swept.{Judged, judged, dead_not_bad, Ended, ended, Erasable, erased_members, erase_out, erase_in}
use Rattle.pinned.proofs.Calls.{collect_is}

module _ (image : List ℕ) (s n : ℕ) (f : Fits image s n) where
  erased_by_lem : erased_by image s n ≡ erased_in s image (numbers 0 n)
  erased_by_lem = rw (fits_geometry f)

  is_erasable : (q : ℕ) → Memᴰ q (erased_by image s n) ↔ Erasable s image 0 n q
  is_erasable q = subst (λ (rs : List ℕ). Memᴰ q rs ↔ Erasable s image 0 n q) (sym erased_by_lem) (erased_members s image n 0 q)

  image_is : image_after collect image s n ≡ erase_all s (erased_by image s n) image
  image_is = ap (λ (d : Done). d.image) (collect_is image s n f)

  after_in : (q : ℕ) → q < n → Memᴰ q (erased_by image s n) → region_of s (image_after collect image s n) q ≡ erased s
  after_in q l m = ap (λ (i : List ℕ). region_of s i q) image_is ∙ erase_in (erased_by image s n) f l m

  after_out : (q : ℕ) → (Memᴰ q (erased_by image s n) → ⊥) → region_of s (image_after collect image s n) q ≡ region_of s image q
  after_out q h = ap (λ (i : List ℕ). region_of s i q) image_is ∙ erase_out s (erased_by image s n) image q h

  -- The regions that are erased are those that are dead, with no bad one before.
  pub erased_are : (q : ℕ) → Memᴰ q (erased_by image s n) ↔ ((q < n) × Dead (region_of s image q) × ((p : ℕ) → p < q → NotBad (region_of s image p)))
  erased_are q = (
    λ m. let w = (is_erasable q).0 m in (omega (arith, w.high), w.dead, λ p l. w.clear p (omega arith) l),
    λ (l, d, c). (is_erasable q).1 (record { low = omega arith; high = omega arith; dead = d; clear = λ p m u. c p u }),
  )

  -- A region is collected where neither it nor one before it is bad.
  pub collected_at : (q : ℕ) → q < n → ((p : ℕ) → p ≤ q → NotBad (region_of s image p)) → Collected s (region_of s image q) (region_of s (image_after collect image s n) q)
  collected_at q l c = go (judged q (region_of s image q))
    where
      go : {v : Verdict} → Judged q (region_of s image q) v → Collected s (region_of s image q) (region_of s (image_after collect image s n) q)
      go (Judged.stands d b) = stood d (after_out q (λ m. d ((is_erasable q).0 m).dead))
      go (Judged.erase d b) = erased_one d (after_in q l ((erased_are q).1 (l, d, λ p m. c p (omega arith))))
      go (Judged.bad {f = g} {o = o} e) = absurd (c q (omega arith) g o e)

  -- The first bad region and those after it stand.
  pub stands_from : {g : Fault} (b : FirstBad image s n g) (q : ℕ) → b.region ≤ q → region_of s (image_after collect image s n) q ≡ region_of s image q
  stands_from {g} b q l = after_out q (λ m. let w = (is_erasable q).0 m in go (eqb q b.region) refl w.dead w.clear)
    where
      go : (t : Bool) → eqb q b.region ≡ t → Dead (region_of s image q) → ((p : ℕ) → 0 ≤ p → p < q → NotBad (region_of s image p)) → ⊥
      go true e d c =
          let same : q ≡ b.region = eqb-true q b.region e in
          dead_not_bad (subst (λ (p : ℕ). Dead (region_of s image p)) same d) g b.place b.bad
      go false e d c =
          let other : q ≡ b.region → ⊥ = eqb-false q b.region e in
          c b.region (omega arith) (omega arith) g b.place b.bad

  -- What Freed says.
  pub freed_all : {bytes : ℕ} → answer_of collect image s n ≡ Ok (Freed bytes) → (bytes ≡ s * length (erased_by image s n)) × ((q : ℕ) → q < n → NotBad (region_of s image q))
  freed_all {bytes} h = go (ended s image (s * length (erased_by image s n)) n 0) (sym (ap (λ (d : Done). d.answer) (collect_is image s n f)) ∙ h)
    where
      go : {a : Answer} → Ended s image (s * length (erased_by image s n)) 0 n a → a ≡ Ok (Freed bytes) → (bytes ≡ s * length (erased_by image s n)) × ((q : ℕ) → q < n → NotBad (region_of s image q))
      go (Ended.all c) e = (cc, λ q l. c q (omega arith) (omega arith))
      go (Ended.ends_bad w) e = absurd (let z : ◌≡◌ {A = ℕ} 0 1 = cc in omega arith)

-- No region is erased twice.
module _ (image : List ℕ) (s : ℕ) where
  distinct_in : (k r : ℕ) → Distinct (erased_in s image (numbers r k))
  unfolding erased_in numbers
  distinct_in zero r = none
  distinct_in (suc k) r = go (verdict r (region_of s image r)) (distinct_in k (r + 1))
    where
      go : (v : Verdict) → Distinct (erased_in s image (numbers (r + 1) k)) → Distinct (erased_on v r (erased_in s image (numbers (r + 1) k)))
      go Verdict.Stands d = d
      go Verdict.Erase d = one (λ m. let w = ((erased_members s image k (r + 1) r).0 m).low in omega arith) d
      go (Verdict.Bad g p) d = none

pub erased_once : (image : List ℕ) (s n : ℕ) → Distinct (erased_by image s n)
erased_once image s n = go (geometry image s n)
  where
    go : (b : Bool) → Distinct (cond b (erased_in s image (numbers 0 n)) [])
    go true = distinct_in image s n 0
    go false = none
