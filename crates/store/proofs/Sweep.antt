-- Collect: the regions one after the other.
-- Assumes nothing.
use Prim.Native.Nat.{ℕ, ◌+◌, ◌-◌, ◌*◌, ◌≤◌, ◌<◌}
use native.Mathlib.Nat.{sub-zero, suc-mul}
use native.Mathlib.Numerals.{add-one}
use native.Mathlib.Omega.{arith}
use mathlib.Core.Path.{◌≡◌, sym, ◌∙◌, ap}
use mathlib.Core.Bool.{true}
use mathlib.Core.List.{List}
use lib.ListN.{length, take, drop}
use Rattle.std.specs.Prelude.{Ok, Err}
use Rattle.chip.specs.Geometry.{geometry, Fits, region_of, erase_region, numbers}
use Rattle.chip.proofs.Image.{geometry_fits, part_region, region-length, region_small, fits_erased}
use Rattle.format.specs.declared.Fault.{Fault}
use Rattle.refusals.specs.declared.Refusal.{Refusal}
use Rattle.refusals.specs.Refusals.{refusal_of}
use Rattle.plans.specs.declared.Success.TheVariants.{Freed}
use Rattle.plans.specs.Answers.{Answer}
use Rattle.sweeping.specs.declared.Verdict.{Verdict}
use Rattle.sweeping.specs.Sweeps.{verdict}
use Rattle.plans.proofs.Lists.{numbers_one}
use Rattle.store.specs.Write.{Done, refused}
use Rattle.store.specs.Collect.{collect_in, collect_of}

-- The regions from r on, with so many bytes freed before them.
abbrev pub sweep : ℕ → ℕ → List ℕ → ℕ → ℕ → Done
sweep s n image freed r = collect_in s image freed (numbers r (n - r))

module _ (s : ℕ) {n : ℕ} (image : List ℕ) (freed : ℕ) {r : ℕ} where
  sweep_end : n ≤ r → sweep s n image freed r ≡ record { answer = Ok (Freed freed); image = image }
  unfolding collect_in numbers
  sweep_end h = let e : n - r ≡ 0 = omega arith in rw e

  sweep_stands : r < n → verdict r (region_of s image r) ≡ Verdict.Stands → sweep s n image freed r ≡ sweep s n image freed (r + 1)
  unfolding collect_in
  sweep_stands h e = rw (numbers_one r n h, collect_in, e)

  sweep_erase : r < n → verdict r (region_of s image r) ≡ Verdict.Erase → sweep s n image freed r ≡ sweep s n (erase_region s r image) (freed + s) (r + 1)
  unfolding collect_in
  sweep_erase h e = rw (numbers_one r n h, collect_in, e)

  sweep_bad : {f : Fault} {o : ℕ} → r < n → verdict r (region_of s image r) ≡ Verdict.Bad f o → sweep s n image freed r ≡ refused (refusal_of f) image
  unfolding collect_in
  sweep_bad h e = rw (numbers_one r n h, collect_in, e)

-- Collect has come to region r: what it would yet do from here makes up the whole.
pub record Swept (image₀ : List ℕ) (s n : ℕ) (image : List ℕ) (freed r : ℕ) : Type 0 where
  pub began : Fits image₀ s n
  pub fits : Fits image s n
  pub few : freed ≤ r * s
  pub rest : sweep s n image freed r ≡ collect_of image₀ s n

pub swept_start : {image : List ℕ} {s n : ℕ} → geometry image s n ≡ true → Swept image s n image 0 0
unfolding collect_of
swept_start {n = n} e =
    let f = geometry_fits e in
    record { began = f; fits = f; few = omega arith; rest = rw (sub-zero n, e) }

-- region r as code takes it, by its start and its end
abbrev part : ℕ → List ℕ → ℕ → List ℕ
part s image r = take (r * s + s - r * s) (drop (r * s) image)

answers : {a : Answer} {image : List ℕ} {d : Done} → record { answer = a; image = image } ≡ d → (a ≡ d.answer) × (image ≡ d.image)
answers e = (ap (λ (d : Done). d.answer) e, ap (λ (d : Done). d.image) e)

module _ {image₀ : List ℕ} {s n : ℕ} {image : List ℕ} {freed r : ℕ} (w : Swept image₀ s n image freed r) where
  pub swept_end : n ≤ r → (Ok (Freed freed) ≡ (collect_of image₀ s n).answer) × (image ≡ (collect_of image₀ s n).image)
  swept_end h = answers (sym (sweep_end s image freed h) ∙ w.rest)

  -- the region is one that `judge` takes
  pub swept_judged : r < n → r * length (part s image r) + length (part s image r) < 18446744073709551616
  swept_judged h = rw (part_region s image r, region-length w.fits h) (omega (arith, region_small w.fits h))

  few_next : freed + s ≤ (r + 1) * s
  few_next = rw (add-one r, suc-mul r s) (omega arith)

  -- what `judge` says of the region, and what that is
  module _ (h : r < n) {v : Verdict} (judged : v ≡ verdict r (part s image r)) where
    is_verdict : {u : Verdict} → v ≡ u → verdict r (region_of s image r) ≡ u
    is_verdict e = sym (judged ∙ ap (verdict r) (part_region s image r)) ∙ e

    pub swept_stands : v ≡ Verdict.Stands → Swept image₀ s n image freed (r + 1)
    swept_stands e =
        record { began = w.began; fits = w.fits; few = omega (arith, few_next); rest = sym (sweep_stands s image freed h (is_verdict e)) ∙ w.rest }

    pub swept_erase : {image' : List ℕ} → v ≡ Verdict.Erase → image' ≡ erase_region s r image → Swept image₀ s n image' (freed + s) (r + 1)
    swept_erase e k =
        rw k (record { began = w.began; fits = fits_erased w.fits r; few = few_next; rest = sym (sweep_erase s image freed h (is_verdict e)) ∙ w.rest })

    pub swept_bad : {f : Fault} {o : ℕ} {why : Refusal} → v ≡ Verdict.Bad f o → why ≡ refusal_of f → (Err why ≡ (collect_of image₀ s n).answer) × (image ≡ (collect_of image₀ s n).image)
    swept_bad e k = answers (ap (λ (why : Refusal). refused why image) k ∙ sym (sweep_bad s image freed h (is_verdict e)) ∙ w.rest)
