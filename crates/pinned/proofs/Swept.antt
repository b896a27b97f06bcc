-- Collect, by the image as it is at first: which regions it erases, what it answers, and what it leaves. An erase of one region leaves the
-- others, so each region is judged as it was at first; the rest is one induction over the regions.
-- Assumes nothing.
use Prim.Native.Nat.{ℕ, zero, suc, ◌+◌, ◌*◌, ◌≤◌, ◌<◌}
use native.Mathlib.Nat.{mul-suc, mul-zero, add-zero}
use native.Mathlib.Decide.{dec_lt}
use native.Mathlib.Omega.{arith}
use mathlib.Core.Path.{◌≡◌, refl, sym, ◌∙◌, ap}
use mathlib.Core.Bool.{Bool, true, false, cond}
use mathlib.Core.List.{List, [], ◌∷◌, Memᴰ}
use mathlib.Core.Logic.{◌↔◌, ◌⊎◌, inl, inr, ⊎_elim}
use lib.Dec.{eqb}
use lib.ListN.{length}
use borrow.Author.Tests.{eqb-true, eqb-false}
use Rattle.std.specs.Prelude.{Ok, Err}
use Rattle.chip.specs.Chip.{erased}
use Rattle.chip.specs.Geometry.{Fits, region_of, erase_region, numbers}
use Rattle.chip.proofs.Lists.{Every}
use Rattle.chip.proofs.Image.{region_erased_other, region_erased_same, fits_erased}
use Rattle.format.specs.declared.Record.{Record}
use Rattle.format.specs.declared.Fault.{Fault}
use Rattle.region.specs.declared.Stop.{Stop}
use Rattle.region.specs.declared.Want.{Want}
use Rattle.region.specs.declared.Event.{Event}
use Rattle.region.specs.Walk.{records, event_in}
use Rattle.region.proofs.Theorems.{live_decides, stop_decides}
use Rattle.refusals.specs.Refusals.{refusal_of}
use Rattle.plans.specs.declared.Success.TheVariants.{Freed}
use Rattle.plans.specs.Answers.{Answer}
use Rattle.sweeping.specs.declared.Verdict.{Verdict}
use Rattle.sweeping.specs.Sweeps.{no_records, verdict, verdict_on}
use Rattle.store.specs.Write.{Done, refused}
use Rattle.store.specs.Collect.{collect_in}
use Rattle.pinned.specs.When.{NotBad, FirstBad}
use Rattle.pinned.specs.Left.{Dead, erased_on, erased_in, erase_all}

-- What a verdict says.

pub data Judged (r : ℕ) (region : List ℕ) : Verdict → Type 0 where
  stands : (Dead region → ⊥) → NotBad region → Judged r region Verdict.Stands
  erase : Dead region → NotBad region → Judged r region Verdict.Erase
  bad : {f : Fault} {o : ℕ} → event_in region Want.Any ≡ Event.Bad f o → Judged r region (Verdict.Bad f (r * length region + o))

-- what holds of every element holds of a member
pub every_member : {A : Type 0} {P : A → Type 0} {xs : List A} {x : A} → Every P xs → Memᴰ x xs → P x
every_member Every.none m = elim m [ ]
every_member (Every.also p k) (mathlib.Core.List.Memᴰ.head e) = rw e p
every_member (Every.also p k) (mathlib.Core.List.Memᴰ.tail m) = every_member k m

pub judged : (r : ℕ) (region : List ℕ) → Judged r region (verdict r region)
judged r region = go (event_in region Want.Any) refl
  where
    ended : (o : ℕ) → event_in region Want.Any ≡ Event.End o → (xs : List Record) → records region ≡ xs → Judged r region (cond (no_records xs) Verdict.Stands Verdict.Erase)
    ended o e [] k = stands (λ d. d.some k) (λ f p h. let z : ◌≡◌ {A = ℕ} 0 1 = cc in omega arith)
    ended o e (x ∷ xs) k =
        let (n, stop) = stop_decides region Want.Any (Stop.End o) e in
        erase
        (record { some = λ h. let z : ◌≡◌ {A = ℕ} 0 1 = cc in omega arith; none_live = λ x m. every_member n m; place = o; no_bad = stop })
        (λ f p h. let z : ◌≡◌ {A = ℕ} 0 1 = cc in omega arith)

    go : (e : Event) → event_in region Want.Any ≡ e → Judged r region (verdict_on r region e)
    go (Event.Live x) e =
        let f = live_decides region Want.Any x e in
        let m : Memᴰ x (records region) = rw f.split (mathlib.Core.List.Memᴰ.append_right f.before (mathlib.Core.List.Memᴰ.head refl)) in
        stands
        (λ d. let z : true ≡ false = sym f.passes ∙ d.none_live x m in let y : ◌≡◌ {A = ℕ} 0 1 = cc in omega arith)
        (λ g p h. let z : ◌≡◌ {A = ℕ} 0 1 = cc in omega arith)
    go (Event.Bad f o) e = bad e
    go (Event.End o) e = ended o e (records region) refl

pub dead_not_bad : {region : List ℕ} → Dead region → NotBad region
dead_not_bad {region} d f o h =
    let (_, stop) = stop_decides region Want.Any (Stop.Bad f o) h in
    let e = d.no_bad in
    let z : ◌≡◌ {A = ℕ} 0 1 = cc in
    omega arith

-- What collect answers, where it frees so many bytes in all.
abbrev end_on : Verdict → Answer → Answer
end_on Verdict.Stands rest = rest
end_on Verdict.Erase rest = rest
end_on (Verdict.Bad f p) rest = Err (refusal_of f)

unfoldable pub ended_by : ℕ → List ℕ → ℕ → List ℕ → Answer
ended_by s image total [] = Ok (Freed total)
ended_by s image total (r ∷ rs) = end_on (verdict r (region_of s image r)) (ended_by s image total rs)

-- The image so far is as at first from region r on: what collect does from there is what the image at first says.
module _ (s : ℕ) (image : List ℕ) where
  abbrev Same : List ℕ → ℕ → Type 0
  Same image' r = (q : ℕ) → r ≤ q → region_of s image' q ≡ region_of s image q

  abbrev gone : ℕ → ℕ → List ℕ
  gone r k = erased_in s image (numbers r k)

  -- the answer and the image after the k regions from r on
  abbrev swept : List ℕ → List ℕ → ℕ → List ℕ → Done
  swept rs out freed image' = record { answer = ended_by s image (freed + s * length out) rs; image = erase_all s out image' }

  abbrev Law : ℕ → ℕ → Type 0
  Law k r = (image' : List ℕ) (freed : ℕ) → Same image' r → collect_in s image' freed (numbers r k) ≡ swept (numbers r k) (gone r k) freed image'

  pub collect_law : (k r : ℕ) → Law k r
  unfolding numbers collect_in erased_in erase_all ended_by
  collect_law zero r image' freed same = rw (mul-zero s, add-zero freed)
  collect_law (suc k) r image' freed same = ap (step (numbers (r + 1) k)) (ap (verdict r) (same r (omega arith))) ∙ go (collect_law k (r + 1)) (verdict r (region_of s image r))
    where
      step : List ℕ → Verdict → Done
      step rs v = elim v [
        | Verdict.Stands ↦ collect_in s image' freed rs
        | Verdict.Erase ↦ collect_in s (erase_region s r image') (freed + s) rs
        | Verdict.Bad f p ↦ refused (refusal_of f) image'
      ]

      later : Same image' (r + 1)
      later q l = same q (omega arith)

      go : Law k (r + 1) → (v : Verdict)
          → step (numbers (r + 1) k) v
          ≡ record {
            answer = end_on v (ended_by s image (freed + s * length (erased_on v r (gone (r + 1) k))) (numbers (r + 1) k));
            image = erase_all s (erased_on v r (gone (r + 1) k)) image';
          }
      go ih Verdict.Stands = ih image' freed later
      go ih Verdict.Erase =
          let m : freed + s + s * length (gone (r + 1) k) ≡ freed + s * suc (length (gone (r + 1) k)) = rw (mul-suc s (length (gone (r + 1) k))) (omega arith) in
          ih (erase_region s r image') (freed + s) (λ q l. region_erased_other s r image' q (λ h. omega arith) ∙ later q l)
          ∙ ap (λ (total : ℕ). record { answer = ended_by s image total (numbers (r + 1) k); image = erase_all s (gone (r + 1) k) (erase_region s r image') }) m
      go ih (Verdict.Bad f p) = refl

  -- How it ends, over the k regions from r on: none of them is bad, or one is and none before it.
  pub record BadFrom (r k : ℕ) (fault : Fault) : Type 0 where
    pub region : ℕ
    pub place : ℕ
    pub low : r ≤ region
    pub high : region < r + k
    pub bad : event_in (region_of s image region) Want.Any ≡ Event.Bad fault place
    pub first : (q : ℕ) → r ≤ q → q < region → NotBad (region_of s image q)

  pub data Ended (total r k : ℕ) : Answer → Type 0 where
    all : ((q : ℕ) → r ≤ q → q < r + k → NotBad (region_of s image q)) → Ended total r k (Ok (Freed total))
    ends_bad : {f : Fault} → BadFrom r k f → Ended total r k (Err (refusal_of f))

  -- region r, and those after it
  here_or_later : (r q : ℕ) → r ≤ q → (q ≡ r) ⊎ (r + 1 ≤ q)
  here_or_later r q l = go (eqb q r) refl
    where
      go : (b : Bool) → eqb q r ≡ b → (q ≡ r) ⊎ (r + 1 ≤ q)
      go true e = inl (eqb-true q r e)
      go false e = let other : q ≡ r → ⊥ = eqb-false q r e in inr (omega arith)

  none_from : {r : ℕ} → NotBad (region_of s image r) → (q : ℕ) → (r + 1 ≤ q → NotBad (region_of s image q)) → r ≤ q → NotBad (region_of s image q)
  none_from {r} b q later l = ⊎_elim (λ e. rw e b) later (here_or_later r q l)

  pub ended : (total k r : ℕ) → Ended total r k (ended_by s image total (numbers r k))
  unfolding numbers ended_by
  ended total zero r = all (λ q l h. absurd (omega arith))
  ended total (suc k) r = go (ended total k (r + 1)) (judged r (region_of s image r))
    where
      onward : {a : Answer} → NotBad (region_of s image r) → Ended total (r + 1) k a → Ended total r (suc k) a
      onward b (all h) = all (λ q l u. none_from b q (λ m. h q m (omega arith)) l)
      onward b (ends_bad w) =
          ends_bad
          (record {
            region = w.region;
            place = w.place;
            low = omega arith;
            high = omega arith;
            bad = w.bad;
            first = λ q l u. none_from b q (λ m. w.first q m u) l;
          })

      go : Ended total (r + 1) k (ended_by s image total (numbers (r + 1) k)) → {v : Verdict} → Judged r (region_of s image r) v
          → Ended total r (suc k) (end_on v (ended_by s image total (numbers (r + 1) k)))
      go ih (stands d b) = onward b ih
      go ih (erase d b) = onward b ih
      go ih (bad {o = o} e) = ends_bad (record { region = r; place = o; low = omega arith; high = omega arith; bad = e; first = λ q l u. absurd (omega arith) })

  -- Over all regions: the first bad one is where it ends.
  pub first_bad : {n : ℕ} {f : Fault} (total : ℕ) → FirstBad image s n f → ended_by s image total (numbers 0 n) ≡ Err (refusal_of f)
  first_bad {n} {f} total b = go (ended total n 0)
    where
      same_fault : {g : Fault} (w : BadFrom 0 n g) → Dec (w.region < b.region) → Dec (b.region < w.region) → g ≡ f
      same_fault w (yes l) d = absurd (b.first w.region l _ w.place w.bad)
      same_fault w (no l) (yes m) = absurd (w.first b.region (omega arith) m f b.place b.bad)
      same_fault {g} w (no l) (no m) =
          let e : w.region ≡ b.region = omega arith in
          let h : event_in (region_of s image b.region) Want.Any ≡ Event.Bad g w.place = rw (← e) w.bad in
          let k = b.bad in
          cc

      go : {a : Answer} → Ended total 0 n a → a ≡ Err (refusal_of f)
      go (all h) = absurd (h b.region (omega arith) (omega (arith, b.inside)) f b.place b.bad)
      go (ends_bad w) = ap (λ (g : Fault). Err (refusal_of g)) (same_fault w (dec_lt _ _) (dec_lt _ _))

  pub is_first : {n : ℕ} {f : Fault} → BadFrom 0 n f → FirstBad image s n f
  is_first w = record { region = w.region; place = w.place; inside = omega (arith, w.high); bad = w.bad; first = λ q l. w.first q (omega arith) l }

  -- The regions that it erases: those that are dead, with no bad one before.
  pub record Erasable (r k q : ℕ) : Type 0 where
    pub low : r ≤ q
    pub high : q < r + k
    pub dead : Dead (region_of s image q)
    pub clear : (p : ℕ) → r ≤ p → p < q → NotBad (region_of s image p)

  pub erased_members : (k r q : ℕ) → Memᴰ q (gone r k) ↔ Erasable r k q
  unfolding numbers erased_in
  erased_members zero r q = (λ m. absurd (mathlib.Core.List.Memᴰ.not-nil m), λ w. let l = w.low in let h = w.high in absurd (omega arith))
  erased_members (suc k) r q = go (erased_members k (r + 1) q) (judged r (region_of s image r))
    where
      widen : NotBad (region_of s image r) → Erasable (r + 1) k q → Erasable r (suc k) q
      widen b w = record { low = omega arith; high = omega arith; dead = w.dead; clear = λ p l u. none_from b p (λ m. w.clear p m u) l }

      narrow : Erasable r (suc k) q → r + 1 ≤ q → Erasable (r + 1) k q
      narrow w l = record { low = l; high = omega arith; dead = w.dead; clear = λ p m u. w.clear p (omega arith) u }

      go : Memᴰ q (gone (r + 1) k) ↔ Erasable (r + 1) k q → {v : Verdict} → Judged r (region_of s image r) v
          → Memᴰ q (erased_on v r (gone (r + 1) k)) ↔ Erasable r (suc k) q
      go ih (stands d b) = (
        λ m. widen b (ih.0 m),
        λ w. ⊎_elim (λ (e : q ≡ r). absurd (d (rw (sym e) w.dead))) (λ l. ih.1 (narrow w l)) (here_or_later r q w.low),
      )
      go ih (erase d b) = (
        λ m. ⊎_elim
            (λ (e : q ≡ r). record { low = omega arith; high = omega arith; dead = rw e d; clear = λ p l u. absurd (omega arith) })
            (λ t. widen b (ih.0 t))
            (mathlib.Core.List.Memᴰ.cases_cons m),
        λ w. ⊎_elim (λ e. mathlib.Core.List.Memᴰ.head e) (λ l. mathlib.Core.List.Memᴰ.tail (ih.1 (narrow w l))) (here_or_later r q w.low),
      )
      go ih (bad {f = f} {o = o} e) = (
        λ m. absurd (mathlib.Core.List.Memᴰ.not-nil m),
        λ w. ⊎_elim (λ (h : q ≡ r). absurd (dead_not_bad w.dead f o (rw h e))) (λ l. absurd (w.clear r (omega arith) (omega arith) f o e)) (here_or_later r q w.low),
      )

-- The regions of an image after some of them are erased.

pub erase_out : (s : ℕ) (rs image : List ℕ) (q : ℕ) → (Memᴰ q rs → ⊥) → region_of s (erase_all s rs image) q ≡ region_of s image q
unfolding erase_all
erase_out s [] image q h = refl
erase_out s (r ∷ rs) image q h = erase_out s rs (erase_region s r image) q (λ m. h (mathlib.Core.List.Memᴰ.tail m)) ∙ region_erased_other s r image q (λ e. h (mathlib.Core.List.Memᴰ.head e))

stays_blank : {s n q : ℕ} {image : List ℕ} (rs : List ℕ) → Fits image s n → q < n → region_of s image q ≡ erased s → region_of s (erase_all s rs image) q ≡ erased s
unfolding erase_all
stays_blank [] f l h = h
stays_blank {s} {n} {q} {image} (r ∷ rs) f l h = stays_blank {image = erase_region s r image} rs (fits_erased f r) l (go (eqb q r) refl)
  where
    go : (b : Bool) → eqb q r ≡ b → region_of s (erase_region s r image) q ≡ erased s
    go true e =
        let same : q ≡ r = eqb-true q r e in
        ap (λ (p : ℕ). region_of s (erase_region s p image) q) (sym same) ∙ region_erased_same f l
    go false e = region_erased_other s r image q (eqb-false q r e) ∙ h

pub erase_in : {s n q : ℕ} {image : List ℕ} (rs : List ℕ) → Fits image s n → q < n → Memᴰ q rs → region_of s (erase_all s rs image) q ≡ erased s
unfolding erase_all
erase_in [] f l m = elim m [ ]
erase_in {s} {n} {q} {image} (r ∷ rs) f l (mathlib.Core.List.Memᴰ.head e) =
    stays_blank {image = erase_region s r image} rs (fits_erased f r) l (ap (λ (p : ℕ). region_of s (erase_region s p image) q) (sym e) ∙ region_erased_same f l)
erase_in {s} {n} {q} {image} (r ∷ rs) f l (mathlib.Core.List.Memᴰ.tail m) = erase_in {image = erase_region s r image} rs (fits_erased f r) l m
