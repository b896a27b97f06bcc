-- What erases leave where an operation is broken off among them: any regions of a well-formed image, or regions without a live record.
-- Assumes nothing.
use Prim.Native.Nat.{ℕ, zero, suc, ◌<◌}
use mathlib.Core.Path.{◌≡◌, refl, sym, ◌∙◌}
use mathlib.Core.Bool.{Bool, true, false, true≢false}
use mathlib.Core.Logic.{◌↔◌, ⊎_elim}
use mathlib.Core.List.{List, [], ◌∷◌, Memᴰ}
use lib.ListN.{take}
use Rattle.chip.specs.Geometry.{region_of, erase_region}
use Rattle.chip.proofs.Lists.{Every}
use Rattle.format.specs.declared.Record.{Record}
use Rattle.format.specs.Layout.{live}
use Rattle.region.specs.declared.Want.{Want}
use Rattle.region.specs.Walk.{records, is_wanted}
use Rattle.region.proofs.Search.{None}
use Rattle.pinned.specs.Left.{erased_by, erase_all}
use Rattle.pinned.proofs.Theorems.{collect_erases}
use Rattle.bindings.specs.WellFormed.{Lifeless, WellFormed, Bound}
use Rattle.bindings.proofs.Sound.{sound_blank}
use Rattle.bindings.proofs.Images.{every_of, erase_changes, live_before, well_formed_after}
use Rattle.bindings.proofs.Effects.{erase_effect, erase_all_effect}
use Rattle.bindings.proofs.Kept.{erase_keeps, erase_binds}

-- An erase of any region, live records in it or not.
pub erase_keeps_any : {s n : ℕ} {image : List ℕ} → WellFormed s n image → (r : ℕ) → r < n → WellFormed s n (erase_region s r image)
erase_keeps_any {s} {n} {image} w r h =
    well_formed_after (erase_changes r w.fits w.bytes h) (erase_all_effect s (region_of s image r)) w (sound_blank s)
    (λ y z. absurd z) (λ y z a b. absurd a) (λ y z q a b c. absurd a)

pub erases_keep : {s n : ℕ} {image : List ℕ} → WellFormed s n image → (rs : List ℕ) → Every (λ (q : ℕ). q < n) rs → WellFormed s n (erase_all s rs image)
unfolding erase_all
erases_keep w [] Every.none = w
erases_keep {s = s} {n = n} {image = image} w (r ∷ rs) (Every.also h hs) = erases_keep {image = erase_region s r image} (erase_keeps_any w r h) rs hs

-- Regions without a live record: the bindings stay.
module _ {s n : ℕ} {image : List ℕ} (w : WellFormed s n image) {r : ℕ} (d : Lifeless s n image r) where
  dull : None (is_wanted Want.Any) (records (region_of s image r))
  dull = every_of (records (region_of s image r)) (λ x m. go x m (live x) refl)
    where
      go : (x : Record) → Memᴰ x (records (region_of s image r)) → (b : Bool) → live x ≡ b → live x ≡ false
      go x m true e = absurd (d.none_live x (record { stored = record { number = d.number; member = m }; alive = e }))
      go x m false e = e

  pub lifeless_keeps : WellFormed s n (erase_region s r image)
  lifeless_keeps = erase_keeps w r d.number dull

  pub lifeless_binds : (key : ℕ) (value : List ℕ) → Bound s n (erase_region s r image) key value ↔ Bound s n image key value
  lifeless_binds key value = erase_binds w r d.number dull key value

  -- a region without a live record has none after the erase either: an erase makes no record
  pub stays_lifeless : {q : ℕ} → Lifeless s n image q → Lifeless s n (erase_region s r image) q
  stays_lifeless {q} e = record {
    number = e.number;
    none_live = λ x l. ⊎_elim
        (λ old. e.none_live x old.0)
        (λ new. absurd new.1)
        (live_before (erase_changes r w.fits w.bytes d.number) (erase_effect s (region_of s image r) dull) q x l);
  }

  pub all_lifeless : (rs : List ℕ) → Every (Lifeless s n image) rs → Every (Lifeless s n (erase_region s r image)) rs
  all_lifeless [] Every.none = Every.none
  all_lifeless (q ∷ rs) (Every.also e es) = Every.also (stays_lifeless e) (all_lifeless rs es)

pub dead_erases_keep : {s n : ℕ} {image : List ℕ} → WellFormed s n image → (rs : List ℕ) → Every (Lifeless s n image) rs
    → WellFormed s n (erase_all s rs image) × ((key : ℕ) (value : List ℕ) → Bound s n (erase_all s rs image) key value ↔ Bound s n image key value)
unfolding erase_all
dead_erases_keep w [] Every.none = (w, λ key value. (λ b. b, λ b. b))
dead_erases_keep {s = s} {n = n} {image = image} w (r ∷ rs) (Every.also d ds) =
    let (last, same) = dead_erases_keep {image = erase_region s r image} (lifeless_keeps w d) rs (all_lifeless w d rs ds) in (
      last,
      λ key value. (λ b. (lifeless_binds w d key value).0 ((same key value).0 b), λ b. (same key value).1 ((lifeless_binds w d key value).1 b)),
    )

-- what holds of every element holds of the first k
pub every_take : {A : Type 0} {P : A → Type 0} (k : ℕ) (xs : List A) → Every P xs → Every P (take k xs)
every_take zero xs h = Every.none
every_take (suc k) [] Every.none = Every.none
every_take (suc k) (x ∷ xs) (Every.also p h) = Every.also p (every_take k xs h)

-- the regions that collect erases are without a live record
pub collected_lifeless : {s n : ℕ} {image : List ℕ} → WellFormed s n image → Every (Lifeless s n image) (erased_by image s n)
collected_lifeless {s} {n} {image} w = every_of (erased_by image s n) (λ q m.
    let (h, d, _) = (collect_erases image s n q w.fits).0 m in
    record { number = h; none_live = λ x l. true≢false (sym l.alive ∙ d.none_live x l.stored.member) })

-- Collect, broken off after k of its erases.
pub collect_broken : {s n : ℕ} {image : List ℕ} → WellFormed s n image → (k : ℕ)
    → WellFormed s n (erase_all s (take k (erased_by image s n)) image)
    × ((key : ℕ) (value : List ℕ) → Bound s n (erase_all s (take k (erased_by image s n)) image) key value ↔ Bound s n image key value)
collect_broken {s} {n} {image} w k = dead_erases_keep w (take k (erased_by image s n)) (every_take k (erased_by image s n) (collected_lifeless w))
