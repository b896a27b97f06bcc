-- Outside an erase no bit is set: of every operation, on every image.
-- Assumes nothing.
use Prim.Native.Nat.{ℕ, zero, suc, ◌+◌, ◌*◌, ◌≤◌, ◌<◌}
use native.Mathlib.Nat.{zero-add}
use native.Mathlib.Omega.{arith}
use mathlib.Core.Path.{◌≡◌, refl, sym, ◌∙◌, ap}
use mathlib.Core.Bool.{Bool, true, false, cond, false≢true}
use mathlib.Core.Logic.{◌⊎◌, inl, inr, ⊎_elim}
use mathlib.Core.List.{List, [], ◌∷◌}
use lib.Bits.{and_self}
use lib.ListN.{length, get_or}
use lib.Seq.{length-sets}
use Rattle.chip.specs.Chip.{written, erased}
use Rattle.chip.specs.Geometry.{Fits, geometry, region_of, erase_region, numbers}
use Rattle.chip.proofs.Lists.{Every}
use Rattle.chip.proofs.Image.{length-erased, geometry_fits, fits_erased, region_erased_same, region_erased_other}
use Rattle.chip.proofs.Laws.{length-written}
use Rattle.chip.proofs.Theorems.{write_clears}
use Rattle.probe.specs.Probe.{home}
use Rattle.format.specs.declared.Removal.{Removal}
use Rattle.format.specs.Layout.{record_bytes}
use Rattle.refusals.specs.declared.Refusal.{Refusal}
use Rattle.sweeping.specs.declared.Verdict.{Verdict}
use Rattle.sweeping.specs.Sweeps.{verdict}
use Rattle.plans.specs.Answers.{refusal, number_starts_anew, starts_anew}
use Rattle.store.specs.Write.{Done, append_of, remove_of, refused, initialise_of}
use Rattle.store.specs.Collect.{collect_in, collect_of}
use Rattle.store.specs.Read.{get_of}
use Rattle.store.specs.Call.{get, initialise, answer_of}
use Rattle.pinned.specs.When.{When}
use Rattle.pinned.proofs.Lines.{line_some}
use Rattle.pinned.proofs.Answers.{reason_number, reads_if}
use Rattle.pinned.proofs.Theorems.{refused_leaves, initialise_written}
use Rattle.bindings.specs.Calls.{OnlyCleared}
use Rattle.bindings.proofs.Images.{same_or_not}
use Rattle.bindings.proofs.Outcomes.{Appending, appending, Removing, removing}
use Rattle.bindings.proofs.Collects.{numbers_below}

pub same_cleared : (image : List ℕ) → OnlyCleared image image
same_cleared image = record { same_length = refl; bits = λ k. and_self (get_or image k 0) }

pub write_cleared : (image : List ℕ) (at : ℕ) (new : List ℕ) → OnlyCleared (written image at new) image
write_cleared image at new = record { same_length = length-written image at new; bits = write_clears image at new }

append_clears : (image : List ℕ) (s n key : ℕ) (value : List ℕ) (d : Done) → Appending image s n key value d → OnlyCleared d.image image
append_clears image s n key value d (Appending.early z e) = same_cleared image
append_clears image s n key value d (Appending.there r x a e) = same_cleared image
append_clears image s n key value d (Appending.bad f p a e) = same_cleared image
append_clears image s n key value d (Appending.full seen a e q) = same_cleared image
append_clears image s n key value d (Appending.unblank seen r o a e h y) = same_cleared image
append_clears image s n key value d (Appending.wrote seen r o a e h y) = write_cleared image _ _

pub append_only_clears : (image : List ℕ) (s n key : ℕ) (value : List ℕ) → OnlyCleared (append_of image s n key value).image image
append_only_clears image s n key value = append_clears image s n key value (append_of image s n key value) (appending image s n key value)

remove_clears : (how : Removal) (image : List ℕ) (s n key : ℕ) (d : Done) → Removing how image s n key d → OnlyCleared d.image image
remove_clears how image s n key d (Removing.not_hit z t) = same_cleared image
remove_clears how image s n key d (Removing.removes r x e) = write_cleared image _ _

pub remove_only_clears : (how : Removal) (image : List ℕ) (s n key : ℕ) → OnlyCleared (remove_of how image s n key).image image
remove_only_clears how image s n key = remove_clears how image s n key (remove_of how image s n key) (removing how image s n key)

-- collect: each region is as it was, or erased
pub swept : (s n : ℕ) (rs : List ℕ) (image : List ℕ) (freed : ℕ) → Fits image s n → Every (λ (q : ℕ). q < n) rs
    → (r : ℕ) → (region_of s (collect_in s image freed rs).image r ≡ region_of s image r) ⊎ (region_of s (collect_in s image freed rs).image r ≡ erased s)
unfolding collect_in
swept s n [] image freed f Every.none r = inl refl
swept s n (q ∷ rs) image freed f (Every.also h hs) r = go (λ image freed f. swept s n rs image freed f hs r) (verdict q (region_of s image q)) refl
  where
    go : ((image : List ℕ) (freed : ℕ) → Fits image s n → (region_of s (collect_in s image freed rs).image r ≡ region_of s image r) ⊎ (region_of s (collect_in s image freed rs).image r ≡ erased s))
        → (v : Verdict) → verdict q (region_of s image q) ≡ v
        → (region_of s (collect_in s image freed (q ∷ rs)).image r ≡ region_of s image r) ⊎ (region_of s (collect_in s image freed (q ∷ rs)).image r ≡ erased s)
    go ih Verdict.Stands e = rw (e, collect_in) (ih image freed f)
    go ih (Verdict.Bad g p) e = rw (e, collect_in) (inl refl)
    go ih Verdict.Erase e =
        rw (e, collect_in)
        (⊎_elim
        (λ same. ⊎_elim (λ p. inr (same ∙ ap (region_of s (erase_region s q image)) p ∙ region_erased_same f h)) (λ d. inl (same ∙ region_erased_other s q image r d)) (same_or_not r q))
        inr
        (ih (erase_region s q image) (freed + s) (fits_erased f q)))

pub collect_erases : (image : List ℕ) (s n r : ℕ) → (region_of s (collect_of image s n).image r ≡ region_of s image r) ⊎ (region_of s (collect_of image s n).image r ≡ erased s)
unfolding collect_of
collect_erases image s n r = go (geometry image s n) refl
  where
    go : (b : Bool) → geometry image s n ≡ b → (region_of s (cond b (collect_in s image 0 (numbers 0 n)) (refused Refusal.BadGeometry image)).image r ≡ region_of s image r)
        ⊎ (region_of s (cond b (collect_in s image 0 (numbers 0 n)) (refused Refusal.BadGeometry image)).image r ≡ erased s)
    go true e = swept s n (numbers 0 n) image 0 (geometry_fits e) (rw zero-add at (numbers_below 0 n)) r
    go false e = inl refl

-- collect: the image keeps its length, over any regions
swept_length : (s : ℕ) (rs image : List ℕ) (freed : ℕ) → length (collect_in s image freed rs).image ≡ length image
unfolding collect_in
swept_length s [] image freed = refl
swept_length s (q ∷ rs) image freed = go (swept_length s rs) (verdict q (region_of s image q)) refl
  where
    go : ((image : List ℕ) (freed : ℕ) → length (collect_in s image freed rs).image ≡ length image) → (v : Verdict) → verdict q (region_of s image q) ≡ v
        → length (collect_in s image freed (q ∷ rs)).image ≡ length image
    go ih Verdict.Stands e = rw (e, collect_in) (ih image freed)
    go ih (Verdict.Bad g p) e = rw (e, collect_in)
    go ih Verdict.Erase e = rw (e, collect_in) (ih (erase_region s q image) (freed + s) ∙ length-sets image (q * s) (erased s))

pub collect-length : (image : List ℕ) (s n : ℕ) → length (collect_of image s n).image ≡ length image
unfolding collect_of
collect-length image s n = go (geometry image s n)
  where
    go : (b : Bool) → length (cond b (collect_in s image 0 (numbers 0 n)) (refused Refusal.BadGeometry image)).image ≡ length image
    go true = swept_length s (numbers 0 n) image 0
    go false = refl

-- the refusals by which initialise starts anew are all behind 1, 2 and 3
anew_behind : (k : ℕ) → number_starts_anew k ≡ true → 4 ≤ k
anew_behind zero h = absurd (false≢true h)
anew_behind (suc zero) h = absurd (false≢true h)
anew_behind (suc (suc zero)) h = absurd (false≢true h)
anew_behind (suc (suc (suc zero))) h = absurd (false≢true h)
anew_behind (suc (suc (suc (suc k)))) h = omega arith

-- initialise: nothing, or an erase of all and one write
pub initialise_writes : (image : List ℕ) (s n key : ℕ)
    → ((initialise_of image s n key).image ≡ image) ⊎ ((initialise_of image s n key).image ≡ written (erased (n * s)) (home key n * s) (record_bytes key []))
unfolding initialise_of
initialise_writes image s n key = go (starts_anew (get_of image s n key []).answer) refl
  where
    go : (b : Bool) → starts_anew (get_of image s n key []).answer ≡ b
        → ((initialise_of image s n key).image ≡ image) ⊎ ((initialise_of image s n key).image ≡ written (erased (n * s)) (home key n * s) (record_bytes key []))
    go true e = inr (ap (λ (d : Done). d.image) (initialise_written key image s n (anew_behind (refusal (answer_of (get key []) image s n)) e)))
    go false e = inl (rw (e, initialise_of))

-- which has the image's length: a call that is not refused has an image of the chip's size
pub initialise_length : (image : List ℕ) (s n key : ℕ) → length (initialise_of image s n key).image ≡ length image
initialise_length image s n key = ⊎_elim goes stays (reason_number image s n (initialise key))
  where
    stays : When image s n (refusal (answer_of (initialise key) image s n)) (initialise key) → length (initialise_of image s n key).image ≡ length image
    stays w = ap length (refused_leaves (initialise key) image s n (line_some w).0)

    goes : refusal (answer_of (initialise key) image s n) ≡ 0 → length (initialise_of image s n key).image ≡ length image
    goes z =
        ⊎_elim (λ e. ap length e)
        (λ e. ap length e ∙ length-written (erased (n * s)) (home key n * s) (record_bytes key []) ∙ length-erased (n * s) ∙ sym (reads_if image s n (initialise key) z).fits.size)
        (initialise_writes image s n key)
