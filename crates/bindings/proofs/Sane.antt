-- On a well-formed image no call answers UnsupportedVersion, CorruptData or InvalidCheckSum.
-- Assumes nothing.
use Prim.Native.Nat.{ℕ, ◌*◌, ◌≤◌}
use native.Mathlib.Omega.{arith}
use mathlib.Core.Path.{◌≡◌, refl, sym, ◌∙◌, ap}
use mathlib.Core.Bool.{Bool, true, false, not, cond, true≢false}
use mathlib.Core.List.{List, []}
use lib.Dec.{ltb}
use lib.ListN.{length, drop}
use Rattle.std.specs.Prelude.{Result, Ok, Err, Some, None}
use Rattle.chip.specs.Chip.{erased}
use Rattle.chip.specs.Geometry.{geometry, region_of}
use Rattle.chip.proofs.Laws.{blank-take}
use Rattle.probe.specs.Probe.{allowed_key}
use Rattle.format.specs.declared.Record.{Record}
use Rattle.format.specs.declared.Removal.{Removal}
use Rattle.format.specs.Layout.{record_length, check_sum_fits}
use Rattle.region.specs.Walk.{bytes_in, value_length}
use Rattle.refusals.specs.declared.Refusal.{Refusal}
use Rattle.lookup.specs.declared.Hit.{Hit}
use Rattle.refusals.specs.Refusals.{number, first_refusal}
use Rattle.lookup.specs.Turns.{hit_of}
use Rattle.plans.specs.declared.Success.{Success}
use Rattle.plans.specs.Answers.{refusal, starts_anew, Answer}
use Rattle.store.specs.Write.{Done, append_of, remove_of, initialise_by, initialise_of}
use Rattle.values.specs.Values.{read_answer}
use Rattle.store.specs.Read.{got_by, get_of}
use Rattle.store.specs.Collect.{collect_of}
use Rattle.store.specs.Call.{Call, get, append, remove, collect, initialise, answer_of}
use Rattle.bindings.specs.WellFormed.{WellFormed}
use Rattle.bindings.proofs.Images.{blank_well_formed}
use Rattle.bindings.proofs.Lookups.{never_bad, found_live}
use Rattle.bindings.proofs.Outcomes.{Hitting, hitting, Removing, removing, Appending, appending}
use Rattle.bindings.proofs.Collects.{collect_done}

-- none of the three
pub record Sane (a : Answer) : Type 0 where
  pub version : refusal a ≡ 7 → ⊥
  pub corrupt : refusal a ≡ 8 → ⊥
  pub sum : refusal a ≡ 10 → ⊥

sane_at : (a : Answer) (k : ℕ) → refusal a ≡ k → (k ≡ 7 → ⊥) → (k ≡ 8 → ⊥) → (k ≡ 10 → ⊥) → Sane a
sane_at a k e x y z = record { version = λ q. x (sym e ∙ q); corrupt = λ q. y (sym e ∙ q); sum = λ q. z (sym e ∙ q) }

-- what is refused before reading is refusal 1, 2 or 3
first_number : (image : List ℕ) (s n key len : ℕ) (w : Refusal) → first_refusal image s n key len ≡ Err w → number w ≤ 3
unfolding first_refusal
first_number image s n key len w = go (geometry image s n) (allowed_key key) (ltb 4079 len)
  where
    is : (v : Refusal) → ◌≡◌ {A = Result (Unit {0}) Refusal} (Err v) (Err w) → number v ≤ 3 → number w ≤ 3
    is v h l = let e : v ≡ w = cc in rw e at l

    go : (a b c : Bool) → cond (not a) (Err Refusal.BadGeometry) (cond (not b) (Err Refusal.BadKey) (cond c (Err Refusal.ObjectTooLarge) (Ok (tt {0})))) ≡ Err w → number w ≤ 3
    go false b c h = is Refusal.BadGeometry h (omega arith)
    go true false c h = is Refusal.BadKey h (omega arith)
    go true true true h = is Refusal.ObjectTooLarge h (omega arith)
    go true true false h = absurd (let z : ◌≡◌ {A = ℕ} 0 1 = cc in omega arith)

sane_early : (w : Refusal) → number w ≤ 3 → Sane (Err w)
sane_early w h = record { version = λ q. omega arith; corrupt = λ q. omega arith; sum = λ q. omega arith }

module _ {s n : ℕ} {image : List ℕ} (w : WellFormed s n image) where
  read_sane : (region : List ℕ) (x : Record) (capacity : ℕ) → check_sum_fits (bytes_in region x) ≡ true → Sane (read_answer region x capacity)
  read_sane region x capacity c = rw c (go (ltb capacity (value_length x)))
    where
      go : (b : Bool) → Sane (cond b (Err (Refusal.BufferTooSmall (value_length x))) (Ok (Success.Complete (value_length x))))
      go true = sane_at _ 9 refl (λ q. omega arith) (λ q. omega arith) (λ q. omega arith)
      go false = sane_at _ 0 refl (λ q. omega arith) (λ q. omega arith) (λ q. omega arith)

  miss_sane : (key : ℕ) (z : Refusal) → Hitting image s n key (Err z) → Sane (Err z)
  miss_sane key _ (Hitting.early z e) = sane_early z (first_number image s n key 0 z e)
  miss_sane key z (Hitting.bad f p a e) = absurd (never_bad w key None f p e)
  miss_sane key z (Hitting.missing seen a e) = sane_at _ 4 refl (λ q. omega arith) (λ q. omega arith) (λ q. omega arith)

  get_sane : (key : ℕ) (buffer : List ℕ) (t : Result Hit Refusal) → Hitting image s n key t → Sane (got_by s image buffer t).answer
  get_sane key buffer (Err z) h = miss_sane key z h
  get_sane key buffer (Ok _) (Hitting.hit r x a e) = read_sane (region_of s image r) x (length buffer) (w.sums r x (found_live w key None r x e).0)

  append_sane : (key : ℕ) (value : List ℕ) (d : Done) → Appending image s n key value d → Sane d.answer
  append_sane key value d (Appending.early z e) = sane_early z (first_number image s n key (length value) z e)
  append_sane key value d (Appending.there r x a e) = sane_at _ 5 refl (λ q. omega arith) (λ q. omega arith) (λ q. omega arith)
  append_sane key value d (Appending.bad f p a e) = absurd (never_bad w key (Some (record_length (length value))) f p e)
  append_sane key value d (Appending.full seen a e q) = sane_at _ 6 refl (λ q. omega arith) (λ q. omega arith) (λ q. omega arith)
  append_sane key value d (Appending.unblank seen r o a e h y) =
      absurd (true≢false (sym (blank-take (record_length (length value)) (drop o (region_of s image r)) (w.tails r o h y.ends)) ∙ sym y.blankness))
  append_sane key value d (Appending.wrote seen r o a e h y) = sane_at _ 0 refl (λ q. omega arith) (λ q. omega arith) (λ q. omega arith)

  remove_sane : (how : Removal) (key : ℕ) (d : Done) → Removing how image s n key d → Sane d.answer
  remove_sane how key d (Removing.not_hit z t) = miss_sane key z t
  remove_sane how key d (Removing.removes r x e) = sane_at _ 0 refl (λ q. omega arith) (λ q. omega arith) (λ q. omega arith)

  collect_sane : Sane (collect_of image s n).answer
  collect_sane = let (f, e) = (collect_done w).1 in sane_at (collect_of image s n).answer 0 (ap refusal e) (λ q. omega arith) (λ q. omega arith) (λ q. omega arith)

module _ {s n : ℕ} {image : List ℕ} (w : WellFormed s n image) where
  initialise_sane : (key : ℕ) (t : Bool) → starts_anew (get_of image s n key []).answer ≡ t → Sane (get_of image s n key []).answer → Sane (initialise_by image s n key (get_of image s n key []).answer).answer
  initialise_sane key false e h = rw e h
  initialise_sane key true e h = rw e (append_sane (blank_well_formed w.fits.shape) key [] (append_of (erased (n * s)) s n key []) (appending (erased (n * s)) s n key []))

  pub call_sane : (c : Call) → Sane (answer_of c image s n)
  unfolding get_of initialise_of
  call_sane (get key buffer) = get_sane w key buffer (hit_of image s n key) (hitting image s n key)
  call_sane (append key value) = append_sane w key value (append_of image s n key value) (appending image s n key value)
  call_sane (remove how key) = remove_sane w how key (remove_of how image s n key) (removing how image s n key)
  call_sane collect = collect_sane w
  call_sane (initialise key) = initialise_sane key (starts_anew (get_of image s n key []).answer) refl (get_sane w key [] (hit_of image s n key) (hitting image s n key))
