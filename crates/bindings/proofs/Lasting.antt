-- Every call leaves a well-formed image, and a record that a call spares stays bound; so it does over any list of calls.
-- Assumes nothing.
use Prim.Native.Nat.{ℕ, suc, ◌*◌, ◌^◌, ◌≤◌, ◌<◌}
use native.Mathlib.Omega.{arith}
use mathlib.Core.Path.{◌≡◌, refl, sym, ◌∙◌}
use mathlib.Core.Bool.{Bool, true, false}
use mathlib.Core.Logic.{inr}
use mathlib.Core.List.{List, [], ◌∷◌}
use lib.ListN.{length}
use Rattle.lookup.specs.declared.Looked.{Looked}
use Rattle.std.specs.declared.ops.ControlFlow.TheVariants.{Break, Continue}
use Rattle.std.specs.declared.ops.ControlFlow.{ControlFlow}
use Rattle.std.specs.Prelude.{Option, None}
use Rattle.chip.specs.Chip.{Bytes, erased}
use Rattle.chip.specs.Geometry.{region_of}
use Rattle.format.specs.declared.Removal.{Removal}
use Rattle.format.proofs.Numbers.{no_bytes}
use Rattle.lookup.specs.declared.Seen.{Seen}
use Rattle.lookup.specs.Turns.{turn_of, on_turn, read_from}
use Rattle.plans.specs.Answers.{starts_anew}
use Rattle.store.specs.Write.{Done, append_of, remove_of, initialise_by, initialise_of}
use Rattle.store.specs.Read.{get_of}
use Rattle.store.specs.Call.{Call, get, append, remove, collect, initialise, image_after}
use Rattle.bindings.specs.WellFormed.{WellFormed, Bound}
use Rattle.bindings.specs.Calls.{Typed, typed_get, typed_append, typed_remove, typed_collect, typed_initialise, Spares, spares_get, spares_append, spares_remove, spares_collect, spares_initialise, image_after_all, SparesAll}
use Rattle.bindings.proofs.Images.{blank_well_formed}
use Rattle.bindings.proofs.Lookups.{found_live}
use Rattle.bindings.proofs.Outcomes.{Removing, removing, Appending, appending}
use Rattle.bindings.proofs.Kept.{append_keeps, append_binds, remove_keeps, remove_unbinds}
use Rattle.bindings.proofs.Collects.{collect_done}

module _ {s n : ℕ} {image : List ℕ} (w : WellFormed s n image) where
  -- Append.
  append_leaves : (key : ℕ) (value : List ℕ) → key < 2 ^ 64 → Bytes value → (d : Done) → Appending image s n key value d → WellFormed s n d.image
  append_leaves key value k v d (Appending.early z e) = w
  append_leaves key value k v d (Appending.there r x a e) = w
  append_leaves key value k v d (Appending.bad f p a e) = w
  append_leaves key value k v d (Appending.full seen a e q) = w
  append_leaves key value k v d (Appending.unblank seen r o a e h y) = w
  append_leaves key value k v d (Appending.wrote seen r o a e h y) = append_keeps w key value k v a seen e r o h y

  append_holds : (key : ℕ) (value : List ℕ) → key < 2 ^ 64 → Bytes value → (d : Done) → Appending image s n key value d
      → (key' : ℕ) (value' : List ℕ) → Bound s n image key' value' → Bound s n d.image key' value'
  append_holds key value k v d (Appending.early z e) key' value' b = b
  append_holds key value k v d (Appending.there r x a e) key' value' b = b
  append_holds key value k v d (Appending.bad f p a e) key' value' b = b
  append_holds key value k v d (Appending.full seen a e q) key' value' b = b
  append_holds key value k v d (Appending.unblank seen r o a e h y) key' value' b = b
  append_holds key value k v d (Appending.wrote seen r o a e h y) key' value' b = (append_binds w key value k v a seen e r o h y key' value').1 (inr b)

  -- a removal
  remove_leaves : (how : Removal) (key : ℕ) (d : Done) → Removing how image s n key d → WellFormed s n d.image
  remove_leaves how key d (Removing.not_hit z t) = w
  remove_leaves how key d (Removing.removes r x e) = remove_keeps w how r x (found_live w key None r x e).0

  remove_holds : (how : Removal) (key : ℕ) (d : Done) → Removing how image s n key d → (key' : ℕ) (value' : List ℕ) → (key ≡ key' → ⊥)
      → Bound s n image key' value' → Bound s n d.image key' value'
  remove_holds how key d (Removing.not_hit z t) key' value' other b = b
  remove_holds how key d (Removing.removes r x e) key' value' other b =
      let (l, q) = found_live w key None r x e in
      (remove_unbinds w how r x l key' value').1 (b, λ p. other (sym q ∙ sym p))

-- Any call.

module _ {s n : ℕ} {image : List ℕ} (w : WellFormed s n image) where
  initialise_leaves : (key : ℕ) → key < 2 ^ 64 → (t : Bool) → starts_anew (get_of image s n key []).answer ≡ t → WellFormed s n (initialise_by image s n key (get_of image s n key []).answer).image
  initialise_leaves key k false e = rw e w
  initialise_leaves key k true e =
      rw e (append_leaves (blank_well_formed w.fits.shape) key [] k no_bytes (append_of (erased (n * s)) s n key []) (appending (erased (n * s)) s n key []))

  initialise_holds : (key : ℕ) → starts_anew (get_of image s n key []).answer ≡ false → (key' : ℕ) (value' : List ℕ) → Bound s n image key' value'
      → Bound s n (initialise_by image s n key (get_of image s n key []).answer).image key' value'
  initialise_holds key e key' value' b = rw e b

  pub call_keeps : (c : Call) → Typed c → WellFormed s n (image_after c image s n)
  unfolding initialise_of
  call_keeps (get key buffer) typed_get = w
  call_keeps (append key value) (typed_append k v) = append_leaves w key value k v (append_of image s n key value) (appending image s n key value)
  call_keeps (remove how key) typed_remove = remove_leaves w how key (remove_of how image s n key) (removing how image s n key)
  call_keeps collect typed_collect = (collect_done w).0.kept
  call_keeps (initialise key) (typed_initialise k) = initialise_leaves key k (starts_anew (get_of image s n key []).answer) refl

  pub call_holds : (c : Call) → Typed c → (key : ℕ) → Spares s n key image c → (value : List ℕ) → Bound s n image key value → Bound s n (image_after c image s n) key value
  unfolding initialise_of
  call_holds (get k buffer) typed_get key spares_get value b = b
  call_holds (append k v) (typed_append h i) key spares_append value b = append_holds w k v h i (append_of image s n k v) (appending image s n k v) key value b
  call_holds (remove how k) typed_remove key (spares_remove d) value b = remove_holds w how k (remove_of how image s n k) (removing how image s n k) key value d b
  call_holds collect typed_collect key spares_collect value b = ((collect_done w).0.same key value).1 b
  call_holds (initialise k) (typed_initialise h) key (spares_initialise e) value b = initialise_holds k e key value b

-- over a list of calls
pub all_hold : (s n key : ℕ) (value : List ℕ) (cs : List Call) (image : List ℕ) → WellFormed s n image → Bound s n image key value → SparesAll s n key image cs
    → WellFormed s n (image_after_all s n cs image) × Bound s n (image_after_all s n cs image) key value
unfolding image_after_all
all_hold s n key value [] image w b SparesAll.none = (w, b)
all_hold s n key value (c ∷ cs) image w b (SparesAll.also t p rest) = all_hold s n key value cs (image_after c image s n) (call_keeps w c t) (call_holds w c t key p value b) rest

-- a lookup reads no more regions than it is given
pub read_most : (seen : Seen) (key : ℕ) (need : Option ℕ) (s : ℕ) (image rs : List ℕ) → length (read_from seen key need s image rs) ≤ length rs
unfolding read_from
read_most seen key need s image [] = omega arith
read_most seen key need s image (r ∷ rs) = go (turn_of seen key need r (region_of s image r)) (λ more. read_most more key need s image rs)
  where
    go : (t : ControlFlow Looked Seen) → ((more : Seen) → length (read_from more key need s image rs) ≤ length rs)
        → suc (length (on_turn t (λ looked. []) (λ more. read_from more key need s image rs))) ≤ suc (length rs)
    go (Break looked) h = omega arith
    go (Continue more) h = omega (arith, h more)
