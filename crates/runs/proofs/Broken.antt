-- Operations that are broken off: the image that they leave, and what stays bound.
-- Assumes nothing.
use Prim.Native.Nat.{ℕ, zero, suc, ◌<◌}
use native.Mathlib.Nat.{zero-add}
use mathlib.Core.Path.{◌≡◌, refl, sym, ◌∙◌, ap, subst}
use mathlib.Core.Bool.{Bool, true, false, cond}
use mathlib.Core.List.{List, [], ◌∷◌}
use lib.ListN.{length, take}
use Rattle.std.specs.Prelude.{Result, Ok, Err}
use Rattle.chip.specs.Every.{Every}
use Rattle.chip.specs.Geometry.{Fits, numbers}
use Rattle.plans.specs.Answers.{starts_anew}
use Rattle.store.specs.Read.{get_of}
use Rattle.store.specs.Call.{Call, get, append, remove, collect, initialise, value_of}
use Rattle.pinned.specs.Left.{erase_all}
use Rattle.bindings.specs.WellFormed.{WellFormed, Bound}
use Rattle.bindings.specs.Calls.{Typed, Spares, spares_initialise}
use Rattle.bindings.proofs.Collects.{numbers_below}
use Rattle.bindings.proofs.Broken.{every_take}
use Rattle.bindings.proofs.Lasting.{call_keeps, call_holds}
use Rattle.bindings.proofs.Theorems.{erases_keep, collect_broken}
use Rattle.running.specs.declared.Op.{Op}
use Rattle.stepwise.specs.Begins.{start_of}
use Rattle.runs.specs.Host.{Host, Beat, failed, begun, drive, readies, Lends, lends_get, lends_append, lends_remove, lends_collect, lends_initialise}
use Rattle.runs.specs.Services.{services, bytes_written, erases_of}
use Rattle.runs.specs.Events.{Event, in_one, in_steps, fails, buffer_in, left_by, image_after_event, image_after_events, TypedIn, typed_one, typed_steps, typed_fails, call_of, SparesIn, its_call_spares, untouched, SparesThrough, Left, erased_some, as_after}
use Rattle.runs.proofs.Runs.{run_middle, image_end}
use Rattle.runs.proofs.Erases.{Writes, Middle, so_far, all_done, middle, call_writes}
use Rattle.refusals.specs.declared.Refusal.{Refusal}

module _ (c : Call) (op : Op) (image region value buffer : List ℕ) (s n : ℕ)
    (starts : start_of c s n ≡ Ok op) (fits : Fits image s n) (long : length region ≡ s) (lends : Lends c value buffer) where
  pub run_left : (beats : List Beat) → Left c image s n (drive s beats (begun op image region value buffer)).host.image
  run_left beats = subst (Left c image s n) (sym (run_middle c op image region value buffer s n starts fits long lends beats).1) (go (middle s (bytes_written c image s n) w.last (readies beats) image))
    where
      w : Writes (services c image s n) (erases_of c image s n)
      w = call_writes c image s n

      go : {image' : List ℕ} → Middle s (bytes_written c image s n) (services c image s n) image image' → Left c image s n image'
      go (so_far k e) = erased_some k (e ∙ ap (λ (xs : List ℕ). erase_all s (take k xs) image) w.which)
      go (all_done e) = as_after (e ∙ sym (image_end c op image region value buffer s n starts fits long lends))

-- what an event lends
lends_own : (c : Call) → Lends c (value_of c) (buffer_in c)
lends_own (get key buffer) = lends_get
lends_own (append key value) = lends_append
lends_own (remove how key) = lends_remove
lends_own collect = lends_collect
lends_own (initialise key) = lends_initialise

-- On a well-formed image.
module _ {s n : ℕ} {image : List ℕ} (w : WellFormed s n image) where
  erased_none : (k : ℕ) → erase_all s (take k []) image ≡ image
  unfolding erase_all
  erased_none zero = refl
  erased_none (suc k) = refl

  -- a start that refuses leaves all
  none_done : (c : Call) → Left c image s n image
  unfolding erase_all
  none_done c = erased_some 0 refl

  below : (t : Bool) → Every (λ (q : ℕ). q < n) (cond t (numbers 0 n) [])
  below true = rw zero-add at (numbers_below 0 n)
  below false = Every.none

  pub left_well : (c : Call) → Typed c → {image' : List ℕ} → Left c image s n image' → WellFormed s n image'
  left_well c t (as_after e) = rw e (call_keeps w c t)
  left_well c t (erased_some k e) = rw e (go c)
    where
      go : (c : Call) → WellFormed s n (erase_all s (take k (erases_of c image s n)) image)
      go (get key buffer) = rw (erased_none k) w
      go (append key value) = rw (erased_none k) w
      go (remove how key) = rw (erased_none k) w
      go collect = (collect_broken w k).0
      go (initialise key) = erases_keep w _ (every_take k _ (below (starts_anew (get_of image s n key []).answer)))

  pub left_bound : (c : Call) → Typed c → (key : ℕ) → Spares s n key image c → (value : List ℕ) → Bound s n image key value → {image' : List ℕ} → Left c image s n image' → Bound s n image' key value
  left_bound c t key p value b (as_after e) = rw e (call_holds w c t key p value b)
  left_bound c t key p value b (erased_some k e) = rw e (go c p)
    where
      go : (c : Call) → Spares s n key image c → Bound s n (erase_all s (take k (erases_of c image s n)) image) key value
      go (get key buffer) q = rw (erased_none k) b
      go (append key value) q = rw (erased_none k) b
      go (remove how key) q = rw (erased_none k) b
      go collect q = ((collect_broken w k).1 key value).1 b
      go (initialise main) (spares_initialise q) = rw (q, erased_none k) b

  -- After an event: its call in one go, or where its operation stands, and a service that fails alters nothing more.
  pub event_left : (v : Event) → TypedIn s v → Typed (call_of v) × Left (call_of v) image s n (image_after_event s n v image)
  event_left (in_one c) (typed_one t) = (t, as_after refl)
  event_left (in_steps c region beats) (typed_steps t l) = (t, go (start_of c s n) refl)
    where
      go : (a : Result Op Refusal) → start_of c s n ≡ a → Left c image s n (left_by s c region beats (λ (h : Host). h) image a)
      go (Ok op) e = run_left c op image region (value_of c) (buffer_in c) s n e w.fits l (lends_own c) beats
      go (Err r) e = none_done c
  event_left (fails c region beats bytes) (typed_fails t l) = (t, go (start_of c s n) refl)
    where
      go : (a : Result Op Refusal) → start_of c s n ≡ a → Left c image s n (left_by s c region beats (failed bytes) image a)
      go (Ok op) e = run_left c op image region (value_of c) (buffer_in c) s n e w.fits l (lends_own c) beats
      go (Err r) e = none_done c

  pub event_well : (v : Event) → TypedIn s v → WellFormed s n (image_after_event s n v image)
  event_well v t = let (typed, l) = event_left v t in left_well (call_of v) typed l

  pub event_bound : (v : Event) → TypedIn s v → (key : ℕ) → SparesIn s n key image v → (value : List ℕ) → Bound s n image key value → Bound s n (image_after_event s n v image) key value
  event_bound v t key (its_call_spares p) value b = let (typed, l) = event_left v t in left_bound (call_of v) typed key p value b l
  event_bound v t key (untouched e) value b = rw e b

-- over a list of events
pub events_well : (s n : ℕ) (vs : List Event) (image : List ℕ) → WellFormed s n image → Every (TypedIn s) vs → WellFormed s n (image_after_events s n vs image)
unfolding image_after_events
events_well s n [] image w Every.none = w
events_well s n (v ∷ vs) image w (Every.also t ts) = events_well s n vs (image_after_event s n v image) (event_well w v t) ts

pub events_hold : (s n key : ℕ) (value : List ℕ) (vs : List Event) (image : List ℕ) → WellFormed s n image → Bound s n image key value → SparesThrough s n key image vs
    → WellFormed s n (image_after_events s n vs image) × Bound s n (image_after_events s n vs image) key value
unfolding image_after_events
events_hold s n key value [] image w b SparesThrough.none = (w, b)
events_hold s n key value (v ∷ vs) image w b (SparesThrough.also t p rest) =
    events_hold s n key value vs (image_after_event s n v image) (event_well w v t) (event_bound w v t key p value b) rest
