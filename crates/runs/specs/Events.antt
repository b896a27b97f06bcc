-- What may happen to a chip: calls in one go, and operations taken one service at a time, to their end, broken off before it, or ended by a service
-- that fails and is not done.
use Rattle.std.specs.Prelude.{ℕ, ◌≤◌, ◌≡◌, List, [], ◌∷◌, ◌++◌, length, take, drop, Result, Ok, Err}
use Rattle.plans.specs.declared.Success.TheVariants.{Complete}
use Rattle.store.specs.Read.{get_of}
use Rattle.store.specs.Call.{Call, get, append, remove, collect, initialise, value_of, image_after}
use Rattle.pinned.specs.Left.{erase_all}
use Rattle.bindings.specs.WellFormed.{WellFormed, Bound}
use Rattle.bindings.specs.Calls.{Typed, Spares}
use Rattle.running.specs.declared.Request.{Request}
use Rattle.stepwise.specs.Begins.{start_of, fresh_of}
use Rattle.runs.specs.Host.{Host, Beat, begun, failed, drive, readies}
use Rattle.runs.specs.Services.{services, erases_of}
use Rattle.refusals.specs.declared.Refusal.{Refusal}
use Rattle.running.specs.declared.Op.{Op}

-- R11.8, R11.9: a call; an operation, with a region buffer that may hold anything, and so many beats of its host: with fewer services than it needs it
-- is broken off; or one whose host then says "failed", where a read that failed has brought these bytes.
pub data Event : Type 0 where
  in_one : (c : Call) → Event
  in_steps : (c : Call) (region : List ℕ) (beats : List Beat) → Event
  fails : (c : Call) (region : List ℕ) (beats : List Beat) (bytes : List ℕ) → Event

-- R8.3: the buffer that get is lent.
abbrev pub buffer_in : Call → List ℕ
buffer_in (get key buffer) = buffer
buffer_in (append key value) = []
buffer_in (remove how key) = []
buffer_in collect = []
buffer_in (initialise key) = []

-- R8.2, R11.9: the image where an operation stands, if its start hands one out: a start that refuses runs nothing.
abbrev pub left_by : ℕ → Call → List ℕ → List Beat → (Host → Host) → List ℕ → Result Op Refusal → List ℕ
left_by s c region beats last image (Ok op) = (last (drive s beats (begun op image region (value_of c) (buffer_in c))).host).image
left_by s c region beats last image (Err w) = image

-- R11.8, R11.9: the image after an event.
abbrev pub image_after_event : ℕ → ℕ → Event → List ℕ → List ℕ
image_after_event s n (in_one c) image = image_after c image s n
image_after_event s n (in_steps c region beats) image = left_by s c region beats (λ (h : Host). h) image (start_of c s n)
image_after_event s n (fails c region beats bytes) image = left_by s c region beats (failed bytes) image (start_of c s n)

-- R11.8, R11.9: and after events, one after the other.
unfoldable pub image_after_events : ℕ → ℕ → List Event → List ℕ → List ℕ
image_after_events s n [] image = image
image_after_events s n (v ∷ vs) image = image_after_events s n vs (image_after_event s n v image)

-- R11.8, R11.9: an event's arguments are what the types of the calls allow, and the region buffer has S bytes.
pub data TypedIn (s : ℕ) : Event → Type 0 where
  typed_one : {c : Call} → Typed c → TypedIn s (in_one c)
  typed_steps : {c : Call} {region : List ℕ} {beats : List Beat} → Typed c → length region ≡ s → TypedIn s (in_steps c region beats)
  typed_fails : {c : Call} {region : List ℕ} {beats : List Beat} {bytes : List ℕ} → Typed c → length region ≡ s → TypedIn s (fails c region beats bytes)

-- R11.9: the whole operation of which an event is all or a part.
abbrev pub call_of : Event → Call
call_of (in_one c) = c
call_of (in_steps c region beats) = c
call_of (fails c region beats bytes) = c

-- R11.8: until its own key is removed or initialise erases the chip: the call of an event does neither to the key on this image, or the event left
-- the image as it was, as one does that is broken off before its first write or erase.
pub data SparesIn (s n key : ℕ) (image : List ℕ) (v : Event) : Type 0 where
  its_call_spares : Spares s n key image (call_of v) → SparesIn s n key image v
  untouched : image_after_event s n v image ≡ image → SparesIn s n key image v

-- R11.8: each event of a list is typed, and spares the key on the image that it meets.
pub data SparesThrough (s n key : ℕ) : List ℕ → List Event → Type 0 where
  none : {image : List ℕ} → SparesThrough s n key image []
  also : {image : List ℕ} {v : Event} {vs : List Event} → TypedIn s v → SparesIn s n key image v → SparesThrough s n key (image_after_event s n v image) vs
      → SparesThrough s n key image (v ∷ vs)

-- R11.9: what an operation leaves of the image that is broken off: the first so many of its erases are done, or all that it does.
pub data Left (c : Call) (image : List ℕ) (s n : ℕ) (image' : List ℕ) : Type 0 where
  erased_some : (k : ℕ) → image' ≡ erase_all s (take k (erases_of c image s n)) image → Left c image s n image'
  as_after : image' ≡ image_after c image s n → Left c image s n image'

-- R11.8: a key is bound on a well-formed image, and a get into this buffer finds its value: in one go; and one service at a time, with this region
-- buffer, anything lent for a value and any waiting between, by the listed services, n reads at most, and the image stays.
pub record Found (s n : ℕ) (image : List ℕ) (key : ℕ) (value buffer region lent : List ℕ) : Type 0 where
  pub well_formed : WellFormed s n image
  pub bound : Bound s n image key value
  pub in_one_go : get_of image s n key buffer ≡ record { answer = Ok (Complete (length value)); buffer = value ++ drop (length value) buffer }
  pub starts : start_of (get key buffer) s n ≡ Ok (fresh_of (get key buffer) s n)
  pub few : length (services (get key buffer) image s n) ≤ n
  pub answers : (beats : List Beat) → n ≤ readies beats
      → (drive s beats (begun (fresh_of (get key buffer) s n) image region lent buffer)).host.request ≡ Request.Answers (Ok (Complete (length value)))
  pub fills : (beats : List Beat) → n ≤ readies beats
      → (drive s beats (begun (fresh_of (get key buffer) s n) image region lent buffer)).host.buffer ≡ value ++ drop (length value) buffer
  pub leaves : (beats : List Beat) → n ≤ readies beats → (drive s beats (begun (fresh_of (get key buffer) s n) image region lent buffer)).host.image ≡ image
  pub serves : (beats : List Beat) → n ≤ readies beats
      → (drive s beats (begun (fresh_of (get key buffer) s n) image region lent buffer)).did ≡ services (get key buffer) image s n
