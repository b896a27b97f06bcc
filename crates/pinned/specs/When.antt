-- When each refusal comes, over any call on any image.
use Rattle.lookup.specs.Gather.{some_room}
use Rattle.std.specs.Prelude.{ℕ, ◌-◌, ◌^◌, ◌≤◌, ◌<◌, ◌≡◌, Bool, false, List, ◌⊎◌, length, take, drop, Option, Some, None, Ok}
use Rattle.std.proofs.Math.Option.{some}
use Rattle.chip.specs.Chip.{is_blank}
use Rattle.chip.specs.Geometry.{Fits, region_of}
use Rattle.probe.specs.Probe.{probes}
use Rattle.format.specs.declared.Record.{Record}
use Rattle.format.specs.declared.Fault.{Fault}
use Rattle.format.specs.declared.Fault.TheVariants.{UnsupportedVersion, CorruptData}
use Rattle.region.specs.declared.Want.{Want}
use Rattle.region.specs.declared.Event.{Event}
use Rattle.format.specs.declared.Removal.{Removal}
use Rattle.format.specs.Layout.{edition, largest_value, record_length, check_sum_fits}
use Rattle.region.specs.Walk.{bytes_in, value_length, event_in}
use Rattle.lookup.specs.declared.Seen.{Seen}
use Rattle.lookup.specs.declared.Looked.{Looked}
use Rattle.lookup.specs.Words.{first_room}
use Rattle.lookup.specs.Turns.{lookup_in}
use Rattle.plans.specs.declared.Success.TheVariants.{Complete, Written, Freed}
use Rattle.plans.specs.Answers.{Answer}
use Rattle.store.specs.Call.{Call, get, append, remove, collect, initialise, key_of, value_of}

-- R6.2: the key is 0 or 2^64 - 1.
abbrev pub Barred : ℕ → Type 0
Barred key = (key ≡ 0) ⊎ (key ≡ 2 ^ 64 - 1)

-- R6.2: the call's key is such a one. Collect has no key.
abbrev pub BadKey : Call → Type 0
BadKey c = (key : ℕ) × (key_of c ≡ some key) × Barred key

-- R7.2: the order is 1, then 2, then 3, then what reading brings: a call that none of the three refuses.
pub record Reads (image : List ℕ) (s n : ℕ) (c : Call) : Type 0 where
  pub fits : Fits image s n
  pub key_good : BadKey c → ⊥
  pub not_large : length (value_of c) ≤ largest_value edition

-- R5.2, R5.3, R5.5, R5.6: the calls that look a key up and answer by what they meet, the key, and the room they look for on the way. Initialise
-- looks too, and answers in another way (R5.9): what refuses its get makes it start anew.
pub data Looks : Call → ℕ → Option ℕ → Type 0 where
  get_looks : {key : ℕ} {buffer : List ℕ} → Looks (get key buffer) key None
  remove_looks : {how : Removal} {key : ℕ} → Looks (remove how key) key None
  append_looks : {key : ℕ} {value : List ℕ} → Looks (append key value) key (Some (record_length (length value)))

-- R5.8: a region does not end collect: its first live record or bad place is no bad place.
abbrev pub NotBad : List ℕ → Type 0
NotBad region = (f : Fault) (o : ℕ) → event_in region Want.Any ≡ Event.Bad f o → ⊥

-- R5.8: the bad place that ends collect: in the first region in number order whose first live record or bad place is a bad place.
pub record FirstBad (image : List ℕ) (s n : ℕ) (fault : Fault) : Type 0 where
  pub region : ℕ
  pub place : ℕ
  pub inside : region < n
  pub bad : event_in (region_of s image region) Want.Any ≡ Event.Bad fault place
  pub first : (q : ℕ) → q < region → NotBad (region_of s image q)

-- R6.7, R6.8: the lookup of a call is decided by a bad place, or collect comes to one.
pub data MeetsBad (image : List ℕ) (s n : ℕ) (fault : Fault) : Call → Type 0 where
  in_lookup : {c : Call} {key : ℕ} {need : Option ℕ} {place : ℕ} → Looks c key need → lookup_in key need s image (probes key n) ≡ Looked.Bad fault place → MeetsBad image s n fault c
  in_collect : FirstBad image s n fault → MeetsBad image s n fault collect

-- R6.1 to R6.10: exactly when refusal k comes to call c, a line for each case. R6.11 and R6.12 are the stepped form's: no line here has them.
pub data When (image : List ℕ) (s n : ℕ) : ℕ → Call → Type 0 where
  -- R6.1 BadGeometry: S or N is not as R1.2 has it, or the image's length is not.
  bad_geometry : {c : Call} → (Fits image s n → ⊥) → When image s n 1 c
  -- R6.2 BadKey: the key is 0 or 2^64 - 1.
  bad_key : {c : Call} → Fits image s n → BadKey c → When image s n 2 c
  -- R6.3 ObjectTooLarge: append's value has more than 4,079 bytes.
  object_too_large : {c : Call} → Fits image s n → (BadKey c → ⊥) → largest_value edition < length (value_of c) → When image s n 3 c
  -- R6.4 KeyNotFound: no region decides. Append then looks for room.
  key_not_found : {c : Call} {key : ℕ} {seen : Seen} → Reads image s n c → Looks c key None
      → lookup_in key None s image (probes key n) ≡ Looked.Through seen → When image s n 4 c
  -- R6.5 KeyAlreadyExists: append's lookup is decided by a live record of its key.
  key_already_exists : {key : ℕ} {value : List ℕ} {r : ℕ} {x : Record} → Reads image s n (append key value)
      → lookup_in key (Some (record_length (length value))) s image (probes key n) ≡ Looked.Live r x → When image s n 5 (append key value)
  -- R6.6 FlashFull: append: no region decides, and none has room.
  flash_full : {key : ℕ} {value : List ℕ} {seen : Seen} → Reads image s n (append key value)
      → lookup_in key (Some (record_length (length value))) s image (probes key n) ≡ Looked.Through seen
      → first_room (record_length (length value)) s image (probes key n) ≡ None → When image s n 6 (append key value)
  -- R6.7 UnsupportedVersion: the lookup is decided by a bad place of R4.4, or collect comes to one.
  unsupported_version : {c : Call} → Reads image s n c → MeetsBad image s n UnsupportedVersion c → When image s n 7 c
  -- R6.8 CorruptData: the same by a bad place of R4.5,
  corrupt_data : {c : Call} → Reads image s n c → MeetsBad image s n CorruptData c → When image s n 8 c
  -- R6.8: or append's place is not blank (R5.4).
  place_not_blank : {key : ℕ} {value : List ℕ} {seen : Seen} {r o : ℕ} {blank : Bool} → Reads image s n (append key value)
      → lookup_in key (Some (record_length (length value))) s image (probes key n) ≡ Looked.Through seen
      → first_room (record_length (length value)) s image (probes key n) ≡ some_room r o blank
      → is_blank (take (record_length (length value)) (drop o (region_of s image r))) ≡ false → When image s n 8 (append key value)
  -- R6.9 BufferTooSmall: get: the value that was found is longer than the buffer.
  buffer_too_small : {key : ℕ} {buffer : List ℕ} {r : ℕ} {x : Record} → Reads image s n (get key buffer)
      → lookup_in key None s image (probes key n) ≡ Looked.Live r x → length buffer < value_length x → When image s n 9 (get key buffer)
  -- R6.10 InvalidCheckSum: get: the value fits the buffer, and the record's checksum is not that of its bytes.
  invalid_check_sum : {key : ℕ} {buffer : List ℕ} {r : ℕ} {x : Record} → Reads image s n (get key buffer)
      → lookup_in key None s image (probes key n) ≡ Looked.Live r x → value_length x ≤ length buffer
      → check_sum_fits (bytes_in (region_of s image r) x) ≡ false → When image s n 10 (get key buffer)

-- R7.1: the answers that are no refusal, call by call: Complete with a length, Written, Freed with a number of bytes. What they carry is left open
-- here, initialise's length too, which R7.1 says is 0: `initialise_complete` proves that.
pub data Succeeds : Call → Answer → Type 0 where
  get_completes : {key : ℕ} {buffer : List ℕ} {len : ℕ} → Succeeds (get key buffer) (Ok (Complete len))
  append_writes : {key : ℕ} {value : List ℕ} → Succeeds (append key value) (Ok Written)
  remove_writes : {how : Removal} {key : ℕ} → Succeeds (remove how key) (Ok Written)
  collect_frees : {bytes : ℕ} → Succeeds collect (Ok (Freed bytes))
  initialise_finds : {key : ℕ} {len : ℕ} → Succeeds (initialise key) (Ok (Complete len))
  initialise_writes : {key : ℕ} → Succeeds (initialise key) (Ok Written)
