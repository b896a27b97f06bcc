-- What a host may rely on that takes an operation one flash service at a time. `drive` (Host.antt) is the host: it holds the image, lends the
-- same buffers each time, and in each beat has done what it was asked for or is not ready. `services` (Services.antt) is the list of a call's
-- services. What one step does, and what any host can count on, is in stepwise.
-- The arguments: Rests.antt (one service), Comes.antt (all of them, and waiting), Plans.antt and Calls.antt (the services of each operation),
-- Runs.antt, Refuses.antt, Bounds.antt, Erases.antt (which regions are erased), Lists.antt (the lists of services), Broken.antt (operations that are
-- broken off).
-- Assumes nothing.
use Prim.Native.Nat.{ℕ, ◌+◌, ◌*◌, ◌^◌, ◌≤◌, ◌<◌}
use native.Mathlib.Nat.{le_trans}
use native.Mathlib.Omega.{arith}
use mathlib.Core.Path.{◌≡◌, refl, ◌∙◌, ap}
use mathlib.Core.Bool.{true, false}
use mathlib.Core.List.{List, [], ◌∷◌, ◌++◌, map}
use mathlib.Core.Logic.{inl}
use lib.ListN.{length, take, drop, replicate}
use Rattle.std.specs.Prelude.{Ok, Err}
use Rattle.chip.specs.Chip.{Bytes, erased}
use Rattle.chip.specs.Every.{Every}
use Rattle.chip.specs.Geometry.{Fits, numbers}
use Rattle.probe.specs.Probe.{probes}
use Rattle.format.specs.declared.Record.{Record}
use Rattle.format.specs.declared.Fault.{Fault}
use Rattle.format.specs.declared.Removal.{Removal}
use Rattle.format.specs.Layout.{record_length, kill_place, kill_length}
use Rattle.region.specs.declared.Event.{Event}
use Rattle.refusals.specs.declared.Refusal.{Refusal}
use Rattle.plans.specs.declared.Success.TheVariants.{Complete, Written, Freed}
use Rattle.plans.specs.Answers.{refusal}
use Rattle.store.specs.Read.{Got, get_of}
use Rattle.store.specs.Write.{append_of, initialise_of}
use Rattle.store.specs.Call.{Call, get, append, remove, collect, initialise, answer_of, image_after}
use Rattle.pinned.specs.When.{Reads, FirstBad}
use Rattle.pinned.specs.Words.{Decides, FirstRoom}
use Rattle.pinned.proofs.Answers.{reads_if}
use Rattle.bindings.specs.WellFormed.{WellFormed, Bound}
use Rattle.bindings.specs.Calls.{Typed, Spares, OnlyCleared}
use Rattle.bindings.proofs.Bits.{same_cleared}
use Rattle.bindings.proofs.Theorems.{stays_well_formed, append_adds, initialise_makes_well_formed, get_finds, write_only_clears}
use Rattle.running.specs.declared.Request.{Request}
use Rattle.stepwise.specs.Asked.{asks}
use Rattle.stepwise.specs.Begins.{start_of, fresh_of}
use Rattle.stepwise.specs.Ahead.{most}
use Rattle.stepwise.proofs.Begins.{runs_else}
use Rattle.runs.specs.Host.{Run, Beat, ready, Same, service_done, region_meanwhile, failed, begun, drive, readies, Lends, lends_get, buffer_of}
use Rattle.runs.specs.Services.{services, bytes_written, services_done, erases_in, erases_of, UpTo, Sweeps, Ends}
use Rattle.runs.specs.Events.{Event as Happening, image_after_event, image_after_events, TypedIn, call_of, its_call_spares, SparesThrough, Left, Found}
use Rattle.runs.proofs.Runs.{run_unwaited, run_ends, run_answered, run_goes_on, run_middle, run_rests, image_end}
use Rattle.runs.proofs.Refuses.{Listed, refused_so}
use Rattle.stepwise.proofs.Falls.{most_any}
use Rattle.runs.proofs.Bounds.{bound}
use Rattle.runs.proofs.Erases.{call_writes}
use Rattle.runs.proofs.Broken.{run_left, event_well, event_bound, events_well, events_hold}
use Rattle.runs.proofs.Lists as Lists
use Rattle.runs.proofs.Failing.{failing}

-- Services.

-- R9.6: get n services at most, append and the removals n + 1, collect 2 n, initialise 3 n + 1,
pub at_most : (c : Call) (image : List ℕ) (s n : ℕ) → length (services c image s n) ≤ most c n
at_most = bound

-- R9.6: and none has more than 3 n + 1.
pub any_at_most : (c : Call) (image : List ℕ) (s n : ℕ) → length (services c image s n) ≤ 3 * n + 1
any_at_most c image s n = le_trans (bound c image s n) (most_any c n)

-- A call whose arguments are allowed, on an image of the chip's size; a region buffer of s bytes with anything in it; append's value and get's
-- buffer are those of the call. That the image is well-formed is not needed.
module _ (c : Call) (image region value buffer : List ℕ) (s n : ℕ) (reads : Reads image s n c) (long : length region ≡ s) (lends : Lends c value buffer) where
  -- R8.2: its start hands out this running operation, and the run begins with it.
  pub starts : start_of c s n ≡ Ok (fresh_of c s n)
  starts = runs_else c s n (record { shape = reads.fits.shape; key_good = reads.key_good; not_large = reads.not_large })

  abbrev run : List Beat → Run
  run beats = drive s beats (begun (fresh_of c s n) image region value buffer)

  -- R9.7: one service at a time, with any number of "not ready" between, the operation ends after exactly the listed services, with the answer, the
  -- image and get's buffer of the one-call form, on every image. While it is not ready the host may be half through a read.
  pub one_service_at_a_time : (beats : List Beat) → length (services c image s n) ≤ readies beats → Ends c image s n buffer (run beats)
  one_service_at_a_time = run_ends c (fresh_of c s n) image region value buffer s n starts reads.fits long lends

  -- R9.7: what a host sees: once the operation has answered, it has ended so, by these services.
  pub answered_is_ended : (beats : List Beat) → asks (run beats).host.request ≡ false → Ends c image s n buffer (run beats)
  answered_is_ended = run_answered c (fresh_of c s n) image region value buffer s n starts reads.fits long lends

  -- R9.6, R9.7: so it ends once the host was ready 3 n + 1 times.
  pub ends_in_time : (beats : List Beat) → 3 * n + 1 ≤ readies beats → Ends c image s n buffer (run beats)
  ends_in_time beats h = one_service_at_a_time beats (le_trans (any_at_most c image s n) h)

  -- R8.5, R8.9: "not ready" changes nothing: a run is that of a host that is ready as often and never waits, but for what a read that is under way has
  -- brought into the region buffer.
  pub waiting_is_nothing : (beats : List Beat) → Same (run beats) (run (replicate (readies beats) ready))
  waiting_is_nothing = run_unwaited c (fresh_of c s n) image region value buffer s n starts reads.fits long lends

  -- R8.8, R9.7: it does not end before: with fewer services done it asks for one.
  pub not_before : (beats : List Beat) → readies beats < length (services c image s n) → asks (run beats).host.request ≡ true
  not_before = run_goes_on c (fresh_of c s n) image region value buffer s n starts reads.fits long lends

  -- R9.7: at every moment the services done are the first ones of the list, as many as the host was ready, and the image is the one at the start with
  -- these done.
  pub at_every_moment : (beats : List Beat)
      → ((run beats).did ≡ take (readies beats) (services c image s n))
      × ((run beats).host.image ≡ services_done s (bytes_written c image s n) (take (readies beats) (services c image s n)) image)
  at_every_moment = run_middle c (fresh_of c s n) image region value buffer s n starts reads.fits long lends

  -- R9.7: so the one-call form's image is the one before with all the services done.
  pub image_after_all_lem : image_after c image s n ≡ services_done s (bytes_written c image s n) (services c image s n) image
  image_after_all_lem = image_end c (fresh_of c s n) image region value buffer s n starts reads.fits long lends

  -- R6.12: a failed service in the middle of a run ends it with FlashFailed, never with BadCall, and the step alters no buffer; if nothing of the
  -- service was done, but for the bytes that a read may have brought, the image is as it was.
  pub fails_in_the_middle : (beats : List Beat) → asks (run beats).host.request ≡ true → (bytes : List ℕ)
      → let before = (run beats).host in
      ((failed bytes before).request ≡ Request.Answers (Err Refusal.FlashFailed))
      × ((failed bytes before).image ≡ before.image)
      × ((failed bytes before).region ≡ region_meanwhile before.request bytes before.region)
      × ((failed bytes before).buffer ≡ before.buffer)
  fails_in_the_middle beats w bytes = failing (run_rests c (fresh_of c s n) image region value buffer s n starts reads.fits long lends beats) w bytes

  -- R11.9: broken off after any beats, by a host that goes no further or by a service that failed and was not done: so many of the call's erases are
  -- done, or all that the call does. Of a get, an append and a removal, which erase nothing, the image is as it was, or as the one-call form leaves it.
  pub broken_off : (beats : List Beat) → Left c image s n (run beats).host.image
  broken_off = run_left c (fresh_of c s n) image region value buffer s n starts reads.fits long lends

-- R7.2: a start that refuses, by 1, 2 or 3, runs nothing. The one-call form gives the same answer and changes nothing either.
pub start_refuses : (c : Call) (image buffer : List ℕ) (s n : ℕ) (w : Refusal) → length image ≡ n * s → start_of c s n ≡ Err w
    → (answer_of c image s n ≡ Err w) × (image_after c image s n ≡ image) × (buffer_of c image s n buffer ≡ buffer) × (services c image s n ≡ [])
start_refuses c image buffer s n w size h =
    let e = refused_so image s n size w c buffer h in
    (ap (λ (o : Listed). o.leaving.answer) e, ap (λ (o : Listed). o.leaving.image) e, ap (λ (o : Listed). o.leaving.buffer) e, ap (λ (o : Listed). o.did) e)

-- Outside an erase no bit goes from 0 to 1.

-- R11.10: no service but an erase raises a bit, whatever bytes are written.
pub service_only_clears : (s : ℕ) (bytes : List ℕ) (q : Request) (image : List ℕ) → ((r : ℕ) → q ≡ Request.Erase r → ⊥) → OnlyCleared (service_done s bytes q image) image
service_only_clears s bytes (Request.Read r) image h = same_cleared image
service_only_clears s bytes (Request.Write a e p) image h = write_only_clears image p bytes
service_only_clears s bytes (Request.Erase r) image h = absurd (h r refl)
service_only_clears s bytes (Request.Answers answer) image h = same_cleared image

-- R9.4, R9.5: which operations ask for an erase, and of which regions, in this order: collect of the dead ones before the first bad place, initialise
-- of all in number order where it starts anew, no other of any.
pub erases_are : (c : Call) (image : List ℕ) (s n : ℕ) → erases_in (services c image s n) ≡ erases_of c image s n
erases_are c image s n = (call_writes c image s n).which

-- The lists of services.

-- R9.1: get, reads of the regions in probe order up to the one that decides, answered or refused.
pub get_services : (key : ℕ) (buffer image : List ℕ) (s n : ℕ) → Reads image s n (get key buffer)
    → (rs : List ℕ) × UpTo image s key (probes key n) rs × (services (get key buffer) image s n ≡ map Request.Read rs)
get_services key buffer image s n h = Lists.get_list image s n key buffer h

-- R9.2: append, reads of all N regions, then one write: where it answers Written. The write goes to the first region in probe order with room (R5.4).
pub append_services : (key : ℕ) (value image : List ℕ) (s n : ℕ) → answer_of (append key value) image s n ≡ Ok Written
    → (r : ℕ) × (o : ℕ) × FirstRoom image s (record_length (length value)) (probes key n) r o
    × (services (append key value) image s n ≡ map Request.Read (probes key n) ++ Request.Write o (o + record_length (length value)) (r * s + o) ∷ [])
append_services key value image s n h = Lists.append_list image s n key value h

-- R9.2: a refusal ends the list where it is known: one that is refused after reading has read up to the region that decides, or all where none does,
-- and writes nothing.
pub append_refused_services : (key : ℕ) (value image : List ℕ) (s n : ℕ) → Reads image s n (append key value) → 1 ≤ refusal (answer_of (append key value) image s n)
    → (rs : List ℕ) × UpTo image s key (probes key n) rs × (services (append key value) image s n ≡ map Request.Read rs)
append_refused_services key value image s n r h = Lists.append_no_list image s n key value r h

-- R9.3: invalidate and zeroise, get's reads, then one write: over the record that decided.
pub removal_services : (how : Removal) (key : ℕ) (image : List ℕ) (s n : ℕ) → answer_of (remove how key) image s n ≡ Ok Written
    → (r : ℕ) × (x : Record) × (d : Decides image s key (probes key n) r (Event.Live x))
    × (services (remove how key) image s n ≡ map Request.Read (d.before ++ r ∷ []) ++ Request.Write (kill_place how x) (kill_place how x + kill_length how x) (r * s + kill_place how x) ∷ [])
removal_services how key image s n h = Lists.remove_list image s n key how h

-- R9.3: refused after reading, they have get's reads alone.
pub removal_refused_services : (how : Removal) (key : ℕ) (image : List ℕ) (s n : ℕ) → Reads image s n (remove how key) → 1 ≤ refusal (answer_of (remove how key) image s n)
    → (rs : List ℕ) × UpTo image s key (probes key n) rs × (services (remove how key) image s n ≡ map Request.Read rs)
removal_refused_services how key image s n r h = Lists.remove_no_list image s n key how r h

-- R9.4: collect, for each region in number order a read and, where it is to be erased, its erase.
pub collect_services_lem : (image : List ℕ) (s n bytes : ℕ) → answer_of collect image s n ≡ Ok (Freed bytes) → Sweeps s image (numbers 0 n) (services collect image s n)
collect_services_lem image s n bytes h = Lists.collect_list image s n bytes h

-- R9.4: with a bad place, the list ends with the read of its region (R5.8).
pub collect_refused_services : {f : Fault} (image : List ℕ) (s n : ℕ) → Fits image s n → (b : FirstBad image s n f)
    → (qs : List Request) × Sweeps s image (numbers 0 b.region) qs × (services collect image s n ≡ qs ++ Request.Read b.region ∷ [])
collect_refused_services image s n fits b = Lists.collect_bad_list image s n fits b

-- R9.5: initialise that is Complete, get's reads alone;
pub initialise_services : (key : ℕ) (image : List ℕ) (s n len : ℕ) → answer_of (initialise key) image s n ≡ Ok (Complete len)
    → services (initialise key) image s n ≡ services (get key []) image s n
initialise_services key image s n len h = Lists.initialise_list image s n key len h

-- R9.5: and if it must erase, erases of all regions in number order, then append's services.
pub initialise_anew_services : (key : ℕ) (image : List ℕ) (s n : ℕ) → answer_of (initialise key) image s n ≡ Ok Written
    → services (initialise key) image s n ≡ services (get key []) image s n ++ (map Request.Erase (numbers 0 n) ++ services (append key []) (erased (n * s)) s n)
initialise_anew_services key image s n h = Lists.initialise_anew_list image s n key h

-- Operations that were not finished.

-- R11.9: on a well-formed image an operation that is broken off after any beats, or that a failed service ends, leaves a well-formed image and every
-- binding that the whole operation would have spared.
pub broken_off_keeps : {s n : ℕ} {image : List ℕ} → WellFormed s n image → (v : Happening) → TypedIn s v
    → WellFormed s n (image_after_event s n v image)
    × ((key : ℕ) (value : List ℕ) → Spares s n key image (call_of v) → Bound s n image key value → Bound s n (image_after_event s n v image) key value)
broken_off_keeps w v t = (event_well w v t, λ key value p b. event_bound w v t key (its_call_spares p) value b)

-- R11.1, R11.9: so an image stays well-formed over any list of calls and operations, finished or not.
pub events_stay_well_formed : {s n : ℕ} {image : List ℕ} → WellFormed s n image → (events : List Happening) → Every (TypedIn s) events
    → WellFormed s n (image_after_events s n events image)
events_stay_well_formed {s} {n} {image} w events t = events_well s n events image w t

-- R11.8: a bound record is found, within N region reads, into a buffer long enough, until its own key is removed or initialise erases the chip: after
-- any list of calls in one go and of operations taken one service at a time, finished, broken off, or ended by a failed service of which nothing was
-- done. (What a write or an erase leaves that failed and did a part is not said here: R13.8.)
pub bound_is_found : {s n : ℕ} {image : List ℕ} → WellFormed s n image → (key : ℕ) (value : List ℕ) → Bound s n image key value
    → (events : List Happening) → SparesThrough s n key image events
    → (buffer region lent : List ℕ) → length value ≤ length buffer → length region ≡ s
    → Found s n (image_after_events s n events image) key value buffer region lent
bound_is_found {s} {n} {image} w key value b events p buffer region lent l long = record {
  well_formed = held.0;
  bound = held.1;
  in_one_go = found;
  starts = starts (get key buffer) later region lent buffer s n reads long lends_get;
  few = few;
  answers = λ beats h. (ends beats h).answer ∙ ap (λ (g : Got). Request.Answers g.answer) found;
  fills = λ beats h. (ends beats h).buffer_is ∙ ap (λ (g : Got). g.buffer) found;
  leaves = λ beats h. (ends beats h).image_is;
  serves = λ beats h. (ends beats h).did;
}
  where
    later : List ℕ
    later = image_after_events s n events image

    held : WellFormed s n later × Bound s n later key value
    held = events_hold s n key value events image w b p

    found : get_of later s n key buffer ≡ record { answer = Ok (Complete (length value)); buffer = value ++ drop (length value) buffer }
    found = get_finds held.0 key value buffer held.1 l

    reads : Reads later s n (get key buffer)
    reads = reads_if later s n (get key buffer) (ap (λ (g : Got). refusal g.answer) found)

    few : length (services (get key buffer) later s n) ≤ n
    few = at_most (get key buffer) later s n

    ends : (beats : List Beat) → n ≤ readies beats → Ends (get key buffer) later s n buffer (drive s beats (begun (fresh_of (get key buffer) s n) later region lent buffer))
    ends beats h = one_service_at_a_time (get key buffer) later region lent buffer s n reads long lends_get beats (le_trans few h)

-- R11.2, R11.8: a record that append has written is bound, and so is found;
pub stored_is_found : {s n : ℕ} {image : List ℕ} → WellFormed s n image → (key : ℕ) (value : List ℕ) → key < 2 ^ 64 → Bytes value
    → (append_of image s n key value).answer ≡ Ok Written
    → (events : List Happening) → SparesThrough s n key (append_of image s n key value).image events
    → (buffer region lent : List ℕ) → length value ≤ length buffer → length region ≡ s
    → Found s n (image_after_events s n events (append_of image s n key value).image) key value buffer region lent
stored_is_found w key value k v h events p buffer region lent l long =
    let bound = (append_adds w key value k v h key value).1 (inl (refl, refl)) in
    bound_is_found (stays_well_formed w (append key value) (Typed.typed_append k v)) key value bound events p buffer region lent l long

-- R11.5, R11.8: so is the main key's own, of the empty value, after an initialise that wrote it.
pub initialised_is_found : (image : List ℕ) (s n key : ℕ) → key < 2 ^ 64 → (initialise_of image s n key).answer ≡ Ok Written
    → (events : List Happening) → SparesThrough s n key (initialise_of image s n key).image events
    → (buffer region lent : List ℕ) → length region ≡ s
    → Found s n (image_after_events s n events (initialise_of image s n key).image) key [] buffer region lent
initialised_is_found image s n key k h events p buffer region lent long =
    let (w, bound) = initialise_makes_well_formed image s n key k h in
    bound_is_found w key [] ((bound key []).1 (refl, refl)) events p buffer region lent (omega arith) long
