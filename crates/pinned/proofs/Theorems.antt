-- What every call of the store answers and leaves, rule by rule. The arguments are in the other files.
-- Assumes nothing.
use Prim.Native.Nat.{ℕ, ◌+◌, ◌*◌, ◌≤◌, ◌<◌}
use native.Mathlib.Omega.{arith}
use mathlib.Core.Path.{◌≡◌, refl, sym, ◌∙◌, ap, subst}
use mathlib.Core.Bool.{Bool, true, false}
use mathlib.Core.List.{List, [], ◌++◌, Memᴰ}
use mathlib.Core.Logic.{◌↔◌, ⊎_elim}
use lib.ListN.{length, take, drop}
use borrow.Author.Tests.{lt-ltb, le-ltb}
use Rattle.lookup.specs.Gather.{some_room}
use Rattle.std.specs.Prelude.{Option, Some, None, Ok, Err}
use Rattle.chip.specs.Chip.{Bytes, written, erased, is_blank}
use Rattle.chip.specs.Geometry.{Fits, region_of}
use Rattle.chip.proofs.Image.{region-length}
use Rattle.probe.specs.Probe.{home, probes}
use Rattle.probe.proofs.Theorems.{members, Distinct}
use Rattle.format.specs.declared.Record.{Record}
use Rattle.format.specs.declared.Fault.{Fault}
use Rattle.format.specs.declared.Removal.{Removal}
use Rattle.region.specs.declared.Event.{Event}
use Rattle.region.specs.declared.Want.{Want}
use Rattle.format.specs.Layout.{record_bytes, check_sum_fits}
use Rattle.region.specs.Walk.{event_in, bytes_in, value_length, value_in}
use Rattle.refusals.specs.declared.Refusal.{Refusal}
use Rattle.lookup.specs.declared.Looked.{Looked}
use Rattle.lookup.specs.declared.Seen.{Seen}
use Rattle.refusals.specs.Refusals.{refusal_of}
use Rattle.lookup.specs.Turns.{lookup_in}
use Rattle.lookup.specs.Words.{first_room, Passed}
use Rattle.lookup.proofs.Scan.{gathered_first}
use Rattle.plans.specs.declared.Success.TheVariants.{Complete, Written, Freed}
use Rattle.plans.specs.Answers.{refusal, Answer}
use Rattle.planning.specs.Planning.{place_plan, append_plan}
use Rattle.store.specs.Write.{Done, append_of, remove_of, initialise_of}
use Rattle.store.specs.Read.{Got, get_of}
use Rattle.store.specs.Collect.{collect_of}
use Rattle.store.specs.Call.{Call, get, append, remove, collect, initialise, outcome, answer_of, image_after}
use Rattle.pinned.specs.When.{Reads, NotBad, FirstBad, When, Succeeds}
use Rattle.pinned.specs.Left.{Dead, erased_by, Collected, left_by, Appended, Removed}
use Rattle.pinned.specs.Words.{Decides, HasRoom, FirstRoom}
use Rattle.pinned.proofs.Lines.{line_some, line_reads, initialise_line, get_line}
use Rattle.pinned.proofs.Calls.{got_live, collect_is, initialise_left, initialise_anew}
use Rattle.pinned.proofs.Answers.{refused_when, answered, reason_number, reads_if, get_fine, succeeds}
use Rattle.pinned.proofs.Swept.{first_bad}
use Rattle.pinned.proofs.Lookups.{end_passed, passed_end, live_is, bad_is, through_is, room_at, room_nowhere}
use Rattle.pinned.proofs.Buffers.{refused_buffer}
use Rattle.pinned.proofs.Written.{append_wrote, remove_wrote}
use Rattle.pinned.proofs.Collected.{erased_are, collected_at, stands_from, freed_all, erased_once}

-- When a refusal comes.

-- R6.1 to R6.10: a call on any image gives refusal k exactly when its rule says so (`When`), and only then.
pub exactly_when : (k : ℕ) (c : Call) (image : List ℕ) (s n : ℕ) → 1 ≤ k → (refusal (answer_of c image s n) ≡ k) ↔ When image s n k c
exactly_when k c image s n l = (λ e. ⊎_elim (λ z. absurd (omega arith)) (subst (λ (j : ℕ). When image s n j c) e) (reason_number image s n c), answered image s n)

-- R7.1: where no rule refuses it, the call gives the one answer that is its own: Complete with a length, Written, Freed with a number of bytes.
pub succeeds_else : (c : Call) (image : List ℕ) (s n : ℕ) → ((k : ℕ) → When image s n k c → ⊥) → Succeeds c (answer_of c image s n)
succeeds_else c image s n h = ⊎_elim (succeeds image s n c) (λ w. absurd (h _ w)) (reason_number image s n c)

-- R6.11, R6.12: these are the stepped form's: no call in one gives them.
pub at_most_ten : (c : Call) (image : List ℕ) (s n : ℕ) → refusal (answer_of c image s n) ≤ 10
at_most_ten c image s n = ⊎_elim (λ z. omega arith) (λ w. (line_some w).1) (reason_number image s n c)

-- R5.9: initialise refuses by 1 and 2 alone.
pub initialise_refuses : (key : ℕ) (image : List ℕ) (s n : ℕ) → refusal (answer_of (initialise key) image s n) ≤ 2
initialise_refuses key image s n = ⊎_elim (λ z. omega arith) initialise_line (reason_number image s n (initialise key))

-- R5.9: get never refuses by 3, 5 or 6: the refusals 4, 7, 8, 9 and 10 are all that initialise's get can give behind 1 and 2.
pub get_refuses : (key : ℕ) (buffer image : List ℕ) (s n : ℕ)
    → (refusal (answer_of (get key buffer) image s n) ≡ 3 → ⊥) × (refusal (answer_of (get key buffer) image s n) ≡ 5 → ⊥) × (refusal (answer_of (get key buffer) image s n) ≡ 6 → ⊥)
get_refuses key buffer image s n = ⊎_elim (λ z. (λ e. omega arith, λ e. omega arith, λ e. omega arith)) get_line (reason_number image s n (get key buffer))

-- The ends of a lookup that these rules name.

-- R6.4: no region decides.
pub no_region_decides : (key : ℕ) (need : Option ℕ) (image : List ℕ) (s n : ℕ) → 0 < n
    → ((seen : Seen) × (lookup_in key need s image (probes key n) ≡ Looked.Through seen)) ↔ ((r : ℕ) → r < n → Passed image s key r)
no_region_decides key need image s n p =
    let t = through_is image s key need (probes key n) in
    (λ h r l. t.0 h r ((members key n r p).0 l), λ k. t.1 (λ r m. k r ((members key n r p).1 m)))

-- R5.1: none decides where the walk for the key comes to the end of each: there is no live record of the key in it, and no bad place.
pub passed_is : (key : ℕ) (image : List ℕ) (s q : ℕ) → Passed image s key q ↔ ((o : ℕ) × (event_in (region_of s image q) (Want.Key key) ≡ Event.End o))
passed_is key image s q = (passed_end image s key q, λ h. let (o, e) = h in end_passed image s key q e)

-- R5.1, R6.5: the lookup is decided by a live record of the key, in a region of the probe order before which none decides.
pub meets_live : (key : ℕ) (need : Option ℕ) (image : List ℕ) (s n r : ℕ) (x : Record)
    → (lookup_in key need s image (probes key n) ≡ Looked.Live r x) ↔ Decides image s key (probes key n) r (Event.Live x)
meets_live key need image s n r x = live_is image s key need (probes key n) r x

-- R5.1: it is decided by a bad place: at this place of the image, in a region before which none decides.
pub meets_bad : (key : ℕ) (need : Option ℕ) (image : List ℕ) (s n : ℕ) (f : Fault) (place : ℕ)
    → (lookup_in key need s image (probes key n) ≡ Looked.Bad f place)
    ↔ ((r : ℕ) × (o : ℕ) × (r * length (region_of s image r) + o ≡ place) × Decides image s key (probes key n) r (Event.Bad f o))
meets_bad key need image s n f place = bad_is image s key need (probes key n) f place

-- R1.1: where the image fits, that region has S bytes: the place is r * S + o.
pub deciding_region : {image : List ℕ} {s n key r : ℕ} {event : Event} → Fits image s n → Decides image s key (probes key n) r event → length (region_of s image r) ≡ s
deciding_region {n = n} {key = key} {r = r} f d =
    let m : Memᴰ r (probes key n) = rw d.split (mathlib.Core.List.Memᴰ.append_right d.before (mathlib.Core.List.Memᴰ.head refl)) in
    region-length f ((members key n r f.shape.n_least).1 m)

-- R6.6: no region has room.
pub no_room : (key len : ℕ) (image : List ℕ) (s n : ℕ) → 0 < n
    → (first_room len s image (probes key n) ≡ None) ↔ ((r o : ℕ) → r < n → HasRoom image s len r o → ⊥)
no_room key len image s n p =
    let t = room_nowhere image s len (probes key n) in
    (λ h r o l. t.0 h r o ((members key n r p).0 l), λ k. t.1 (λ r o m. k r o ((members key n r p).1 m)))

-- R5.4: the first region in probe order that has room for so many bytes from o on, and whether the record's place there is blank.
pub first_room_lem : (key len : ℕ) (image : List ℕ) (s n r o : ℕ) (blank : Bool)
    → (first_room len s image (probes key n) ≡ some_room r o blank)
    ↔ (FirstRoom image s len (probes key n) r o × (blank ≡ is_blank (take len (drop o (region_of s image r)))))
first_room_lem key len image s n r o blank = room_at image s len (probes key n) r o blank

-- R5.4: that room is the one that append writes to, where no region decided.
pub append_takes_first : (key len : ℕ) (image : List ℕ) (s n : ℕ) {seen : Seen} → lookup_in key (Some len) s image (probes key n) ≡ Looked.Through seen
    → append_plan (Looked.Through seen) ≡ place_plan (first_room len s image (probes key n))
append_takes_first key len image s n h = ap place_plan (gathered_first key len s image (probes key n) h)

-- What a refusal leaves.

-- R7.3: a refused call alters no byte of the image, but for the regions that collect erased before. Initialise's own refusals come first.
pub refused_leaves : (c : Call) (image : List ℕ) (s n : ℕ) → 1 ≤ refusal (answer_of c image s n) → image_after c image s n ≡ left_by c image s n
refused_leaves c image s n l = ap (λ (d : Done). d.image) (refused_when image s n ((exactly_when _ c image s n l).0 refl)).done

-- R5.8: a bad place that decides ends collect with its refusal. The regions before it are collected already; it and those after it stand.
pub collect_refused : {f : Fault} (image : List ℕ) (s n : ℕ) → Fits image s n → (b : FirstBad image s n f)
    → (answer_of collect image s n ≡ Err (refusal_of f))
    × ((q : ℕ) → q < b.region → Collected s (region_of s image q) (region_of s (image_after collect image s n) q))
    × ((q : ℕ) → b.region ≤ q → region_of s (image_after collect image s n) q ≡ region_of s image q)
collect_refused {f} image s n fits b = (
  ap (λ (d : Done). d.answer) (collect_is image s n fits) ∙ first_bad s image (s * length (erased_by image s n)) b,
  λ q l. collected_at image s n fits q (omega (arith, b.inside)) (λ p m. b.first p (omega arith)),
  stands_from image s n fits b,
)

-- R7.3: a refused call alters no byte of get's buffer, but for what it copies under 9 and 10.
pub refused_keeps_buffer : (key : ℕ) (buffer image : List ℕ) (s n : ℕ) → 1 ≤ refusal (answer_of (get key buffer) image s n) → refusal (answer_of (get key buffer) image s n) < 9
    → (get_of image s n key buffer).buffer ≡ buffer
refused_keeps_buffer key buffer image s n l h = refused_buffer image s n key buffer l h

-- Get.

-- R11.6: get alters nothing, on any image.
pub get_alters_nothing : (key : ℕ) (buffer image : List ℕ) (s n : ℕ) → image_after (get key buffer) image s n ≡ image
get_alters_nothing key buffer image s n = refl

-- R5.2: get that is not refused has a live record of the key, whose value the buffer takes and whose checksum is right. See `get_complete`.
pub get_answers : (key : ℕ) (buffer image : List ℕ) (s n : ℕ) → refusal (answer_of (get key buffer) image s n) ≡ 0
    → Reads image s n (get key buffer)
    × ((r : ℕ)
    × (x : Record)
    × (lookup_in key None s image (probes key n) ≡ Looked.Live r x)
    × (value_length x ≤ length buffer)
    × (check_sum_fits (bytes_in (region_of s image r) x) ≡ true))
get_answers key buffer image s n h = get_fine image s n key buffer h

-- R5.2: get of a live record x of region r, of which the value's bytes are `value_in`: its length less 15 of them (R4.7).
module _ (key : ℕ) (buffer image : List ℕ) (s n r : ℕ) (x : Record) (reads : Reads image s n (get key buffer)) (live : lookup_in key None s image (probes key n) ≡ Looked.Live r x) where
  -- R5.2: a shorter buffer is filled with the value's first bytes: BufferTooSmall with the value's length, the checksum not looked at.
  pub get_short : length buffer < value_length x
      → get_of image s n key buffer ≡ record { answer = Err (Refusal.BufferTooSmall (value_length x)); buffer = take (length buffer) (value_in (region_of s image r) x) }
  get_short l = got_live image s n buffer reads live ∙ rw (lt-ltb (length buffer) (value_length x) l)

  -- R5.2: else the value is copied to the front, the bytes after it stay as they were, and the checksum is compared: Complete if it is right,
  pub get_complete : value_length x ≤ length buffer → check_sum_fits (bytes_in (region_of s image r) x) ≡ true
      → get_of image s n key buffer ≡ record { answer = Ok (Complete (value_length x)); buffer = value_in (region_of s image r) x ++ drop (value_length x) buffer }
  get_complete l e = got_live image s n buffer reads live ∙ rw (le-ltb (length buffer) (value_length x) l, e)

  -- R5.2: else InvalidCheckSum, with the copy left in the buffer.
  pub get_wrong_sum : value_length x ≤ length buffer → check_sum_fits (bytes_in (region_of s image r) x) ≡ false
      → get_of image s n key buffer ≡ record { answer = Err Refusal.InvalidCheckSum; buffer = value_in (region_of s image r) x ++ drop (value_length x) buffer }
  get_wrong_sum l e = got_live image s n buffer reads live ∙ rw (le-ltb (length buffer) (value_length x) l, e)

-- Written.

-- R5.4: Written is answered where the record was written, on a blank place, and nowhere else. A value's bytes are below 256.
pub append_written : (key : ℕ) (value image : List ℕ) (s n : ℕ) → Bytes value → answer_of (append key value) image s n ≡ Ok Written
    → Appended image s n key value (image_after (append key value) image s n)
append_written key value image s n v h = append_wrote image s n key value v h

-- R5.5, R5.6: Written is answered where the record that decides was invalidated or zeroised by its one write, and nowhere else.
pub remove_written : (how : Removal) (key : ℕ) (image : List ℕ) (s n : ℕ) → Bytes image → answer_of (remove how key) image s n ≡ Ok Written
    → Removed how image s n key (image_after (remove how key) image s n)
remove_written how key image s n v h = remove_wrote how image s n key v h

-- Collect.

-- R5.7: a region with at least one record, no live one and no bad place is erased: which regions are, each once.
pub collect_erases : (image : List ℕ) (s n q : ℕ) → Fits image s n
    → Memᴰ q (erased_by image s n) ↔ ((q < n) × Dead (region_of s image q) × ((p : ℕ) → p < q → NotBad (region_of s image p)))
collect_erases image s n q f = erased_are image s n f q

pub erases_once : (image : List ℕ) (s n : ℕ) → Distinct (erased_by image s n)
erases_once image s n = erased_once image s n

-- R5.7: Freed with S times the number of regions erased: these were dead, they are blank now, and the others are as they were.
pub freed_is_counted : (image : List ℕ) (s n bytes : ℕ) → answer_of collect image s n ≡ Ok (Freed bytes)
    → (bytes ≡ s * length (erased_by image s n))
    × ((q : ℕ) → Memᴰ q (erased_by image s n) ↔ ((q < n) × Dead (region_of s image q)))
    × ((q : ℕ) → q < n → Collected s (region_of s image q) (region_of s (image_after collect image s n) q))
freed_is_counted image s n bytes h =
    let fits = (reads_if image s n collect (ap refusal h)).fits in
    let (count, none) = freed_all image s n fits h in (
      count,
      λ q. let e = erased_are image s n fits q in (
        λ m. let (l, d, c) = e.0 m in (l, d),
        λ (l, d). e.1 (l, d, λ p m. none p (omega arith)),
      ),
      λ q l. collected_at image s n fits q l (λ p m. none p (omega arith)),
    )

-- Initialise, by the answer of a get of the main key into an empty buffer.

-- R5.9, R7.1: if that is Complete, so is initialise, with 0, and nothing changes.
pub initialise_complete : (key : ℕ) (image : List ℕ) (s n : ℕ) → refusal (answer_of (get key []) image s n) ≡ 0
    → outcome (initialise key) image s n ≡ record { answer = Ok (Complete 0); image = image }
initialise_complete key image s n h =
    let (reads, (r, x, live, fits, sum)) = get_answers key [] image s n h in
    let e : value_length x ≡ 0 = omega (arith, fits) in
    let got = ap (λ (g : Got). g.answer) (get_complete key [] image s n r x reads live fits sum) ∙ ap (λ (len : ℕ). Ok (Complete len)) e in
    initialise_left image s n key h ∙ ap (λ (a : Answer). record { answer = a; image = image }) got

-- R5.9: if it is refused by 4, 7, 8, 9 or 10, every region is erased and the main key is appended with an empty value: Written.
pub initialise_written : (key : ℕ) (image : List ℕ) (s n : ℕ) → 4 ≤ refusal (answer_of (get key []) image s n)
    → outcome (initialise key) image s n ≡ record { answer = Ok Written; image = written (erased (n * s)) (home key n * s) (record_bytes key []) }
initialise_written key image s n h =
    let reads = line_reads ((exactly_when _ (get key []) image s n (omega arith)).0 refl) h in
    initialise_anew image s n key (record { fits = reads.fits; key_good = reads.key_good; not_large = omega arith }) (omega arith)

-- R7.5: for one input there is one answer, and one image or one content of get's buffer afterwards: any two results allowed are identical.

-- What a contract allows, that says of each of two results what it is.
abbrev Allows : {A B : Type 0} → A → B → A → B → Type 0
Allows answer left a b = (a ≡ answer) × (b ≡ left)

only_one : {A B : Type 0} {answer a a' : A} {left b b' : B} → Allows answer left a b → Allows answer left a' b' → (a ≡ a') × (b ≡ b')
only_one (p, q) (p', q') = (p ∙ sym p', q ∙ sym q')

module _ (image : List ℕ) (s n : ℕ) {a a' : Answer} {b b' : List ℕ} where
  pub get_only_one : (key : ℕ) (buffer : List ℕ)
      → Allows (get_of image s n key buffer).answer (get_of image s n key buffer).buffer a b
      → Allows (get_of image s n key buffer).answer (get_of image s n key buffer).buffer a' b'
      → (a ≡ a') × (b ≡ b')
  get_only_one key buffer = only_one

  pub append_only_one : (key : ℕ) (value : List ℕ)
      → Allows (append_of image s n key value).answer (append_of image s n key value).image a b
      → Allows (append_of image s n key value).answer (append_of image s n key value).image a' b'
      → (a ≡ a') × (b ≡ b')
  append_only_one key value = only_one

  pub invalidate_only_one : (key : ℕ)
      → Allows (remove_of Removal.Invalidate image s n key).answer (remove_of Removal.Invalidate image s n key).image a b
      → Allows (remove_of Removal.Invalidate image s n key).answer (remove_of Removal.Invalidate image s n key).image a' b'
      → (a ≡ a') × (b ≡ b')
  invalidate_only_one key = only_one

  pub zeroise_only_one : (key : ℕ)
      → Allows (remove_of Removal.Zeroise image s n key).answer (remove_of Removal.Zeroise image s n key).image a b
      → Allows (remove_of Removal.Zeroise image s n key).answer (remove_of Removal.Zeroise image s n key).image a' b'
      → (a ≡ a') × (b ≡ b')
  zeroise_only_one key = only_one

  pub collect_only_one : Allows (collect_of image s n).answer (collect_of image s n).image a b
      → Allows (collect_of image s n).answer (collect_of image s n).image a' b'
      → (a ≡ a') × (b ≡ b')
  collect_only_one = only_one

  pub initialise_only_one : (key : ℕ)
      → Allows (initialise_of image s n key).answer (initialise_of image s n key).image a b
      → Allows (initialise_of image s n key).answer (initialise_of image s n key).image a' b'
      → (a ≡ a') × (b ≡ b')
  initialise_only_one key = only_one
