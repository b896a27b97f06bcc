-- What a stored record can count on. Read from top to bottom: what a call does to the bindings (R11.1 to R11.6), what follows
-- for a stored record, what erases leave that are broken off, and which bits a call may set. The arguments are in the files beside this one.
-- `key < 2 ^ 64` and `Bytes value` say of a key and a value what the types of the calls say: 64 bits, bytes.
-- Assumes nothing.
use Prim.Native.Nat.{ℕ, ◌+◌, ◌*◌, ◌^◌, ◌≤◌, ◌<◌}
use native.Mathlib.Omega.{arith}
use mathlib.Core.Path.{◌≡◌, refl, sym, ◌∙◌, ap, subst}
use mathlib.Core.Bool.{true}
use mathlib.Core.Logic.{◌⊎◌, inl, ⊎_elim, ◌↔◌}
use mathlib.Core.List.{List, [], ◌++◌, Memᴰ}
use lib.ListN.{length, get_or, take, drop}
use Rattle.std.specs.Prelude.{None, Ok, Err}
use Rattle.chip.specs.Chip.{Bytes, written, erased}
use Rattle.chip.specs.Geometry.{Shape, region_of, erase_region}
use Rattle.chip.specs.Every.{Every}
use Rattle.chip.proofs.Theorems.{erase_only}
use Rattle.chip.proofs.Image.{region-length}
use Rattle.probe.specs.Probe.{allowed_key, home, probes}
use Rattle.probe.proofs.Theorems.{probes-length}
use Rattle.region.specs.declared.Stop.{Stop}
use Rattle.format.specs.declared.Removal.{Removal}
use Rattle.format.specs.Layout.{record_length, record_bytes}
use Rattle.format.proofs.Numbers.{no_bytes}
use Rattle.region.specs.Walk.{ending}
use Rattle.refusals.specs.declared.Refusal.{Refusal}
use Rattle.lookup.specs.Gather.{unseen}
use Rattle.lookup.specs.Turns.{regions_read}
use Rattle.plans.specs.declared.Success.TheVariants.{Complete, Written, Freed}
use Rattle.plans.specs.Answers.{refusal}
use Rattle.store.specs.Write.{Done, refused, append_of, remove_of, initialise_of}
use Rattle.store.specs.Read.{get_of}
use Rattle.store.specs.Collect.{collect_of}
use Rattle.store.specs.Call.{Call, answer_of, image_after}
use Rattle.pinned.specs.Left.{Dead, erased_by, erase_all}
use Rattle.pinned.proofs.Theorems.{refused_leaves, get_alters_nothing, freed_is_counted}
use Rattle.bindings.specs.WellFormed.{Lifeless, EndsAt, WellFormed, Bound}
use Rattle.bindings.specs.Calls.{Typed, image_after_all, SparesAll, OnlyCleared}
use Rattle.bindings.proofs.Images.{blank_not_stored}
use Rattle.bindings.proofs.Images as Images
use Rattle.bindings.proofs.Lookups.{found_live}
use Rattle.bindings.proofs.Outcomes.{removed, Removing, removing, Appending, appending}
use Rattle.bindings.proofs.Kept as Kept
use Rattle.bindings.proofs.Collects.{collect_done}
use Rattle.bindings.proofs.Broken as Broken
use Rattle.bindings.proofs.Anew.{initialise_appends, written_shape}
use Rattle.bindings.proofs.Answers as Answers
use Rattle.bindings.proofs.Lasting.{call_keeps, all_hold, read_most}
use Rattle.bindings.proofs.Bits as Bits
use Rattle.bindings.proofs.Sane.{call_sane}

-- R10.3: a blank chip is well-formed, and nothing is bound on it.
pub blank_well_formed : {s n : ℕ} → Shape s n → WellFormed s n (erased (n * s))
blank_well_formed h = Images.blank_well_formed h

pub blank_unbound : (s n key : ℕ) (value : List ℕ) → Bound s n (erased (n * s)) key value → ⊥
blank_unbound s n key value b = blank_not_stored s n b.region b.rec b.held.stored

-- R11.1: every call on a well-formed image leaves a well-formed image, answered or refused.
pub stays_well_formed : {s n : ℕ} {image : List ℕ} → WellFormed s n image → (c : Call) → Typed c → WellFormed s n (image_after c image s n)
stays_well_formed w c t = call_keeps w c t

-- R11.2: an append that answers Written adds its key with its value to the bindings, and alters no other.
pub append_adds : {s n : ℕ} {image : List ℕ} → WellFormed s n image → (key : ℕ) (value : List ℕ) → key < 2 ^ 64 → Bytes value
    → (append_of image s n key value).answer ≡ Ok Written
    → (key' : ℕ) (value' : List ℕ) → Bound s n (append_of image s n key value).image key' value' ↔ (((key' ≡ key) × (value' ≡ value)) ⊎ Bound s n image key' value')
append_adds {s} {n} {image} w key value k v h = go (append_of image s n key value) (appending image s n key value) h
  where
    go : (d : Done) → Appending image s n key value d → d.answer ≡ Ok Written
        → (key' : ℕ) (value' : List ℕ) → Bound s n d.image key' value' ↔ (((key' ≡ key) × (value' ≡ value)) ⊎ Bound s n image key' value')
    go d (Appending.early z e) h = absurd (let q : ◌≡◌ {A = ℕ} 0 1 = cc in omega arith)
    go d (Appending.there r x a e) h = absurd (let q : ◌≡◌ {A = ℕ} 0 1 = cc in omega arith)
    go d (Appending.bad f p a e) h = absurd (let q : ◌≡◌ {A = ℕ} 0 1 = cc in omega arith)
    go d (Appending.full seen a e q) h = absurd (let q : ◌≡◌ {A = ℕ} 0 1 = cc in omega arith)
    go d (Appending.unblank seen r o a e i y) h = absurd (let q : ◌≡◌ {A = ℕ} 0 1 = cc in omega arith)
    go d (Appending.wrote seen r o a e i y) h = Kept.append_binds w key value k v a seen e r o i y

-- R11.3: a removal that answers Written takes its key's binding away, and alters no other.
pub removal_takes : {s n : ℕ} {image : List ℕ} → WellFormed s n image → (how : Removal) (key : ℕ) → (remove_of how image s n key).answer ≡ Ok Written
    → (key' : ℕ) (value' : List ℕ) → Bound s n (remove_of how image s n key).image key' value' ↔ (Bound s n image key' value' × (key' ≡ key → ⊥))
removal_takes {s} {n} {image} w how key h = go (remove_of how image s n key) (removing how image s n key) h
  where
    go : (d : Done) → Removing how image s n key d → d.answer ≡ Ok Written
        → (key' : ℕ) (value' : List ℕ) → Bound s n d.image key' value' ↔ (Bound s n image key' value' × (key' ≡ key → ⊥))
    go d (Removing.not_hit z t) h = absurd (let q : ◌≡◌ {A = ℕ} 0 1 = cc in omega arith)
    go d (Removing.removes r x e) h = λ key' value'.
        let (l, q) = found_live w key None r x e in
        subst (λ (k : ℕ). Bound s n (removed how s image r x) key' value' ↔ (Bound s n image key' value' × (key' ≡ k → ⊥))) q (Kept.remove_unbinds w how r x l key' value')

-- R11.4: collect alters no binding, and it is not refused.
pub collection_alters_none : {s n : ℕ} {image : List ℕ} → WellFormed s n image
    → ((f : ℕ) × ((collect_of image s n).answer ≡ Ok (Freed f))) × ((key : ℕ) (value : List ℕ) → Bound s n (collect_of image s n).image key value ↔ Bound s n image key value)
collection_alters_none w = let (c, f) = collect_done w in (f, c.same)

-- R5.7: and its count is S times the number of regions erased: each region that held records, none of them live.
pub collection_counts : {s n : ℕ} {image : List ℕ} → WellFormed s n image
    → ((collect_of image s n).answer ≡ Ok (Freed (s * length (erased_by image s n)))) × ((q : ℕ) → Memᴰ q (erased_by image s n) ↔ ((q < n) × Dead (region_of s image q)))
collection_counts {s} {n} {image} w =
    let ((bytes, e), _) = collection_alters_none w in
    let (count, which, _) = freed_is_counted image s n bytes e in
    (e ∙ ap (λ (bytes : ℕ). Ok (Freed bytes)) count, which)

-- An initialise that answers Written is an append to a blank chip.
initialise_made : (image : List ℕ) (s n key : ℕ) → key < 2 ^ 64 → (initialise_of image s n key).answer ≡ Ok Written
    → WellFormed s n (initialise_of image s n key).image
    × ((key' : ℕ) (value' : List ℕ) → Bound s n (initialise_of image s n key).image key' value' ↔ ((key' ≡ key) × (value' ≡ [])))
initialise_made image s n key k h = subst Made (sym (ap (λ (d : Done). d.image) same)) (made (sym (ap (λ (d : Done). d.answer) same) ∙ h))
  where
    same : initialise_of image s n key ≡ append_of (erased (n * s)) s n key []
    same = initialise_appends image s n key h

    Made : List ℕ → Type 0
    Made image' = WellFormed s n image' × ((key' : ℕ) (value' : List ℕ) → Bound s n image' key' value' ↔ ((key' ≡ key) × (value' ≡ [])))

    made : (append_of (erased (n * s)) s n key []).answer ≡ Ok Written → Made (append_of (erased (n * s)) s n key []).image
    made e =
        let w = Images.blank_well_formed (written_shape (erased (n * s)) s n key [] e) in (
          call_keeps w (Call.append key []) (Typed.typed_append k no_bytes),
          λ key' value'. let adds = append_adds w key [] k no_bytes e key' value' in (
            λ b. ⊎_elim (λ p. p) (λ o. absurd (blank_unbound s n key' value' o)) (adds.0 b),
            λ p. adds.1 (inl p),
          ),
        )

-- R11.5: initialise that answers Written leaves a well-formed image, and the main key with an empty value is its only binding: whatever the
-- image was before, well-formed or not.
pub initialise_makes_well_formed : (image : List ℕ) (s n key : ℕ) → key < 2 ^ 64 → (initialise_of image s n key).answer ≡ Ok Written
    → WellFormed s n (initialise_of image s n key).image
    × ((key' : ℕ) (value' : List ℕ) → Bound s n (initialise_of image s n key).image key' value' ↔ ((key' ≡ key) × (value' ≡ [])))
initialise_makes_well_formed image s n key k h = initialise_made image s n key k h

-- R11.6: a refused call alters no binding, and no byte of the image. Get alters nothing, answered or refused.
pub refusal_alters_none : {s n : ℕ} {image : List ℕ} → WellFormed s n image → (c : Call) → 1 ≤ refusal (answer_of c image s n) → image_after c image s n ≡ image
refusal_alters_none {s} {n} {image} w (Call.get key buffer) h = get_alters_nothing key buffer image s n
refusal_alters_none {s} {n} {image} w (Call.append key value) h = refused_leaves (Call.append key value) image s n h
refusal_alters_none {s} {n} {image} w (Call.remove how key) h = refused_leaves (Call.remove how key) image s n h
refusal_alters_none {s} {n} {image} w Call.collect h = absurd (let ((bytes, e), _) = collection_alters_none w in let z : refusal (answer_of Call.collect image s n) ≡ 0 = ap refusal e in omega arith)
refusal_alters_none {s} {n} {image} w (Call.initialise key) h = refused_leaves (Call.initialise key) image s n h

-- R11.7: get of a bound key into a buffer long enough is Complete with its value. Into a shorter one: BufferTooSmall and its first bytes.
-- Of an unbound key: KeyNotFound, and the buffer stays.
pub get_finds : {s n : ℕ} {image : List ℕ} → WellFormed s n image → (key : ℕ) (value buffer : List ℕ) → Bound s n image key value → length value ≤ length buffer
    → get_of image s n key buffer ≡ record { answer = Ok (Complete (length value)); buffer = value ++ drop (length value) buffer }
get_finds w key value buffer b h = Answers.get_bound w key b buffer h

pub get_fills : {s n : ℕ} {image : List ℕ} → WellFormed s n image → (key : ℕ) (value buffer : List ℕ) → Bound s n image key value → length buffer < length value
    → get_of image s n key buffer ≡ record { answer = Err (Refusal.BufferTooSmall (length value)); buffer = take (length buffer) value }
get_fills w key value buffer b h = Answers.get_short w key b buffer h

pub get_misses : {s n : ℕ} {image : List ℕ} → WellFormed s n image → (key : ℕ) (buffer : List ℕ) → allowed_key key ≡ true → ((value : List ℕ) → Bound s n image key value → ⊥)
    → get_of image s n key buffer ≡ record { answer = Err Refusal.KeyNotFound; buffer = buffer }
get_misses w key buffer k none = Answers.get_unbound w key buffer k none

-- R11.7: append of a bound key is KeyAlreadyExists, and the image stays.
pub append_refuses : {s n : ℕ} {image : List ℕ} → WellFormed s n image → (key : ℕ) (held value : List ℕ) → Bound s n image key held → length value ≤ 4079
    → append_of image s n key value ≡ refused Refusal.KeyAlreadyExists image
append_refuses w key held value b l = Answers.append_bound w key b value l

-- R11.8: so a bound record is found, within N region reads, into a buffer long enough, until its own key is removed or initialise erases the
-- chip: any bound record, after any list of calls, with any arguments.
pub bound_is_found : {s n : ℕ} {image : List ℕ} → WellFormed s n image → (key : ℕ) (value : List ℕ) → Bound s n image key value
    → (calls : List Call) → SparesAll s n key image calls
    → (buffer : List ℕ) → length value ≤ length buffer
    → let later = image_after_all s n calls image in
    WellFormed s n later
    × Bound s n later key value
    × (get_of later s n key buffer ≡ record { answer = Ok (Complete (length value)); buffer = value ++ drop (length value) buffer })
    × (length (regions_read key None s later (probes key n)) ≤ n)
bound_is_found {s} {n} {image} w key value b calls p buffer l =
    let (last, held) = all_hold s n key value calls image w b p in (
      last,
      held,
      get_finds last key value buffer held l,
      rw (probes-length key n w.fits.shape.n_least) at (read_most unseen key None s (image_after_all s n calls image) (probes key n)),
    )

-- R11.8: a record that append has written is bound, so it is found after any list of calls.
pub stored_is_found : {s n : ℕ} {image : List ℕ} → WellFormed s n image → (key : ℕ) (value : List ℕ) → key < 2 ^ 64 → Bytes value
    → (append_of image s n key value).answer ≡ Ok Written
    → (calls : List Call) → SparesAll s n key (append_of image s n key value).image calls
    → (buffer : List ℕ) → length value ≤ length buffer
    → let later = image_after_all s n calls (append_of image s n key value).image in
    (get_of later s n key buffer ≡ record { answer = Ok (Complete (length value)); buffer = value ++ drop (length value) buffer })
    × (length (regions_read key None s later (probes key n)) ≤ n)
stored_is_found {s} {n} {image} w key value k v h calls p buffer l =
    let w' = call_keeps w (Call.append key value) (Typed.typed_append k v) in
    let b = (append_adds w key value k v h key value).1 (inl (refl, refl)) in
    let (_, _, found, reads) = bound_is_found w' key value b calls p buffer l in
    (found, reads)

-- R11.8: so is the main key's own record, of the empty value, after an initialise that answers Written, on any image.
pub initialised_is_found : (image : List ℕ) (s n key : ℕ) → key < 2 ^ 64 → (initialise_of image s n key).answer ≡ Ok Written
    → (calls : List Call) → SparesAll s n key (initialise_of image s n key).image calls
    → (buffer : List ℕ)
    → let later = image_after_all s n calls (initialise_of image s n key).image in
    WellFormed s n later
    × Bound s n later key []
    × (get_of later s n key buffer ≡ record { answer = Ok (Complete 0); buffer = buffer })
    × (length (regions_read key None s later (probes key n)) ≤ n)
initialised_is_found image s n key k h calls p buffer =
    let (w, bound) = initialise_made image s n key k h in
    bound_is_found w key [] ((bound key []).1 (refl, refl)) calls p buffer (omega arith)

-- R11.9: broken off among its erases, an operation leaves a well-formed image: whichever regions are erased, live records in them or not.
pub erases_keep : {s n : ℕ} {image : List ℕ} → WellFormed s n image → (rs : List ℕ) → Every (λ (q : ℕ). q < n) rs → WellFormed s n (erase_all s rs image)
erases_keep w rs h = Broken.erases_keep w rs h

-- R11.9: where none of these regions has a live record, the bindings stay too.
pub dead_erases_keep : {s n : ℕ} {image : List ℕ} → WellFormed s n image → (rs : List ℕ) → Every (Lifeless s n image) rs
    → WellFormed s n (erase_all s rs image) × ((key : ℕ) (value : List ℕ) → Bound s n (erase_all s rs image) key value ↔ Bound s n image key value)
dead_erases_keep w rs h = Broken.dead_erases_keep w rs h

-- R11.9: so a collect that is broken off after any number of its erases leaves a well-formed image, and alters no binding.
pub collect_broken : {s n : ℕ} {image : List ℕ} → WellFormed s n image → (k : ℕ)
    → WellFormed s n (erase_all s (take k (erased_by image s n)) image)
    × ((key : ℕ) (value : List ℕ) → Bound s n (erase_all s (take k (erased_by image s n)) image) key value ↔ Bound s n image key value)
collect_broken w k = Broken.collect_broken w k

-- R11.8: the August fault. The key's home region has no room left for the record; if append writes it all the same, it lies in another region,
-- and get finds it there.
pub spilled_is_found : {s n : ℕ} {image : List ℕ} → WellFormed s n image → (key : ℕ) (value : List ℕ) → key < 2 ^ 64 → Bytes value
    → (end : ℕ) → EndsAt (region_of s image (home key n)) end → s < end + record_length (length value)
    → (append_of image s n key value).answer ≡ Ok Written
    → ((b : Bound s n (append_of image s n key value).image key value) × (b.region ≡ home key n → ⊥))
    × ((buffer : List ℕ) → length value ≤ length buffer
    → get_of (append_of image s n key value).image s n key buffer ≡ record { answer = Ok (Complete (length value)); buffer = value ++ drop (length value) buffer })
spilled_is_found {s} {n} {image} w key value k v end full-end full h = go (append_of image s n key value) (appending image s n key value) h (call_keeps w (Call.append key value) (Typed.typed_append k v))
  where
    go : (d : Done) → Appending image s n key value d → d.answer ≡ Ok Written → WellFormed s n d.image
        → ((b : Bound s n d.image key value) × (b.region ≡ home key n → ⊥))
        × ((buffer : List ℕ) → length value ≤ length buffer
        → get_of d.image s n key buffer ≡ record { answer = Ok (Complete (length value)); buffer = value ++ drop (length value) buffer })
    go d (Appending.early z e) h w' = absurd (let q : ◌≡◌ {A = ℕ} 0 1 = cc in omega arith)
    go d (Appending.there r x a e) h w' = absurd (let q : ◌≡◌ {A = ℕ} 0 1 = cc in omega arith)
    go d (Appending.bad f p a e) h w' = absurd (let q : ◌≡◌ {A = ℕ} 0 1 = cc in omega arith)
    go d (Appending.full seen a e q) h w' = absurd (let q : ◌≡◌ {A = ℕ} 0 1 = cc in omega arith)
    go d (Appending.unblank seen r o a e i y) h w' = absurd (let q : ◌≡◌ {A = ℕ} 0 1 = cc in omega arith)
    go d (Appending.wrote seen r o a e i y) h w' =
        let b = Kept.new_bound w key value k v a seen e r o i y in
        let elsewhere : r ≡ home key n → ⊥ = λ p.
        let same : Stop.End o ≡ Stop.End end = sym y.ends ∙ ap (λ (q : ℕ). ending (region_of s image q)) p ∙ full-end in
        let place : o ≡ end = cc in
        omega (arith, y.enough, region-length w.fits i) in
        ((b, λ p. elsewhere (sym (Kept.new_region w key value k v a seen e r o i y) ∙ p)), λ buffer l. get_finds w' key value buffer b l)

-- R11.7: on a well-formed image UnsupportedVersion, CorruptData and InvalidCheckSum do not come, whatever is asked.
pub never_broken : {s n : ℕ} {image : List ℕ} → WellFormed s n image → (c : Call)
    → (refusal (answer_of c image s n) ≡ 7 → ⊥) × (refusal (answer_of c image s n) ≡ 8 → ⊥) × (refusal (answer_of c image s n) ≡ 10 → ⊥)
never_broken w c = let a = call_sane w c in (a.version, a.corrupt, a.sum)

-- R11.10: outside an erase no bit goes from 0 to 1: of every operation, on every image, well-formed or not. A write only clears.
pub write_only_clears : (image : List ℕ) (at : ℕ) (new : List ℕ) → OnlyCleared (written image at new) image
write_only_clears image at new = Bits.write_cleared image at new

pub append_only_clears : (image : List ℕ) (s n key : ℕ) (value : List ℕ) → OnlyCleared (append_of image s n key value).image image
append_only_clears image s n key value = Bits.append_only_clears image s n key value

pub removal_only_clears : (how : Removal) (image : List ℕ) (s n key : ℕ) → OnlyCleared (remove_of how image s n key).image image
removal_only_clears how image s n key = Bits.remove_only_clears how image s n key

-- R11.10: collect leaves each region as it was, or erased, and the image as long as it was.
pub collection_only_erases : (image : List ℕ) (s n r : ℕ)
    → (region_of s (collect_of image s n).image r ≡ region_of s image r) ⊎ (region_of s (collect_of image s n).image r ≡ erased s)
collection_only_erases image s n r = Bits.collect_erases image s n r

pub collection_keeps_length : (image : List ℕ) (s n : ℕ) → length (collect_of image s n).image ≡ length image
collection_keeps_length image s n = Bits.collect-length image s n

-- R11.10: initialise leaves the image as it was, or it is one write to the erased image, which only clears.
pub initialise_only_clears : (image : List ℕ) (s n key : ℕ)
    → ((initialise_of image s n key).image ≡ image) ⊎ ((initialise_of image s n key).image ≡ written (erased (n * s)) (home key n * s) (record_bytes key []))
initialise_only_clears image s n key = Bits.initialise_writes image s n key

pub initialise_keeps_length : (image : List ℕ) (s n key : ℕ) → length (initialise_of image s n key).image ≡ length image
initialise_keeps_length image s n key = Bits.initialise_length image s n key

-- R11.10, R1.3: what an erase may raise is just its region.
pub erase_raises_its_region : (s r : ℕ) (image : List ℕ) (k : ℕ) → (k < r * s) ⊎ (r * s + s ≤ k) → get_or (erase_region s r image) k 0 ≡ get_or image k 0
erase_raises_its_region s r image k h = erase_only s r image k h
