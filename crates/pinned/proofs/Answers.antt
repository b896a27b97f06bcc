-- Each line of `When`, R6.1 to R6.10, refuses with its number and leaves what it should (`refused_when`), and a call that no line of it touches is
-- not refused (`reason`). The two directions of `exactly_when`, and what a refusal leaves, are made of these.
-- Assumes nothing.
use Prim.Native.Nat.{ℕ, zero, suc, ◌*◌, ◌≤◌}
use native.Mathlib.Omega.{arith}
use mathlib.Core.Path.{◌≡◌, refl, sym, ◌∙◌, ap, subst}
use mathlib.Core.Bool.{Bool, true, false}
use mathlib.Core.List.{List, []}
use mathlib.Core.Logic.{◌⊎◌, inl, inr, ⊎_elim}
use lib.Dec.{ltb}
use lib.ListN.{length}
use borrow.Author.Tests.{lt-ltb, le-ltb, ltb-true, ltb-false}
use Rattle.lookup.specs.Gather.{some_room}
use Rattle.std.specs.Prelude.{Result, Err, Option, Some, None, Ok}
use Rattle.chip.specs.Geometry.{region_of}
use Rattle.probe.specs.Probe.{probes}
use Rattle.format.specs.declared.Record.{Record}
use Rattle.format.specs.declared.Removal.{Removal}
use Rattle.format.specs.declared.Fault.{Fault}
use Rattle.format.specs.declared.Fault.TheVariants.{UnsupportedVersion, CorruptData}
use Rattle.format.specs.Layout.{record_length, check_sum_fits}
use Rattle.region.specs.Walk.{bytes_in, value_length}
use Rattle.refusals.specs.declared.Refusal.{Refusal}
use Rattle.lookup.specs.declared.Room.{Room}
use Rattle.lookup.specs.declared.Seen.{Seen}
use Rattle.lookup.specs.declared.Looked.{Looked}
use Rattle.lookup.specs.declared.Hit.{Hit}
use Rattle.refusals.specs.Refusals.{number, refusal_of}
use Rattle.lookup.specs.Turns.{hit_by, hit_of}
use Rattle.lookup.specs.Words.{first_room}
use Rattle.lookup.proofs.Scan.{room_from, room_cases}
use Rattle.plans.specs.declared.Success.TheVariants.{Complete}
use Rattle.plans.specs.Answers.{refusal, Answer}
use Rattle.plans.specs.Writes.{applied}
use Rattle.store.specs.Read.{Got, got_by, get_of}
use Rattle.store.specs.Write.{Done, refused, remove_by, remove_of}
use Rattle.store.specs.Call.{Call, get, append, remove, collect, initialise, outcome, answer_of}
use Rattle.pinned.specs.When.{Reads, Looks, get_looks, remove_looks, append_looks, MeetsBad, in_lookup, in_collect, When, Succeeds, get_completes, append_writes, remove_writes, collect_frees, initialise_finds, initialise_writes}
use Rattle.pinned.specs.Left.{erased_by, erase_all, left_by}
use Rattle.pinned.proofs.Early.{no_geometry, keyless, Early, early_view, early_refuses}
use Rattle.pinned.proofs.Swept.{Ended, ended, first_bad, is_first}
use Rattle.pinned.proofs.Lines.{line_some}
use Rattle.pinned.proofs.Calls.{ends, hit_is, got_live, removed_live, append_by_lem, append_placed, collect_is, initialise_left, initialise_anew}

module _ (image : List ℕ) (s n : ℕ) where
  -- Each line refuses with its number.

  pub record Refusing (k : ℕ) (c : Call) : Type 0 where
    pub why : Refusal
    pub number_is : number why ≡ k
    pub done : outcome c image s n ≡ refused why (left_by c image s n)

  early_left : (c : Call) {w : Refusal} → Early image s n c (Err w) → left_by c image s n ≡ image
  unfolding erase_all
  early_left (get key buffer) e = refl
  early_left (append key value) e = refl
  early_left (remove how key) e = refl
  early_left collect (Early.geometry_bad p) = rw (no_geometry image s n p)
  early_left collect (Early.key_bad f b) = absurd (keyless b)
  early_left collect (Early.too_large f b l) = absurd (omega arith)
  early_left (initialise key) e = refl

  early_refusing : {c : Call} {w : Refusal} → Early image s n c (Err w) → Refusing (number w) c
  early_refusing {c} {w} e = record { why = w; number_is = refl; done = early_refuses e ∙ ap (refused w) (sym (early_left c e)) }

  -- a lookup that ends image s n at no live record of the key
  by_hit : {c : Call} {key : ℕ} {w : Refusal} → Looks c key None → hit_of image s n key ≡ Err w → outcome c image s n ≡ refused w (left_by c image s n)
  unfolding get_of remove_of applied
  by_hit (get_looks {buffer = buffer}) h = ap (λ (hit : Result Hit Refusal). record { answer = (got_by s image buffer hit).answer; image = image }) h
  by_hit (remove_looks {how = how} {key = key}) h = ap (remove_by how s image key) h

  bad_done : {c : Call} (f : Fault) → Reads image s n c → MeetsBad image s n f c → outcome c image s n ≡ refused (refusal_of f) (left_by c image s n)
  unfolding applied
  bad_done f reads (in_lookup get_looks e) = by_hit get_looks (hit_is image s n reads get_looks ∙ ap hit_by e)
  bad_done f reads (in_lookup remove_looks e) = by_hit remove_looks (hit_is image s n reads remove_looks ∙ ap hit_by e)
  bad_done f reads (in_lookup append_looks e) = append_by_lem image s n reads e
  bad_done f reads (in_collect b) =
      collect_is image s n reads.fits
      ∙ ap (λ (a : Answer). record { answer = a; image = erase_all s (erased_by image s n) image }) (first_bad s image (s * length (erased_by image s n)) b)

  meets_bad : {c : Call} (f : Fault) → Reads image s n c → MeetsBad image s n f c → Refusing (number (refusal_of f)) c
  meets_bad f reads m = record { why = refusal_of f; number_is = refl; done = bad_done f reads m }

  pub refused_when : {k : ℕ} {c : Call} → When image s n k c → Refusing k c
  unfolding applied
  refused_when (When.bad_geometry h) = early_refusing (Early.geometry_bad h)
  refused_when (When.bad_key f b) = early_refusing (Early.key_bad f b)
  refused_when (When.object_too_large f b l) = early_refusing (Early.too_large f b l)
  refused_when (When.key_not_found reads looks e) =
      record { why = Refusal.KeyNotFound; number_is = refl; done = by_hit looks (hit_is image s n reads looks ∙ ap hit_by e) }
  refused_when (When.key_already_exists reads e) = record { why = Refusal.KeyAlreadyExists; number_is = refl; done = append_by_lem image s n reads e }
  refused_when (When.flash_full reads e f) = record { why = Refusal.FlashFull; number_is = refl; done = append_placed image s n reads e f }
  refused_when (When.unsupported_version reads m) = meets_bad UnsupportedVersion reads m
  refused_when (When.corrupt_data reads m) = meets_bad CorruptData reads m
  refused_when (When.place_not_blank {key} {value} {r = r} {o = o} {blank = blank} reads e f b) =
      let (_, roomy) = room_from (record_length (length value)) s image (probes key n) r o blank f in
      record { why = Refusal.CorruptData; number_is = refl; done = append_placed image s n reads e (f ∙ ap (some_room r o) (roomy.blankness ∙ b)) }
  refused_when (When.buffer_too_small {buffer = buffer} {x = x} reads e l) =
      record {
        why = Refusal.BufferTooSmall (value_length x);
        number_is = refl;
        done = ap (λ (g : Got). record { answer = g.answer; image = image }) (got_live image s n buffer reads e) ∙ rw (lt-ltb (length buffer) (value_length x) l);
      }
  refused_when (When.invalid_check_sum {buffer = buffer} {x = x} reads e l b) =
      record {
        why = Refusal.InvalidCheckSum;
        number_is = refl;
        done = ap (λ (g : Got). record { answer = g.answer; image = image }) (got_live image s n buffer reads e) ∙ rw (le-ltb (length buffer) (value_length x) l, b);
      }

  pub answered : {k : ℕ} {c : Call} → When image s n k c → refusal (answer_of c image s n) ≡ k
  answered w = let f = refused_when w in ap (λ (d : Done). refusal d.answer) f.done ∙ f.number_is

  -- How a call that reads ends image s n: a line refuses it, or it does its work.

  bad_line : {c : Call} (f : Fault) → Reads image s n c → MeetsBad image s n f c → (k : ℕ) × When image s n k c
  bad_line UnsupportedVersion reads m = (7, When.unsupported_version reads m)
  bad_line CorruptData reads m = (8, When.corrupt_data reads m)

  data Getting (key : ℕ) (buffer : List ℕ) : Type 0 where
    get_no : (k : ℕ) × When image s n k (get key buffer) → Getting key buffer
    gets : (r : ℕ) (x : Record) → ends image s n key None ≡ Looked.Live r x → value_length x ≤ length buffer → check_sum_fits (bytes_in (region_of s image r) x) ≡ true → Getting key buffer

  getting : (key : ℕ) (buffer : List ℕ) → Reads image s n (get key buffer) → Getting key buffer
  getting key buffer reads = go (ends image s n key None) refl
    where
      value : (r : ℕ) (x : Record) → ends image s n key None ≡ Looked.Live r x → (b : Bool) → ltb (length buffer) (value_length x) ≡ b → (d : Bool) → check_sum_fits (bytes_in (region_of s image r) x) ≡ d → Getting key buffer
      value r x e true p d q = get_no (9, When.buffer_too_small reads e (ltb-true _ _ p))
      value r x e false p false q = get_no (10, When.invalid_check_sum reads e (ltb-false _ _ p) q)
      value r x e false p true q = gets r x e (ltb-false _ _ p) q

      go : (l : Looked) → ends image s n key None ≡ l → Getting key buffer
      go (Looked.Live r x) e = value r x e (ltb (length buffer) (value_length x)) refl (check_sum_fits (bytes_in (region_of s image r) x)) refl
      go (Looked.Bad f p) e = get_no (bad_line f reads (in_lookup get_looks e))
      go (Looked.Through seen) e = get_no (4, When.key_not_found reads get_looks e)

  pub data Appending (key : ℕ) (value : List ℕ) : Type 0 where
    append_no : (k : ℕ) × When image s n k (append key value) → Appending key value
    appends : (seen : Seen) (r o : ℕ) → ends image s n key (Some (record_length (length value))) ≡ Looked.Through seen
        → first_room (record_length (length value)) s image (probes key n) ≡ some_room r o true → Appending key value

  pub appending : (key : ℕ) (value : List ℕ) → Reads image s n (append key value) → Appending key value
  appending key value reads = go (ends image s n key (Some (record_length (length value)))) refl
    where
      placing : (seen : Seen) → ends image s n key (Some (record_length (length value))) ≡ Looked.Through seen → (t : Option Room) → first_room (record_length (length value)) s image (probes key n) ≡ t → Appending key value
      placing seen e =
          room_cases
          (λ t. first_room (record_length (length value)) s image (probes key n) ≡ t → Appending key value)
          (λ f. append_no (6, When.flash_full reads e f))
          (λ r o f.
          let (_, roomy) = room_from (record_length (length value)) s image (probes key n) r o false f in
          append_no (8, When.place_not_blank reads e f (sym roomy.blankness)))
          (λ r o f. appends seen r o e f)

      go : (l : Looked) → ends image s n key (Some (record_length (length value))) ≡ l → Appending key value
      go (Looked.Live r x) e = append_no (5, When.key_already_exists reads e)
      go (Looked.Bad f p) e = append_no (bad_line f reads (in_lookup append_looks e))
      go (Looked.Through seen) e = placing seen e (first_room (record_length (length value)) s image (probes key n)) refl

  pub data Removing (how : Removal) (key : ℕ) : Type 0 where
    remove_no : (k : ℕ) × When image s n k (remove how key) → Removing how key
    removes : (r : ℕ) (x : Record) → ends image s n key None ≡ Looked.Live r x → Removing how key

  pub removing : (how : Removal) (key : ℕ) → Reads image s n (remove how key) → Removing how key
  removing how key reads = go (ends image s n key None) refl
    where
      go : (l : Looked) → ends image s n key None ≡ l → Removing how key
      go (Looked.Live r x) e = removes r x e
      go (Looked.Bad f p) e = remove_no (bad_line f reads (in_lookup remove_looks e))
      go (Looked.Through seen) e = remove_no (4, When.key_not_found reads remove_looks e)

  -- A call is not refused, or a line says why.

  abbrev Why : Call → Type 0
  Why c = (refusal (answer_of c image s n) ≡ 0) ⊎ ((k : ℕ) × When image s n k c)

  reads_why : (c : Call) → Reads image s n c → Why c
  reads_why (get key buffer) reads = go (getting key buffer reads)
    where
      go : Getting key buffer → Why (get key buffer)
      go (get_no w) = inr w
      go (gets r x e l q) = inl (ap (λ (g : Got). refusal g.answer) (got_live image s n buffer reads e) ∙ rw (le-ltb (length buffer) (value_length x) l, q))
  reads_why (append key value) reads = go (appending key value reads)
    where
      go : Appending key value → Why (append key value)
      go (append_no w) = inr w
      go (appends seen r o e f) = inl (ap (λ (d : Done). refusal d.answer) (append_placed image s n reads e f))
  reads_why (remove how key) reads = go (removing how key reads)
    where
      go : Removing how key → Why (remove how key)
      go (remove_no w) = inr w
      go (removes r x e) = inl (ap (λ (d : Done). refusal d.answer) (removed_live image s n reads e))
  reads_why collect reads = go (ended s image (s * length (erased_by image s n)) n 0) (ap (λ (d : Done). d.answer) (collect_is image s n reads.fits))
    where
      go : {a : Answer} → Ended s image (s * length (erased_by image s n)) 0 n a → answer_of collect image s n ≡ a → Why collect
      go (Ended.all h) e = inl (ap refusal e)
      go (Ended.ends_bad {f = f} w) e = inr (bad_line f reads (in_collect (is_first s image w)))
  reads_why (initialise key) reads = inl (go (refusal (answer_of (get key []) image s n)) refl)
    where
      go : (k : ℕ) → refusal (answer_of (get key []) image s n) ≡ k → refusal (answer_of (initialise key) image s n) ≡ 0
      go zero e = ap (λ (d : Done). refusal d.answer) (initialise_left image s n key e) ∙ e
      go (suc k) e = ap (λ (d : Done). refusal d.answer) (initialise_anew image s n key reads (omega arith))

  pub reason : (c : Call) → Why c
  reason c = go (early_view image s n c)
    where
      go : {check : Result (Unit {0}) Refusal} → Early image s n c check → Why c
      go (Early.geometry_bad h) = inr (1, When.bad_geometry h)
      go (Early.key_bad f b) = inr (2, When.bad_key f b)
      go (Early.too_large f b l) = inr (3, When.object_too_large f b l)
      go (Early.fine reads) = reads_why c reads

  -- A call that is not refused is touched by no line, and reads.

  pub not_refused : {k : ℕ} (c : Call) → refusal (answer_of c image s n) ≡ 0 → When image s n k c → ⊥
  not_refused c e w = omega (arith, answered w, (line_some w).0)

  pub reads_if : (c : Call) → refusal (answer_of c image s n) ≡ 0 → Reads image s n c
  reads_if c e = go (early_view image s n c)
    where
      go : {check : Result (Unit {0}) Refusal} → Early image s n c check → Reads image s n c
      go (Early.geometry_bad p) = absurd (not_refused c e (When.bad_geometry p))
      go (Early.key_bad p q) = absurd (not_refused c e (When.bad_key p q))
      go (Early.too_large p q t) = absurd (not_refused c e (When.object_too_large p q t))
      go (Early.fine reads) = reads

  -- The number that a call answers is 0, or a line has it.
  pub reason_number : (c : Call) → (refusal (answer_of c image s n) ≡ 0) ⊎ When image s n (refusal (answer_of c image s n)) c
  reason_number c = ⊎_elim inl (λ (k, w). inr (subst (λ (j : ℕ). When image s n j c) (sym (answered w)) w)) (reason c)

  -- Get that is not refused: a live record whose value the buffer takes, and its checksum is right.
  pub get_fine : (key : ℕ) (buffer : List ℕ) → refusal (answer_of (get key buffer) image s n) ≡ 0
      → Reads image s n (get key buffer)
      × ((r : ℕ) × (x : Record) × (ends image s n key None ≡ Looked.Live r x) × (value_length x ≤ length buffer) × (check_sum_fits (bytes_in (region_of s image r) x) ≡ true))
  get_fine key buffer z = let reads = reads_if (get key buffer) z in (reads, go (getting key buffer reads))
    where
      go : Getting key buffer
          → (r : ℕ) × (x : Record) × (ends image s n key None ≡ Looked.Live r x) × (value_length x ≤ length buffer) × (check_sum_fits (bytes_in (region_of s image r) x) ≡ true)
      go (get_no (k, w)) = absurd (not_refused (get key buffer) z w)
      go (gets r x e l q) = (r, x, e, l, q)

  -- What a call answers that is not refused.

  succeeds_by : {c : Call} {a : Answer} → Succeeds c a → answer_of c image s n ≡ a → Succeeds c (answer_of c image s n)
  succeeds_by {c} h e = subst (Succeeds c) (sym e) h

  get_succeeds : (key : ℕ) (buffer : List ℕ) → refusal (answer_of (get key buffer) image s n) ≡ 0 → (len : ℕ) × (answer_of (get key buffer) image s n ≡ Ok (Complete len))
  get_succeeds key buffer z =
      let (reads, found) = get_fine key buffer z in
      let (r, x, e, l, q) = found in
      (value_length x, ap (λ (g : Got). g.answer) (got_live image s n buffer reads e) ∙ rw (le-ltb (length buffer) (value_length x) l, q))

  pub succeeds : (c : Call) → refusal (answer_of c image s n) ≡ 0 → Succeeds c (answer_of c image s n)
  succeeds (get key buffer) z = succeeds_by get_completes (get_succeeds key buffer z).1
  succeeds (append key value) z = let reads = reads_if (append key value) z in go reads (appending key value reads)
    where
      go : Reads image s n (append key value) → Appending key value → Succeeds (append key value) (answer_of (append key value) image s n)
      go reads (append_no (k, w)) = absurd (not_refused (append key value) z w)
      go reads (appends seen r o e f) = succeeds_by append_writes (ap (λ (d : Done). d.answer) (append_placed image s n reads e f))
  succeeds (remove how key) z = let reads = reads_if (remove how key) z in go reads (removing how key reads)
    where
      go : Reads image s n (remove how key) → Removing how key → Succeeds (remove how key) (answer_of (remove how key) image s n)
      go reads (remove_no (k, w)) = absurd (not_refused (remove how key) z w)
      go reads (removes r x e) = succeeds_by remove_writes (ap (λ (d : Done). d.answer) (removed_live image s n reads e))
  succeeds collect z = let reads = reads_if collect z in go reads (ended s image (s * length (erased_by image s n)) n 0) (ap (λ (d : Done). d.answer) (collect_is image s n reads.fits))
    where
      go : {a : Answer} → Reads image s n collect → Ended s image (s * length (erased_by image s n)) 0 n a → answer_of collect image s n ≡ a → Succeeds collect (answer_of collect image s n)
      go reads (Ended.all h) e = succeeds_by collect_frees e
      go reads (Ended.ends_bad {f = f} w) e = absurd (not_refused collect z (bad_line f reads (in_collect (is_first s image w))).1)
  succeeds (initialise key) z = go (refusal (answer_of (get key []) image s n)) refl
    where
      go : (k : ℕ) → refusal (answer_of (get key []) image s n) ≡ k → Succeeds (initialise key) (answer_of (initialise key) image s n)
      go zero e = succeeds_by initialise_finds (ap (λ (d : Done). d.answer) (initialise_left image s n key e) ∙ (get_succeeds key [] e).1)
      go (suc k) e = succeeds_by initialise_writes (ap (λ (d : Done). d.answer) (initialise_anew image s n key (reads_if (initialise key) z) (omega arith)))
