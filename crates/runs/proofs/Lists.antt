-- The services of each operation, as lists: what it reads, and what it then writes or erases.
-- Assumes nothing.
use Prim.Native.Nat.{ℕ, zero, suc, ◌+◌, ◌*◌, ◌≤◌, ◌<◌}
use native.Mathlib.Nat.{add-zero, zero-add}
use native.Mathlib.Omega.{arith}
use mathlib.Core.Path.{◌≡◌, refl, sym, ◌∙◌, ap, subst}
use mathlib.Core.Bool.{Bool, true, false, cond}
use mathlib.Core.List.{List, [], ◌∷◌, ◌++◌, map, append-nil, Memᴰ}
use lib.ListN.{length}
use Rattle.std.specs.Prelude.{Result, Option, Some, None, Ok}
use Rattle.chip.specs.Chip.{erased}
use Rattle.chip.specs.Geometry.{Fits, region_of, erase_region, numbers}
use Rattle.chip.proofs.Image.{region_erased_other, fits_geometry, fits_blank}
use Rattle.probe.specs.Probe.{probes}
use Rattle.format.specs.declared.Record.{Record}
use Rattle.format.specs.declared.Fault.{Fault}
use Rattle.format.specs.declared.Removal.{Removal}
use Rattle.format.specs.Layout.{record_length, kill_place, kill_length}
use Rattle.region.specs.declared.Event.{Event}
use Rattle.region.specs.declared.Want.{Want}
use Rattle.region.specs.Walk.{event_in}
use Rattle.refusals.specs.Refusals.{first_refusal}
use Rattle.lookup.specs.declared.Room.{Room}
use Rattle.lookup.specs.declared.Seen.{Seen}
use Rattle.lookup.specs.declared.Looked.{Looked}
use Rattle.lookup.specs.Gather.{unseen, noted, some_room}
use Rattle.lookup.specs.Turns.{lookup_in, read_from, regions_read, hit_by}
use Rattle.lookup.specs.Words.{first_room, Passed}
use Rattle.lookup.proofs.Scan.{gathered_first, room_cases}
use Rattle.plans.specs.declared.Success.TheVariants.{Complete, Written, Freed}
use Rattle.plans.specs.declared.Aim.{Aim}
use Rattle.sweeping.specs.declared.Verdict.{Verdict}
use Rattle.sweeping.specs.Sweeps.{verdict_on, verdict}
use Rattle.plans.specs.Answers.{refusal, starts_anew, Answer}
use Rattle.planning.specs.Planning.{place_plan, append_plan, remove_plan}
use Rattle.store.specs.Read.{get_of}
use Rattle.store.specs.Write.{Done, append_of, initialise_of}
use Rattle.store.specs.Call.{get, append, remove, collect, initialise, answer_of}
use Rattle.pinned.specs.When.{Reads, NotBad, FirstBad, Succeeds}
use Rattle.pinned.specs.Words.{Decides, FirstRoom}
use Rattle.pinned.proofs.Early.{Early, early_is}
use Rattle.pinned.proofs.Lookups.{passed_end, live_is, bad_is, through_is, room_at}
use Rattle.pinned.proofs.Answers.{Appending, appending, append_no, appends, Removing, removing, remove_no, removes, reads_if, not_refused, succeeds}
use Rattle.pinned.proofs.Calls.{removed_live, append_placed}
use Rattle.pinned.proofs.Blank.{blank_append}
use Rattle.pinned.proofs.Swept.{Judged, judged}
use Rattle.pinned.proofs.Collected.{freed_all}
use Rattle.running.specs.declared.Request.{Request}
use Rattle.runs.specs.Services.{unless_refused, reads, edits, reads_and_edits, collect_services, anew_services, services, UpTo, live_decides, bad_decides, none_decides, Sweeps}
use Rattle.runs.proofs.Plans.{services_on, services_one}
use Rattle.runs.proofs.Asks.{anew_asks}
use Rattle.refusals.specs.declared.Refusal.{Refusal}

-- A lookup's reads.
module _ (image : List ℕ) (s key : ℕ) where
  -- behind a region that is passed
  passes : (need : Option ℕ) (seen : Seen) (q : ℕ) (rs : List ℕ) → Passed image s key q
      → (more : Seen) × (read_from seen key need s image (q ∷ rs) ≡ q ∷ read_from more key need s image rs)
  unfolding read_from
  passes need seen q rs h = let (o, e) = passed_end image s key q h in (noted seen need q (region_of s image q) o, rw e)

  all_read : (need : Option ℕ) (order : List ℕ) (seen : Seen) → ((q : ℕ) → Memᴰ q order → Passed image s key q) → read_from seen key need s image order ≡ order
  unfolding read_from
  all_read need [] seen h = refl
  all_read need (q ∷ rs) seen h =
      let (more, e) = passes need seen q rs (h q (Memᴰ.head refl)) in
      e ∙ ap (λ (l : List ℕ). q ∷ l) (all_read need rs more (λ p m. h p (Memᴰ.tail m)))

  read_to : (need : Option ℕ) (before rs : List ℕ) (r : ℕ) → ((q : ℕ) → Memᴰ q before → Passed image s key q)
      → ((seen : Seen) → read_from seen key need s image rs ≡ r ∷ []) → (seen : Seen) → read_from seen key need s image (before ++ rs) ≡ before ++ r ∷ []
  read_to need [] rs r h stops seen = stops seen
  read_to need (q ∷ before) rs r h stops seen =
      let (more, e) = passes need seen q (before ++ rs) (h q (Memᴰ.head refl)) in
      e ∙ ap (λ (l : List ℕ). q ∷ l) (read_to need before rs r (λ p m. h p (Memᴰ.tail m)) stops more)

  module _ (need : Option ℕ) (order : List ℕ) where
    reads_to : {r : ℕ} {e : Event} (d : Decides image s key order r e) → ((seen : Seen) → read_from seen key need s image (r ∷ d.after) ≡ r ∷ [])
        → regions_read key need s image order ≡ d.before ++ r ∷ []
    reads_to {r} d stops = ap (regions_read key need s image) d.split ∙ read_to need d.before (r ∷ d.after) r d.passed stops unseen

    reads_live : {r : ℕ} {x : Record} (d : Decides image s key order r (Event.Live x)) → regions_read key need s image order ≡ d.before ++ r ∷ []
    unfolding read_from
    reads_live d = reads_to d (λ seen. rw d.here)

    pub lookup_reads : UpTo image s key order (regions_read key need s image order)
    unfolding read_from
    lookup_reads = go (lookup_in key need s image order) refl
      where
        go : (l : Looked) → lookup_in key need s image order ≡ l → UpTo image s key order (regions_read key need s image order)
        go (Looked.Live r x) e = let d = (live_is image s key need order r x).0 e in rw (reads_live d) (live_decides d)
        go (Looked.Bad f p) e = let (r, o, q, d) = (bad_is image s key need order f p).0 e in rw (reads_to d (λ seen. rw d.here)) (bad_decides d)
        go (Looked.Through seen) e = let h = (through_is image s key need order).0 (seen, e) in rw (all_read need order unseen h) (none_decides h)

    pub reads_all : {seen : Seen} → lookup_in key need s image order ≡ Looked.Through seen → regions_read key need s image order ≡ order
    reads_all {seen} e = all_read need order unseen ((through_is image s key need order).0 (seen, e))

-- A call that reads is refused by none of 1, 2 and 3.
module _ (image : List ℕ) (s n key : ℕ) where
  unfold_get : (buffer : List ℕ) → Reads image s n (get key buffer) → services (get key buffer) image s n ≡ reads Aim.Get 0 key image s n
  unfolding services first_refusal
  unfold_get buffer h = ap (λ (c : Result (Unit {0}) Refusal). unless_refused c (reads Aim.Get 0 key image s n)) (early_is {c = get key buffer} (Early.fine h))

  unfold_append : (value : List ℕ) → Reads image s n (append key value) → services (append key value) image s n ≡ reads_and_edits Aim.Append (length value) key image s n
  unfolding services first_refusal
  unfold_append value h = ap (λ (c : Result (Unit {0}) Refusal). unless_refused c (reads_and_edits Aim.Append (length value) key image s n)) (early_is {c = append key value} (Early.fine h))

  unfold_remove : (how : Removal) → Reads image s n (remove how key) → services (remove how key) image s n ≡ reads_and_edits (Aim.Remove how) 0 key image s n
  unfolding services first_refusal
  unfold_remove how h = ap (λ (c : Result (Unit {0}) Refusal). unless_refused c (reads_and_edits (Aim.Remove how) 0 key image s n)) (early_is {c = remove how key} (Early.fine h))

  unfold_initialise : Reads image s n (initialise key)
      → services (initialise key) image s n ≡ services (get key []) image s n ++ cond (starts_anew (get_of image s n key []).answer) (anew_services key s n) []
  unfolding services first_refusal
  unfold_initialise h =
      let fine = early_is {c = initialise key} (Early.fine h) in
      let all : List Request = reads Aim.Initialise 0 key image s n in
      let anew : List Request = cond (starts_anew (get_of image s n key []).answer) (anew_services key s n) [] in
      ap (λ (c : Result (Unit {0}) Refusal). unless_refused c (all ++ anew)) fine ∙ ap (λ (c : Result (Unit {0}) Refusal). unless_refused c all ++ anew) (sym fine)

  pub get_list : (buffer : List ℕ) → Reads image s n (get key buffer)
      → (rs : List ℕ) × UpTo image s key (probes key n) rs × (services (get key buffer) image s n ≡ map Request.Read rs)
  get_list buffer h = (regions_read key None s image (probes key n), lookup_reads image s key None (probes key n), unfold_get buffer h)

  abbrev room : List ℕ → Option ℕ
  room value = Some (record_length (length value))

  pub append_list : (value : List ℕ) → answer_of (append key value) image s n ≡ Ok Written
      → (r : ℕ) × (o : ℕ) × FirstRoom image s (record_length (length value)) (probes key n) r o
      × (services (append key value) image s n ≡ map Request.Read (probes key n) ++ Request.Write o (o + record_length (length value)) (r * s + o) ∷ [])
  append_list value h = go (appending image s n key value reads)
    where
      reads : Reads image s n (append key value)
      reads = reads_if image s n (append key value) (ap refusal h)

      go : Appending image s n key value
          → (r : ℕ) × (o : ℕ) × FirstRoom image s (record_length (length value)) (probes key n) r o
          × (services (append key value) image s n ≡ map Request.Read (probes key n) ++ Request.Write o (o + record_length (length value)) (r * s + o) ∷ [])
      go (append_no (k, w)) = absurd (not_refused image s n (append key value) (ap refusal h) w)
      go (appends seen r o e f) =
          let place : seen.room ≡ some_room r o true = gathered_first key (record_length (length value)) s image (probes key n) e ∙ f in
          let wrote : edits s (length value) (append_plan (lookup_in key (room value) s image (probes key n))) ≡ Request.Write o (o + record_length (length value)) (r * s + o) ∷ [] =
          ap (λ (l : Looked). edits s (length value) (append_plan l)) e ∙ ap (λ (t : Option Room). edits s (length value) (place_plan t)) place in
          let looked : regions_read key (room value) s image (probes key n) ≡ probes key n = reads_all image s key (room value) (probes key n) e in
          (r, o, ((room_at image s (record_length (length value)) (probes key n) r o true).0 f).0, unfold_append value reads ∙ (λ i. map Request.Read (looked i) ++ wrote i))

  -- a refused one writes nothing
  pub append_no_list : (value : List ℕ) → Reads image s n (append key value) → 1 ≤ refusal (answer_of (append key value) image s n)
      → (rs : List ℕ) × UpTo image s key (probes key n) rs × (services (append key value) image s n ≡ map Request.Read rs)
  append_no_list value reads h = (
    regions_read key (room value) s image (probes key n),
    lookup_reads image s key (room value) (probes key n),
    unfold_append value reads ∙ ap (λ (l : List Request). map Request.Read (regions_read key (room value) s image (probes key n)) ++ l) (unwritten (lookup_in key (room value) s image (probes key n)) refl)
        ∙ append-nil (map Request.Read (regions_read key (room value) s image (probes key n))),
  )
    where
      placed : (seen : Seen) → lookup_in key (room value) s image (probes key n) ≡ Looked.Through seen → (t : Option Room) → first_room (record_length (length value)) s image (probes key n) ≡ t
          → edits s (length value) (place_plan t) ≡ []
      placed seen e =
          room_cases
          (λ t. first_room (record_length (length value)) s image (probes key n) ≡ t → edits s (length value) (place_plan t) ≡ [])
          (λ f. refl)
          (λ r o f. refl)
          (λ r o f. absurd (let z = ap (λ (d : Done). refusal d.answer) (append_placed image s n reads e f) in omega arith))

      unwritten : (l : Looked) → lookup_in key (room value) s image (probes key n) ≡ l → edits s (length value) (append_plan l) ≡ []
      unwritten (Looked.Live r x) e = refl
      unwritten (Looked.Bad f p) e = refl
      unwritten (Looked.Through seen) e =
          let place : seen.room ≡ first_room (record_length (length value)) s image (probes key n) = gathered_first key (record_length (length value)) s image (probes key n) e in
          ap (λ (t : Option Room). edits s (length value) (place_plan t)) place ∙ placed seen e (first_room (record_length (length value)) s image (probes key n)) refl

  -- The removals.
  pub remove_list : (how : Removal) → answer_of (remove how key) image s n ≡ Ok Written
      → (r : ℕ) × (x : Record) × (d : Decides image s key (probes key n) r (Event.Live x))
      × (services (remove how key) image s n ≡ map Request.Read (d.before ++ r ∷ []) ++ Request.Write (kill_place how x) (kill_place how x + kill_length how x) (r * s + kill_place how x) ∷ [])
  remove_list how h = go (removing image s n how key reads)
    where
      reads : Reads image s n (remove how key)
      reads = reads_if image s n (remove how key) (ap refusal h)

      go : Removing image s n how key
          → (r : ℕ) × (x : Record) × (d : Decides image s key (probes key n) r (Event.Live x))
          × (services (remove how key) image s n ≡ map Request.Read (d.before ++ r ∷ []) ++ Request.Write (kill_place how x) (kill_place how x + kill_length how x) (r * s + kill_place how x) ∷ [])
      go (remove_no (k, w)) = absurd (not_refused image s n (remove how key) (ap refusal h) w)
      go (removes r x e) =
          let d = (live_is image s key None (probes key n) r x).0 e in
          let looked : regions_read key None s image (probes key n) ≡ d.before ++ r ∷ [] = reads_live image s key None (probes key n) d in
          (r, x, d, unfold_remove how reads ∙ (λ i. map Request.Read (looked i) ++ edits s 0 (remove_plan how (hit_by (e i)))))

  pub remove_no_list : (how : Removal) → Reads image s n (remove how key) → 1 ≤ refusal (answer_of (remove how key) image s n)
      → (rs : List ℕ) × UpTo image s key (probes key n) rs × (services (remove how key) image s n ≡ map Request.Read rs)
  remove_no_list how fine h = (
    regions_read key None s image (probes key n),
    lookup_reads image s key None (probes key n),
    unfold_remove how fine ∙ ap (λ (l : List Request). map Request.Read (regions_read key None s image (probes key n)) ++ l) (unwritten (lookup_in key None s image (probes key n)) refl)
        ∙ append-nil (map Request.Read (regions_read key None s image (probes key n))),
  )
    where
      unwritten : (l : Looked) → lookup_in key None s image (probes key n) ≡ l → edits s 0 (remove_plan how (hit_by l)) ≡ []
      unwritten (Looked.Live r x) e = absurd (let z = ap (λ (d : Done). refusal d.answer) (removed_live image s n fine e) in omega arith)
      unwritten (Looked.Bad f p) e = refl
      unwritten (Looked.Through seen) e = refl

-- Initialise, by whether it starts anew.
module _ (image : List ℕ) (s n key : ℕ) where
  initialise_by_lem : (t : Bool) → starts_anew (get_of image s n key []).answer ≡ t
      → initialise_of image s n key ≡ cond t (append_of (erased (n * s)) s n key []) (record { answer = (get_of image s n key []).answer; image = image })
  unfolding initialise_of
  initialise_by_lem t e = ap (λ (b : Bool). cond b (append_of (erased (n * s)) s n key []) (record { answer = (get_of image s n key []).answer; image = image })) e

  abbrev Listed : Bool → Type 0
  Listed t = services (initialise key) image s n ≡ services (get key []) image s n ++ cond t (anew_services key s n) []

  by_anew : Reads image s n (initialise key) → {t : Bool} → starts_anew (get_of image s n key []).answer ≡ t → Listed t
  by_anew h e = subst Listed e (unfold_initialise image s n key h)

  pub initialise_list : (len : ℕ) → answer_of (initialise key) image s n ≡ Ok (Complete len) → services (initialise key) image s n ≡ services (get key []) image s n
  initialise_list len h = by_anew fine (go (starts_anew (get_of image s n key []).answer) refl) ∙ append-nil (services (get key []) image s n)
    where
      fine : Reads image s n (initialise key)
      fine = reads_if image s n (initialise key) (ap refusal h)

      go : (t : Bool) → starts_anew (get_of image s n key []).answer ≡ t → starts_anew (get_of image s n key []).answer ≡ false
      go false e = e
      go true e =
          let blank : answer_of (initialise key) image s n ≡ Ok Written =
          ap (λ (d : Done). d.answer) (initialise_by_lem true e) ∙ ap (λ (d : Done). d.answer) (blank_append fine.fits.shape key fine.key_good) in
          absurd (let z : ◌≡◌ {A = ℕ} 0 1 = cc in omega arith)

  pub initialise_anew_list : answer_of (initialise key) image s n ≡ Ok Written
      → services (initialise key) image s n ≡ services (get key []) image s n ++ (map Request.Erase (numbers 0 n) ++ services (append key []) (erased (n * s)) s n)
  initialise_anew_list h = by_anew fine (go (starts_anew (get_of image s n key []).answer) refl) ∙ ap (λ (l : List Request). services (get key []) image s n ++ l) anew_list
    where
      fine : Reads image s n (initialise key)
      fine = reads_if image s n (initialise key) (ap refusal h)

      -- its get answers Complete or refuses
      completes : {a : Answer} → Succeeds (get key []) a → a ≡ Ok Written → ⊥
      completes Succeeds.get_completes q = let z : ◌≡◌ {A = ℕ} 0 1 = cc in omega arith

      go : (t : Bool) → starts_anew (get_of image s n key []).answer ≡ t → starts_anew (get_of image s n key []).answer ≡ true
      go true e = e
      go false e =
          let answer : (get_of image s n key []).answer ≡ Ok Written = sym (ap (λ (d : Done). d.answer) (initialise_by_lem false e)) ∙ h in
          absurd (completes (succeeds image s n (get key []) (ap refusal answer)) answer)

      blank_reads : Reads (erased (n * s)) s n (append key [])
      blank_reads = record { fits = fits_blank fine.fits.shape; key_good = fine.key_good; not_large = omega arith }

      anew_list : anew_services key s n ≡ map Request.Erase (numbers 0 n) ++ services (append key []) (erased (n * s)) s n
      anew_list = λ i. anew_asks s n i ++ sym (unfold_append (erased (n * s)) s n key [] blank_reads) i

-- Collect: an erase leaves the later regions, so each is judged as it was at first.
module _ (s : ℕ) (image : List ℕ) where
  sweep_list : (k r : ℕ) (image' : List ℕ) → ((q : ℕ) → r ≤ q → region_of s image' q ≡ region_of s image q) → ((q : ℕ) → r ≤ q → q < r + k → NotBad (region_of s image q))
      → Sweeps s image (numbers r k) (collect_services s image' (numbers r k))
  unfolding numbers collect_services
  sweep_list zero r image' same good = Sweeps.none
  sweep_list (suc k) r image' same good =
      subst (Sweeps s image (r ∷ numbers (r + 1) k))
      (sym (services_one s image' r (numbers (r + 1) k) ∙ ap (λ (region : List ℕ). Request.Read r ∷ services_on s image' r (numbers (r + 1) k) (verdict r region)) (same r (omega arith))))
      (go (judged r (region_of s image r)) (good r (omega arith) (omega arith)) (λ image'' h. sweep_list k (r + 1) image'' h (λ q l m. good q (omega arith) (omega arith))))
    where
      go : {v : Verdict} → Judged r (region_of s image r) v → NotBad (region_of s image r)
          → ((image'' : List ℕ) → ((q : ℕ) → r + 1 ≤ q → region_of s image'' q ≡ region_of s image q) → Sweeps s image (numbers (r + 1) k) (collect_services s image'' (numbers (r + 1) k)))
          → Sweeps s image (r ∷ numbers (r + 1) k)
          (Request.Read r ∷ services_on s image' r (numbers (r + 1) k) v)
      go (Judged.stands d b) good ih = Sweeps.stood d (ih image' (λ q l. same q (omega arith)))
      go (Judged.erase d b) good ih = Sweeps.was_dead d (ih (erase_region s r image') (λ q l. region_erased_other s r image' q (λ e. omega arith) ∙ same q (omega arith)))
      go (Judged.bad {f = f} {o = o} e) good ih = absurd (good f o e)

  -- Up to a bad place: its region is read, and the list ends there.
  abbrev BadList : ℕ → ℕ → List Request → Type 0
  BadList r j asked = (qs : List Request) × Sweeps s image (numbers r j) qs × (asked ≡ qs ++ Request.Read (r + j) ∷ [])

  bad_list : (f : Fault) (o j m r : ℕ) (image' : List ℕ) → j < m → ((q : ℕ) → r ≤ q → region_of s image' q ≡ region_of s image q) → ((q : ℕ) → r ≤ q → q < r + j → NotBad (region_of s image q))
      → event_in (region_of s image (r + j)) Want.Any ≡ Event.Bad f o → BadList r j (collect_services s image' (numbers r m))
  unfolding numbers
  bad_list f o j zero r image' low same good bad = absurd (omega arith)
  bad_list f o zero (suc k) r image' low same good bad =
      let here : region_of s image' r ≡ region_of s image (r + 0) = same r (omega arith) ∙ ap (region_of s image) (sym (add-zero r)) in
      let says : verdict r (region_of s image' r) ≡ Verdict.Bad f (r * length (region_of s image (r + 0)) + o) = ap (verdict r) here ∙ ap (verdict_on r (region_of s image (r + 0))) bad in (
        [],
        Sweeps.none,
        services_one s image' r (numbers (r + 1) k) ∙ ap (λ (v : Verdict). Request.Read r ∷ services_on s image' r (numbers (r + 1) k) v) says
            ∙ ap (λ (q : ℕ). Request.Read q ∷ []) (sym (add-zero r)),
      )
  bad_list f o (suc j) (suc k) r image' low same good bad =
      subst (BadList r (suc j)) (sym (services_one s image' r rs ∙ ap (λ (region : List ℕ). Request.Read r ∷ services_on s image' r rs (verdict r region)) (same r (omega arith))))
      (go (judged r (region_of s image r)) (good r (omega arith) (omega arith))
      (λ image'' h. subst (λ (q : ℕ). (qs : List Request) × Sweeps s image (numbers (r + 1) j) qs × (collect_services s image'' rs ≡ qs ++ Request.Read q ∷ [])) shift
      (bad_list f o j k (r + 1) image'' (omega arith) h (λ q l m. good q (omega arith) (omega arith)) (subst (λ (q : ℕ). event_in (region_of s image q) Want.Any ≡ Event.Bad f o) (sym shift) bad))))
    where
      rs : List ℕ
      rs = numbers (r + 1) k

      shift : r + 1 + j ≡ r + suc j
      shift = omega arith

      Rest : List Request → Type 0
      Rest asked = (qs : List Request) × Sweeps s image (numbers (r + 1) j) qs × (asked ≡ qs ++ Request.Read (r + suc j) ∷ [])

      go : {v : Verdict} → Judged r (region_of s image r) v → NotBad (region_of s image r)
          → ((image'' : List ℕ) → ((q : ℕ) → r + 1 ≤ q → region_of s image'' q ≡ region_of s image q) → Rest (collect_services s image'' rs))
          → BadList r (suc j) (Request.Read r ∷ services_on s image' r rs v)
      go (Judged.stands d b) good ih =
          let (qs, swept, e) = ih image' (λ q l. same q (omega arith)) in
          (Request.Read r ∷ qs, Sweeps.stood d swept, ap (λ (l : List Request). Request.Read r ∷ l) e)
      go (Judged.erase d b) good ih =
          let (qs, swept, e) = ih (erase_region s r image') (λ q l. region_erased_other s r image' q (λ e. omega arith) ∙ same q (omega arith)) in
          (Request.Read r ∷ Request.Erase r ∷ qs, Sweeps.was_dead d swept, ap (λ (l : List Request). Request.Read r ∷ Request.Erase r ∷ l) e)
      go (Judged.bad {f = g} {o = p} e) good ih = absurd (good g p e)

pub collect_bad_list : {f : Fault} (image : List ℕ) (s n : ℕ) → Fits image s n → (b : FirstBad image s n f)
    → (qs : List Request) × Sweeps s image (numbers 0 b.region) qs × (services collect image s n ≡ qs ++ Request.Read b.region ∷ [])
unfolding services
collect_bad_list {f} image s n fits b =
    let r : ℕ = b.region in
    let l = bad_list s image f b.place r n 0 image b.inside (λ q l. refl) (λ q l m. b.first q (omega arith)) (rw (zero-add r) b.bad) in
    rw (fits_geometry fits)
    (subst (λ (q : ℕ). (qs : List Request) × Sweeps s image (numbers 0 r) qs × (collect_services s image (numbers 0 n) ≡ qs ++ Request.Read q ∷ [])) (zero-add r) l)

pub collect_list : (image : List ℕ) (s n bytes : ℕ) → answer_of collect image s n ≡ Ok (Freed bytes) → Sweeps s image (numbers 0 n) (services collect image s n)
unfolding services
collect_list image s n bytes h =
    let fits = (reads_if image s n collect (ap refusal h)).fits in
    let (_, good) = freed_all image s n fits h in
    rw (fits_geometry fits) (sweep_list s image n 0 image (λ q l. refl) (λ q l m. good q (omega arith)))
