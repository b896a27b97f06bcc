-- Every call comes, by its listed services, to the answer, the image and the buffer of the one-call form.
-- Assumes nothing.
use Prim.Native.Nat.{ℕ, zero, suc, ◌+◌, ◌-◌, ◌*◌, ◌≤◌}
use native.Mathlib.Nat.{sub-zero}
use native.Mathlib.Omega.{arith}
use mathlib.Core.Path.{◌≡◌, refl, sym, ◌∙◌, ap, subst}
use mathlib.Core.Bool.{Bool, true, false, ◌&&◌, cond}
use mathlib.Core.List.{List, [], ◌++◌, map, append-nil}
use lib.Dec.{eqb}
use lib.ListN.{length, take}
use borrow.Author.Tests.{eq-eqb}
use Rattle.lookup.proofs.Scan.{room_cases}
use Rattle.std.specs.Prelude.{Result, Ok, Option, None, Err}
use Rattle.chip.specs.Chip.{erased}
use Rattle.chip.specs.Every.{Every}
use Rattle.chip.specs.Geometry.{sized, geometry, Fits, region_of, erase_region, numbers}
use Rattle.chip.proofs.Image.{fits_geometry, fits_erased, fits_blank, erase_start, erase_next, erase_end}
use Rattle.probe.specs.Probe.{probes}
use Rattle.format.specs.declared.Removal.{Removal}
use Rattle.format.specs.declared.Fault.{Fault}
use Rattle.format.specs.Layout.{record_bytes}
use Rattle.refusals.specs.declared.Refusal.{Refusal}
use Rattle.lookup.specs.declared.Room.{Room}
use Rattle.lookup.specs.declared.Looked.{Looked}
use Rattle.lookup.specs.declared.Hit.{Hit}
use Rattle.refusals.specs.Refusals.{refusal_of, refusal_under, first_refusal}
use Rattle.lookup.specs.Turns.{lookup_in, hit_by, hit_after, hit_of, hits}
use Rattle.plans.specs.declared.Aim.{Aim}
use Rattle.plans.specs.declared.Lent.{Lent}
use Rattle.plans.specs.declared.Edit.{Edit}
use Rattle.plans.specs.declared.Edits.{Edits}
use Rattle.plans.specs.declared.Then.{Then}
use Rattle.plans.specs.declared.Plan.{Plan}
use Rattle.plans.specs.Answers.{starts_anew, Answer}
use Rattle.plans.specs.Writes.{value_lent, listed, applied, follows, look, ends}
use Rattle.plans.specs.Fits.{rests}
use Rattle.planning.specs.Planning.{need_of, anew, place_plan, append_plan, remove_plan, plan}
use Rattle.planning.proofs.Places.{by_place}
use Rattle.store.specs.Read.{Got, got_by, get_of}
use Rattle.store.specs.Write.{Done, refused, end_of, carried, append_after, append_of, remove_by, remove_of, initialise_of}
use Rattle.store.specs.Collect.{collect_in, collect_of}
use Rattle.store.specs.Call.{Call, get, append, remove, collect, initialise, answer_of, image_after}
use Rattle.running.specs.declared.Request.{Request}
use Rattle.running.specs.Starts.{start_refusal}
use Rattle.runs.specs.Host.{Lends, lends_get, lends_append, lends_remove, lends_collect, lends_initialise, buffer_of}
use Rattle.runs.specs.Services.{unless_refused, reads, edits, reads_and_edits, collect_services, anew_services, services, hit_bytes, bytes_written}
use Rattle.stepwise.specs.Begins.{key_carried, lent_of, first_of}
use Rattle.stepwise.proofs.Forms.{given_rests, filled_rests}
use Rattle.runs.proofs.Rests.{own}
use Rattle.runs.proofs.Comes.{Out, out, Comes, over}
use Rattle.runs.proofs.Plans.{Near, near_live, near_bad, near_end, All_serve, Planned, does, carries, looks, sweeps}

-- what a call in one piece leaves, with the buffer as it was
abbrev pub leaves : Done → List ℕ → Out
leaves done buffer = out done.answer done.image buffer

-- A plan that ends with an answer.
abbrev Answers : Plan → Type 0
Answers p = p.next ≡ Then.Ends (end_of p.next)

module _ (s n key : ℕ) (lent : Lent) (value bytes : List ℕ) (least : 1 ≤ n) where
  -- A lookup for an aim whose plans end with an answer, and the plan.
  carries_out : (aim : Aim) → ((looked : Looked) → Answers (plan aim n looked)) → (image buffer : List ℕ)
      → ((looked : Looked) → lookup_in key (need_of aim (value_lent lent)) s image (probes key n) ≡ looked → All_serve s n key lent value bytes (listed (plan aim n looked).edits))
      → Comes s n key lent value bytes (follows (look aim)) image buffer (reads_and_edits aim (value_lent lent) key image s n)
      (leaves (carried s key (own s n key lent value) image (plan aim n (lookup_in key (need_of aim (value_lent lent)) s image (probes key n)))) buffer)
  carries_out aim answers image buffer serving = looks s n key lent value bytes aim image buffer least _ _ closing
    where
      whole : Looked
      whole = lookup_in key (need_of aim (value_lent lent)) s image (probes key n)

      Carried : ℕ → Looked → Looked → Type 0
      Carried r looked done =
          Planned s n key lent value bytes aim image buffer least (edits s (value_lent lent) (plan aim n done)) (leaves (carried s key (own s n key lent value) image (plan aim n done)) buffer) r looked

      closing : (r : ℕ) (looked : Looked) → whole ≡ looked → Near r looked → Carried r looked whole
      closing r looked e near =
          let p : Plan = plan aim n looked in
          let region : List ℕ = region_of s image r in
          let calm : rests None p.next ≡ true = rw (answers looked) in
          subst (Carried r looked) (sym e)
          (rw (given_rests n lent region None p calm, filled_rests n lent region None p calm buffer) (carries s n key lent value bytes p image buffer (serving looked e) (answers looked)))

-- append's plans and the removals'
place_answers : (place : Option Room) → Answers (place_plan place)
place_answers =
    room_cases
    (λ place. Answers (place_plan place))
    refl
    (λ r o. refl)
    (λ r o. refl)

append_answers : (looked : Looked) → Answers (append_plan looked)
append_answers (Looked.Live r x) = refl
append_answers (Looked.Bad f p) = refl
append_answers (Looked.Through seen) = by_place Answers place_answers seen

remove_answers : (how : Removal) (looked : Looked) → Answers (remove_plan how (hit_by looked))
remove_answers how (Looked.Live r x) = refl
remove_answers how (Looked.Bad f p) = refl
remove_answers how (Looked.Through seen) = refl

-- The bytes of their writes are those of the call, or of the record that was found; an erase has none.
module _ (s n key : ℕ) (lent : Lent) (value : List ℕ) where
  place_serves : (place : Option Room) → All_serve s n key lent value (record_bytes key (own s n key lent value)) (listed (place_plan place).edits)
  place_serves =
      room_cases
      (λ place. All_serve s n key lent value (record_bytes key (own s n key lent value)) (listed (place_plan place).edits))
      Every.none
      (λ r o. Every.none)
      (λ r o. Every.also (λ image. refl) Every.none)

  append_serves : (looked : Looked) → All_serve s n key lent value (record_bytes key (own s n key lent value)) (listed (append_plan looked).edits)
  append_serves (Looked.Live r x) = Every.none
  append_serves (Looked.Bad f p) = Every.none
  append_serves (Looked.Through seen) = by_place (λ (p : Plan). All_serve s n key lent value (record_bytes key (own s n key lent value)) (listed p.edits)) place_serves seen

  remove_serves : (how : Removal) (looked : Looked) → All_serve s n key lent value (hit_bytes how (hit_by looked)) (listed (remove_plan how (hit_by looked)).edits)
  remove_serves how (Looked.Live r x) = Every.also (λ image. refl) Every.none
  remove_serves how (Looked.Bad f p) = Every.none
  remove_serves how (Looked.Through seen) = Every.none

  erases_serve : (bytes : List ℕ) (i k : ℕ) → All_serve s n key lent value bytes (map Edit.Erase (numbers i k))
  unfolding numbers
  erases_serve bytes i zero = Every.none
  erases_serve bytes i (suc k) = Every.also (λ image. refl) (erases_serve bytes (i + 1) k)

-- Refusals 1, 2 and 3 are those of the start, on an image of the chip's size.
pub first_same : (image : List ℕ) (s n key len : ℕ) → length image ≡ n * s → first_refusal image s n key len ≡ start_refusal s n key len
unfolding first_refusal start_refusal geometry
first_same image s n key len e = ap (λ (t : Bool). refusal_under t key len) (go (sized s n))
  where
    go : (t : Bool) → (t && eqb (length image) (n * s)) ≡ t
    go true = eq-eqb (length image) (n * s) e
    go false = refl

first_fine : {image : List ℕ} {s n : ℕ} (key len : ℕ) → Fits image s n → start_refusal s n key len ≡ Ok tt → first_refusal image s n key len ≡ Ok tt
first_fine {image} {s} {n} key len f h = first_same image s n key len f.size ∙ h

-- What the lookup's end is to get, the removals and initialise.
module _ (image : List ℕ) (s n key : ℕ) (fine : first_refusal image s n key 0 ≡ Ok tt) where
  hit_is : hit_by (lookup_in key None s image (probes key n)) ≡ hit_of image s n key
  unfolding hit_of
  hit_is = ap (hit_after image s n key) (sym fine)

  got_is : (buffer : List ℕ) {looked : Looked} → lookup_in key None s image (probes key n) ≡ looked → got_by s image buffer (hit_by looked) ≡ get_of image s n key buffer
  unfolding get_of
  got_is buffer e = ap (got_by s image buffer) (ap hit_by (sym e) ∙ hit_is)

-- Where no refusal is known before, the services are those that are asked for.
fine_comes : {s n key : ℕ} {lent : Lent} {value bytes : List ℕ} {p : Plan} {image buffer : List ℕ} {c : Result (Unit {0}) Refusal} (asked : List Request) (o : Result (Unit {0}) Refusal → Out) → c ≡ Ok tt
    → Comes s n key lent value bytes p image buffer asked (o (Ok tt)) → Comes s n key lent value bytes p image buffer (unless_refused c asked) (o c)
fine_comes {s} {n} {key} {lent} {value} {bytes} {p} {image} {buffer} asked o fine h =
    subst (λ (c : Result (Unit {0}) Refusal). Comes s n key lent value bytes p image buffer (unless_refused c asked) (o c)) (sym fine) h

-- get's reads, which are initialise's
abbrev get_reads : ℕ → List ℕ → ℕ → ℕ → List Request
get_reads key image s n = reads Aim.Get 0 key image s n

-- Get.
module _ (s n key : ℕ) (value image buffer : List ℕ) (f : Fits image s n) (fine : first_refusal image s n key 0 ≡ Ok tt) where
  abbrev gotten : Got → Out
  gotten g = out g.answer image g.buffer

  abbrev Getting : Out → ℕ → Looked → Type 0
  Getting o r looked = Planned s n key (Lent.Buffer (length buffer)) value [] Aim.Get image buffer f.shape.n_least [] o r looked

  get_ends : (r : ℕ) (looked : Looked) → Near r looked → Getting (gotten (got_by s image buffer (hit_by looked))) r looked
  get_ends r looked near_live = over refl
  get_ends r looked near_bad = over refl
  get_ends r looked near_end = over refl

  get_comes : Comes s n key (Lent.Buffer (length buffer)) value [] (follows (first_of (get key buffer))) image buffer (get_reads key image s n) (gotten (get_of image s n key buffer))
  get_comes =
      subst (λ (rs : List Request). Comes s n key (Lent.Buffer (length buffer)) value [] (follows (first_of (get key buffer))) image buffer rs (gotten (get_of image s n key buffer)))
      (append-nil (get_reads key image s n))
      (looks s n key (Lent.Buffer (length buffer)) value [] _ image buffer f.shape.n_least [] (gotten (get_of image s n key buffer))
      (λ r looked e near. subst (λ (g : Got). Getting (gotten g) r looked) (got_is image s n key fine buffer e) (get_ends r looked near)))

-- Initialise: where it must erase, all regions in number order, and then append's services on the blank image.
wiped : (s n key : ℕ) (value : List ℕ) (d i : ℕ) (image : List ℕ) → i + d ≡ n → Fits image s n → take (i * s) image ≡ erased (i * s)
    → applied s key value (map Edit.Erase (numbers i d)) image ≡ erased (n * s)
unfolding applied numbers
wiped s n key value zero i image h f e =
    let last : i ≡ n = omega arith in
    erase_end f (ap (λ (m : ℕ). take (m * s) image) (sym last) ∙ e ∙ ap (λ (m : ℕ). erased (m * s)) last)
wiped s n key value (suc d) i image h f e = wiped s n key value d (i + 1) (erase_region s i image) (omega arith) (fits_erased f i) (erase_next f (omega arith) e)

module _ (s n key : ℕ) (value image buffer : List ℕ) (f : Fits image s n) where
  abbrev blank : List ℕ
  blank = erased (n * s)

  -- the append of an empty value to the blank image
  abbrev appended : Done
  appended = append_after blank s n key [] (Ok tt)

  -- the main key's record
  abbrev main : List ℕ
  main = record_bytes key []

  anew_comes : Comes s n key Lent.Nothing value main (anew n) image buffer (anew_services key s n) (leaves appended buffer)
  anew_comes =
      let bare : applied s key [] (listed (Edits.Erases 0 n)) image ≡ blank =
      ap (λ (m : ℕ). applied s key [] (map Edit.Erase (numbers 0 m)) image) (sub-zero n) ∙ wiped s n key [] n 0 image (omega arith) f (erase_start f) in
      does s n key Lent.Nothing value main (anew n).next buffer _ (leaves appended buffer) (Edits.Erases 0 n) image (erases_serve s n key Lent.Nothing value main 0 (n - 0))
      (rw bare (carries_out s n key Lent.Nothing value main f.shape.n_least _ append_answers blank buffer (λ looked e. append_serves s n key Lent.Nothing value looked)))

  -- by whether it must
  renews : (t : Bool) (answer : Answer)
      → Comes s n key Lent.Nothing value main (cond t (anew n) (ends answer)) image buffer (cond t (anew_services key s n) []) (leaves (cond t appended (record { answer = answer; image = image })) buffer)
  renews true answer = anew_comes
  renews false answer = over refl

  -- a lookup that finds no record is one of refusals 4, 7 and 8
  fault_renews : (g : Fault) → starts_anew (Err (refusal_of g)) ≡ true
  fault_renews Fault.UnsupportedVersion = refl
  fault_renews Fault.CorruptData = refl

  abbrev Initialised : ℕ → Looked → Answer → Type 0
  Initialised r looked answer =
      Planned s n key Lent.Nothing value main Aim.Initialise image buffer f.shape.n_least (cond (starts_anew answer) (anew_services key s n) [])
      (leaves (cond (starts_anew answer) appended (record { answer = answer; image = image })) buffer) r looked

  initialise_ends : (r : ℕ) (looked : Looked) → Near r looked → Initialised r looked (got_by s image [] (hit_by looked)).answer
  initialise_ends r looked (near_live {x = x}) = let answer : Answer = (got_by s image [] (hits r x)).answer in renews (starts_anew answer) answer
  initialise_ends r (Looked.Bad g p) near_bad = rw (fault_renews g) anew_comes
  initialise_ends r looked near_end = anew_comes

  module _ (fine : first_refusal image s n key 0 ≡ Ok tt) where
    abbrev first_answer : Answer
    first_answer = (get_of image s n key []).answer

    initialise_comes : Comes s n key Lent.Nothing value main (follows (first_of (initialise key))) image buffer
        (get_reads key image s n ++ cond (starts_anew first_answer) (anew_services key s n) [])
        (leaves (cond (starts_anew first_answer) appended (record { answer = first_answer; image = image })) buffer)
    initialise_comes =
        looks s n key Lent.Nothing value main _ image buffer f.shape.n_least _ _
        (λ r looked e near. subst (Initialised r looked) (ap (λ (g : Got). g.answer) (got_is image s n key fine [] e)) (initialise_ends r looked near))

-- Every call.
abbrev pub out_of : Call → List ℕ → ℕ → ℕ → List ℕ → Out
out_of c image s n buffer = out (answer_of c image s n) (image_after c image s n) (buffer_of c image s n buffer)

pub comes : (c : Call) (s n : ℕ) (value image buffer : List ℕ) → Fits image s n → Lends c value buffer → start_refusal s n (key_carried c) (value_lent (lent_of c)) ≡ Ok tt
    → Comes s n (key_carried c) (lent_of c) value (bytes_written c image s n) (follows (first_of c)) image buffer (services c image s n) (out_of c image s n buffer)
unfolding services append_of remove_of collect_of initialise_of
comes (get key same) s n value image buffer f lends_get h =
    let fine = first_fine key 0 f h in
    fine_comes _ (λ (c : Result (Unit {0}) Refusal). out_of (get key buffer) image s n buffer) fine (get_comes s n key value image buffer f fine)
comes (append key same) s n value image buffer f lends_append h =
    fine_comes _ (λ (c : Result (Unit {0}) Refusal). leaves (append_after image s n key value c) buffer) (first_fine key (length value) f h)
    (carries_out s n key (Lent.Value (length value)) value _ f.shape.n_least _ append_answers image buffer (λ looked e. append_serves s n key (Lent.Value (length value)) value looked))
comes (remove how key) s n value image buffer f lends_remove h =
    let fine = first_fine key 0 f h in
    fine_comes _ (λ (c : Result (Unit {0}) Refusal). leaves (remove_by how s image key (hit_of image s n key)) buffer) fine
    (subst (Comes s n key Lent.Nothing value (bytes_written (remove how key) image s n) (follows (first_of (remove how key))) image buffer _)
    (ap (λ (hit : Result Hit Refusal). leaves (remove_by how s image key hit) buffer) (hit_is image s n key fine))
    (carries_out s n key Lent.Nothing value _ f.shape.n_least _ (remove_answers how) image buffer
    (λ looked e. rw (sym (hit_is image s n key fine), e) (remove_serves s n key Lent.Nothing value how looked))))
comes collect s n value image buffer f lends_collect h =
    subst
    (λ (t : Bool). Comes s n 1 Lent.Nothing value [] (follows (Then.Sweep 0 0)) image buffer (cond t (collect_services s image (numbers 0 n)) [])
    (leaves (cond t (collect_in s image 0 (numbers 0 n)) (refused Refusal.BadGeometry image)) buffer))
    (sym (fits_geometry f)) (sweeps s n 1 Lent.Nothing value [] buffer image f.shape.n_least)
comes (initialise key) s n value image buffer f lends_initialise h =
    let answer : Answer = (get_of image s n key []).answer in
    let done : Result (Unit {0}) Refusal → Out = λ d. leaves (cond (starts_anew answer) (append_after (erased (n * s)) s n key [] d) (record { answer = answer; image = image })) buffer in
    let fine = first_fine key 0 f h in
    let clean = first_fine key 0 (fits_blank f.shape) h in
    fine_comes _ (λ (c : Result (Unit {0}) Refusal). done (first_refusal (erased (n * s)) s n key 0)) fine
    (subst (Comes s n key Lent.Nothing value (record_bytes key []) (follows (first_of (initialise key))) image buffer _) (ap done (sym clean)) (initialise_comes s n key value image buffer f fine))
