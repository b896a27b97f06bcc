-- Which regions a list of services erases, and what the image is once its first ones are done: so many of the erases, or all of it.
-- Assumes nothing.
use Prim.Native.Nat.{ℕ, zero, suc, ◌+◌, ◌*◌, ◌≤◌}
use native.Mathlib.Omega.{arith}
use mathlib.Core.Path.{◌≡◌, refl, sym, ◌∙◌, ap, subst}
use mathlib.Core.Bool.{Bool, true, false, cond}
use mathlib.Core.List.{List, [], ◌∷◌, ◌++◌, map, append-nil}
use mathlib.Core.Logic.{⊎_elim}
use lib.ListN.{length, take}
use Rattle.std.specs.Prelude.{Result, Ok, Err}
use Rattle.chip.specs.Chip.{erased}
use Rattle.chip.specs.Geometry.{geometry, region_of, erase_region, numbers}
use Rattle.chip.proofs.Image.{region_erased_other}
use Rattle.probe.specs.Probe.{probes}
use Rattle.format.specs.declared.Removal.{Removal}
use Rattle.refusals.specs.Refusals.{first_refusal}
use Rattle.lookup.specs.declared.Looked.{Looked}
use Rattle.lookup.specs.Turns.{lookup_in, regions_read, hit_by}
use Rattle.sweeping.specs.declared.Verdict.{Verdict}
use Rattle.sweeping.specs.Sweeps.{verdict}
use Rattle.plans.specs.Answers.{starts_anew}
use Rattle.plans.specs.declared.Aim.{Aim}
use Rattle.planning.specs.Planning.{need_of, append_plan, remove_plan, plan}
use Rattle.store.specs.Read.{get_of}
use Rattle.store.specs.Call.{Call, get, append, remove, collect, initialise}
use Rattle.pinned.specs.Left.{erased_on, erased_in, erase_all}
use Rattle.running.specs.declared.Request.{Request}
use Rattle.runs.specs.Services.{unless_refused, reads, edits, reads_and_edits, collect_services, anew_services, services, services_done, erases_in, erases_of}
use Rattle.runs.proofs.Plans.{services_on, services_one}
use Rattle.runs.proofs.Asks.{append_asks, anew_asks}
use Rattle.runs.proofs.Refuses.{first_anew}
use Rattle.refusals.specs.declared.Refusal.{Refusal}

-- A list in which a write is the last service, if there is one.
pub data LastWrite : List Request → Type 0 where
  nothing : LastWrite []
  a_write : {a e p : ℕ} → LastWrite (Request.Write a e p ∷ [])
  a_read : {r : ℕ} {qs : List Request} → LastWrite qs → LastWrite (Request.Read r ∷ qs)
  an_erase : {r : ℕ} {qs : List Request} → LastWrite qs → LastWrite (Request.Erase r ∷ qs)

-- The image once the first m of such a list are done.
pub data Middle (s : ℕ) (bytes : List ℕ) (qs : List Request) (image image' : List ℕ) : Type 0 where
  so_far : (k : ℕ) → image' ≡ erase_all s (take k (erases_in qs)) image → Middle s bytes qs image image'
  all_done : image' ≡ services_done s bytes qs image → Middle s bytes qs image image'

pub middle : (s : ℕ) (bytes : List ℕ) {qs : List Request} → LastWrite qs → (m : ℕ) (image : List ℕ) → Middle s bytes qs image (services_done s bytes (take m qs) image)
unfolding services_done erases_in erase_all
middle s bytes l zero image = so_far 0 refl
middle s bytes nothing (suc m) image = so_far 0 refl
middle s bytes a_write (suc zero) image = all_done refl
middle s bytes a_write (suc (suc m)) image = all_done refl
middle s bytes (a_read {r = r} {qs = qs} l) (suc m) image = go (middle s bytes l m image)
  where
    go : {image' : List ℕ} → Middle s bytes qs image image' → Middle s bytes (Request.Read r ∷ qs) image image'
    go (so_far k e) = so_far k e
    go (all_done e) = all_done e
middle s bytes (an_erase {r = r} {qs = qs} l) (suc m) image = go (middle s bytes l m (erase_region s r image))
  where
    go : {image' : List ℕ} → Middle s bytes qs (erase_region s r image) image' → Middle s bytes (Request.Erase r ∷ qs) image image'
    go (so_far k e) = so_far (suc k) e
    go (all_done e) = all_done e

-- Reads and erases before such a list.
reads_first : (xs : List ℕ) {qs : List Request} → LastWrite qs → LastWrite (map Request.Read xs ++ qs)
reads_first [] l = l
reads_first (x ∷ xs) l = a_read (reads_first xs l)

erases_first : (xs : List ℕ) {qs : List Request} → LastWrite qs → LastWrite (map Request.Erase xs ++ qs)
erases_first [] l = l
erases_first (x ∷ xs) l = an_erase (erases_first xs l)

reads_erase : (xs : List ℕ) (qs : List Request) → erases_in (map Request.Read xs ++ qs) ≡ erases_in qs
unfolding erases_in
reads_erase [] qs = refl
reads_erase (x ∷ xs) qs = reads_erase xs qs

erases_erase : (xs : List ℕ) (qs : List Request) → erases_in (map Request.Erase xs ++ qs) ≡ xs ++ erases_in qs
unfolding erases_in
erases_erase [] qs = refl
erases_erase (x ∷ xs) qs = ap (λ (l : List ℕ). x ∷ l) (erases_erase xs qs)

-- A list without an erase, in which a write comes last.
pub record Writes (qs : List Request) (xs : List ℕ) : Type 0 where
  pub last : LastWrite qs
  pub which : erases_in qs ≡ xs

none_erased : Writes [] []
unfolding erases_in
none_erased = record { last = nothing; which = refl }

one_write : (a e p : ℕ) → Writes (Request.Write a e p ∷ []) []
unfolding erases_in
one_write a e p = record { last = a_write; which = refl }

append_writes : (s len : ℕ) (looked : Looked) → Writes (edits s len (append_plan looked)) []
append_writes s len looked = ⊎_elim (λ e. rw e none_erased) (λ (r, o, e). rw e (one_write _ _ _)) (append_asks s len looked)

remove_writes : (how : Removal) (s : ℕ) (looked : Looked) → Writes (edits s 0 (remove_plan how (hit_by looked))) []
remove_writes how s (Looked.Live r x) = one_write _ _ _
remove_writes how s (Looked.Bad f p) = none_erased
remove_writes how s (Looked.Through seen) = none_erased

reads_then : (xs : List ℕ) {qs : List Request} {ys : List ℕ} → Writes qs ys → Writes (map Request.Read xs ++ qs) ys
reads_then xs {qs} w = record { last = reads_first xs w.last; which = reads_erase xs qs ∙ w.which }

-- behind the reads of an aim's lookup, and the edits of its plan
module _ (aim : Aim) (len key : ℕ) (image : List ℕ) (s n : ℕ) where
  abbrev which_read : List ℕ
  which_read = regions_read key (need_of aim len) s image (probes key n)

  abbrev ends_with : Looked
  ends_with = lookup_in key (need_of aim len) s image (probes key n)

  only_reads : Writes (reads aim len key image s n) []
  only_reads = subst (λ (qs : List Request). Writes qs []) (append-nil (map Request.Read which_read)) (reads_then which_read none_erased)

  reads_and : {qs : List Request} {ys : List ℕ} → Writes qs ys → Writes (reads aim len key image s n ++ qs) ys
  reads_and = reads_then which_read

  reads_and_edits_lem : ((looked : Looked) → Writes (edits s len (plan aim n looked)) []) → Writes (reads_and_edits aim len key image s n) []
  reads_and_edits_lem h = reads_then which_read (h ends_with)

anew_writes : (key s n : ℕ) → Writes (anew_services key s n) (numbers 0 n)
anew_writes key s n =
    let behind = reads_and_edits_lem Aim.Append 0 key (erased (n * s)) s n (append_writes s 0) in
    rw (anew_asks s n)
    (record { last = erases_first (numbers 0 n) behind.last; which = erases_erase (numbers 0 n) _ ∙ ap (λ (ys : List ℕ). numbers 0 n ++ ys) behind.which ∙ append-nil (numbers 0 n) })

-- Collect: an erase leaves the later regions, so each is judged as it was at first.
module _ (s : ℕ) (image : List ℕ) where
  collect_writes : (k r : ℕ) (image' : List ℕ) → ((q : ℕ) → r ≤ q → region_of s image' q ≡ region_of s image q)
      → Writes (collect_services s image' (numbers r k)) (erased_in s image (numbers r k))
  unfolding numbers collect_services erased_in erases_in
  collect_writes zero r image' same = none_erased
  collect_writes (suc k) r image' same =
      subst (λ (qs : List Request). Writes qs (erased_on (verdict r (region_of s image r)) r (erased_in s image (numbers (r + 1) k))))
      (sym (services_one s image' r (numbers (r + 1) k) ∙ ap (λ (region : List ℕ). Request.Read r ∷ services_on s image' r (numbers (r + 1) k) (verdict r region)) (same r (omega arith))))
      (go (verdict r (region_of s image r)) (λ image''. collect_writes k (r + 1) image''))
    where
      go : (v : Verdict)
          → ((image'' : List ℕ) → ((q : ℕ) → r + 1 ≤ q → region_of s image'' q ≡ region_of s image q) → Writes (collect_services s image'' (numbers (r + 1) k)) (erased_in s image (numbers (r + 1) k)))
          → Writes
          (Request.Read r ∷ services_on s image' r (numbers (r + 1) k) v)
          (erased_on v r (erased_in s image (numbers (r + 1) k)))
      go Verdict.Stands ih = let w = ih image' (λ q l. same q (omega arith)) in record { last = a_read w.last; which = w.which }
      go Verdict.Erase ih =
          let w = ih (erase_region s r image') (λ q l. region_erased_other s r image' q (λ e. omega arith) ∙ same q (omega arith)) in
          record { last = a_read (an_erase w.last); which = ap (λ (ys : List ℕ). r ∷ ys) w.which }
      go (Verdict.Bad f p) ih = record { last = a_read nothing; which = refl }

-- Every call.
unless_writes : (c : Result (Unit {0}) Refusal) {qs : List Request} {ys : List ℕ} → (c ≡ Ok tt → Writes qs ys) → ((w : _) → c ≡ Err w → ys ≡ []) → Writes (unless_refused c qs) ys
unless_writes (Ok u) h n = h refl
unless_writes (Err w) h n = rw (n w refl) none_erased

pub call_writes : (c : Call) (image : List ℕ) (s n : ℕ) → Writes (services c image s n) (erases_of c image s n)
unfolding services
call_writes (get key buffer) image s n = unless_writes (first_refusal image s n key 0) (λ e. only_reads Aim.Get 0 key image s n) (λ w e. refl)
call_writes (append key value) image s n = unless_writes (first_refusal image s n key (length value)) (λ e. reads_and_edits_lem Aim.Append (length value) key image s n (append_writes s (length value))) (λ w e. refl)
call_writes (remove how key) image s n = unless_writes (first_refusal image s n key 0) (λ e. reads_and_edits_lem (Aim.Remove how) 0 key image s n (remove_writes how s)) (λ w e. refl)
call_writes collect image s n = go (geometry image s n)
  where
    go : (t : Bool) → Writes (cond t (collect_services s image (numbers 0 n)) []) (cond t (erased_in s image (numbers 0 n)) [])
    go true = collect_writes s image n 0 image (λ q l. refl)
    go false = none_erased
call_writes (initialise key) image s n =
    unless_writes (first_refusal image s n key 0) (λ e. reads_and Aim.Initialise 0 key image s n (go (starts_anew (get_of image s n key []).answer)))
    (λ w e. ap (λ (t : Bool). cond t (numbers 0 n) []) (first_anew image s n key w e))
  where
    go : (t : Bool) → Writes (cond t (anew_services key s n) []) (cond t (numbers 0 n) [])
    go true = anew_writes key s n
    go false = none_erased
