-- How many services a call takes at most: a lookup reads each region of the probe order once at most, collect reads and erases each once at most.
-- Assumes nothing.
use Prim.Native.Nat.{ℕ, suc, ◌+◌, ◌-◌, ◌*◌, ◌≤◌}
use native.Mathlib.Nat.{sub-zero}
use native.Mathlib.Omega.{arith}
use mathlib.Core.Path.{◌≡◌, refl}
use mathlib.Core.Bool.{Bool, true, false, cond}
use mathlib.Core.List.{List, [], ◌∷◌, ◌++◌, map}
use lib.ListN.{length, length-append, length-map}
use Rattle.std.specs.declared.ops.ControlFlow.TheVariants.{Break, Continue}
use Rattle.std.specs.declared.ops.ControlFlow.{ControlFlow}
use Rattle.std.specs.Prelude.{Result, Ok, Err, Option, Some, None}
use Rattle.lookup.proofs.Scan.{room_cases}
use Rattle.chip.specs.Chip.{erased}
use Rattle.chip.specs.Geometry.{geometry, Fits, region_of, erase_region, numbers}
use Rattle.chip.proofs.Image.{geometry_fits}
use Rattle.probe.specs.Probe.{probes}
use Rattle.probe.proofs.Theorems.{probes-length}
use Rattle.format.specs.declared.Removal.{Removal}
use Rattle.format.specs.Layout.{record_length}
use Rattle.lookup.specs.declared.Room.{Room}
use Rattle.lookup.specs.declared.Seen.{Seen}
use Rattle.lookup.specs.declared.Looked.{Looked}
use Rattle.refusals.specs.Refusals.{refusal_under, first_refusal}
use Rattle.lookup.specs.Turns.{turn_of, on_turn, lookup_in, read_from, regions_read, hit_by}
use Rattle.lookup.specs.Gather.{unseen}
use Rattle.plans.specs.declared.Edit.{Edit}
use Rattle.plans.specs.declared.Plan.{Plan}
use Rattle.sweeping.specs.declared.Verdict.{Verdict}
use Rattle.plans.specs.Answers.{starts_anew}
use Rattle.plans.specs.Writes.{listed}
use Rattle.planning.specs.Planning.{anew, place_plan, append_plan, remove_plan}
use Rattle.sweeping.specs.Sweeps.{verdict}
use Rattle.planning.proofs.Places.{by_place}
use Rattle.store.specs.Read.{get_of}
use Rattle.store.specs.Call.{Call, get, append, remove, collect, initialise}
use Rattle.running.specs.declared.Request.{Request}
use Rattle.running.specs.Waits.{request_edit}
use Rattle.stepwise.specs.Ahead.{most}
use Rattle.stepwise.proofs.Falls.{numbers-length}
use Rattle.runs.specs.Services.{unless_refused, edits, collect_services, anew_services, services}
use Rattle.refusals.specs.declared.Refusal.{Refusal}

read_bound : (seen : Seen) (key : ℕ) (need : Option ℕ) (s : ℕ) (image rs : List ℕ) → length (read_from seen key need s image rs) ≤ length rs
unfolding read_from
read_bound seen key need s image [] = omega arith
read_bound seen key need s image (r ∷ rs) = go (turn_of seen key need r (region_of s image r)) (λ more. read_bound more key need s image rs)
  where
    go : (t : ControlFlow Looked Seen) → ((more : Seen) → length (read_from more key need s image rs) ≤ length rs)
        → suc (length (on_turn t (λ looked. []) (λ more. read_from more key need s image rs))) ≤ suc (length rs)
    go (Break looked) h = omega arith
    go (Continue more) h = omega (arith, h more)

collect_bound : (s : ℕ) (image rs : List ℕ) → length (collect_services s image rs) ≤ 2 * length rs
unfolding collect_services
collect_bound s image [] = omega arith
collect_bound s image (r ∷ rs) = go (verdict r (region_of s image r)) refl (collect_bound s image rs) (collect_bound s (erase_region s r image) rs)
  where
    go : (v : Verdict) → verdict r (region_of s image r) ≡ v → length (collect_services s image rs) ≤ 2 * length rs → length (collect_services s (erase_region s r image) rs) ≤ 2 * length rs
        → length (collect_services s image (r ∷ rs)) ≤ 2 * suc (length rs)
    go Verdict.Stands e a b = rw (collect_services, e) (omega arith)
    go Verdict.Erase e a b = rw (collect_services, e) (omega arith)
    go (Verdict.Bad f o) e a b = rw (collect_services, e) (omega arith)

-- R9.2, R9.3: then one write: the edits of a plan of append's, and of a removal's
place_one : (place : Option Room) → length (listed (place_plan place).edits) ≤ 1
place_one =
    room_cases
    (λ place. length (listed (place_plan place).edits) ≤ 1)
    (omega arith)
    (λ r o. omega arith)
    (λ r o. omega arith)

append_one : (looked : Looked) → length (listed (append_plan looked).edits) ≤ 1
append_one (Looked.Live r x) = omega arith
append_one (Looked.Bad f p) = omega arith
append_one (Looked.Through seen) = by_place (λ (p : Plan). length (listed p.edits) ≤ 1) place_one seen

remove_one : (how : Removal) (looked : Looked) → length (listed (remove_plan how (hit_by looked)).edits) ≤ 1
remove_one how (Looked.Live r x) = omega arith
remove_one how (Looked.Bad f p) = omega arith
remove_one how (Looked.Through seen) = omega arith

-- what append's lookup is for
abbrev room_for : ℕ → Option ℕ
room_for len = Some (record_length len)

module _ (key s n : ℕ) (z : 1 ≤ n) where
  -- the reads of a lookup, whatever it is for
  abbrev reads_for : Option ℕ → List ℕ → List Request
  reads_for need image = map Request.Read (regions_read key need s image (probes key n))

  reads_bound : (need : Option ℕ) (image : List ℕ) → length (reads_for need image) ≤ n
  reads_bound need image =
      omega (arith, length-map (regions_read key need s image (probes key n)) Request.Read, read_bound unseen key need s image (probes key n), probes-length key n z)

  -- and a plan that has one edit at most
  one_bound : (need : Option ℕ) (len : ℕ) (image : List ℕ) (p : Plan) → length (listed p.edits) ≤ 1 → length (reads_for need image ++ edits s len p) ≤ n + 1
  one_bound need len image p one =
      let all = length-append (reads_for need image) (edits s len p) in
      omega (arith, all, reads_bound need image, length-map (listed p.edits) (request_edit s len), one)

  -- append's services, and initialise's where it must erase
  append_bound : (len : ℕ) (image : List ℕ) → length (reads_for (room_for len) image ++ edits s len (append_plan (lookup_in key (room_for len) s image (probes key n)))) ≤ n + 1
  append_bound len image =
      let looked : Looked = lookup_in key (room_for len) s image (probes key n) in
      one_bound (room_for len) len image (append_plan looked) (append_one looked)

  erases_bound : (asked : List Request) → length asked ≤ n + 1 → length (edits s 0 (anew n) ++ asked) ≤ 2 * n + 1
  erases_bound asked h =
      let es : List Edit = listed (anew n).edits in
      let all = length-append (map (request_edit s 0) es) asked in
      omega (arith, h, all, length-map es (request_edit s 0), length-map (numbers 0 (n - 0)) Edit.Erase, numbers-length 0 (n - 0), sub-zero n)

  anew_bound : length (anew_services key s n) ≤ 2 * n + 1
  anew_bound = erases_bound _ (append_bound 0 (erased (n * s)))

-- what is not refused has the chip's size
fine_fits : (image : List ℕ) (s n key len : ℕ) → first_refusal image s n key len ≡ Ok tt → Fits image s n
unfolding first_refusal
fine_fits image s n key len h = geometry_fits (go (geometry image s n) h)
  where
    go : (t : Bool) → refusal_under t key len ≡ Ok tt → t ≡ true
    go true h = refl
    go false h = absurd (let z : ◌≡◌ {A = ℕ} 0 1 = cc in omega arith)

unless_bound : (image : List ℕ) (s n key len m : ℕ) (asked : List Request) → (1 ≤ n → length asked ≤ m) → length (unless_refused (first_refusal image s n key len) asked) ≤ m
unless_bound image s n key len m asked h = go (first_refusal image s n key len) refl
  where
    go : (c : Result (Unit {0}) Refusal) → first_refusal image s n key len ≡ c → length (unless_refused c asked) ≤ m
    go (Err w) e = omega arith
    go (Ok u) e = h (fine_fits image s n key len e).shape.n_least

pub bound : (c : Call) (image : List ℕ) (s n : ℕ) → length (services c image s n) ≤ most c n
unfolding services
bound (get key buffer) image s n = unless_bound image s n key 0 n _ (λ z. reads_bound key s n z None image)
bound (append key value) image s n = unless_bound image s n key (length value) (n + 1) _ (λ z. append_bound key s n z (length value) image)
bound (remove how key) image s n =
    unless_bound image s n key 0 (n + 1) _
    (λ z. one_bound key s n z None 0 image (remove_plan how (hit_by looked)) (remove_one how looked))
  where
    looked : Looked
    looked = lookup_in key None s image (probes key n)
bound collect image s n = go (geometry image s n)
  where
    go : (t : Bool) → length (cond t (collect_services s image (numbers 0 n)) []) ≤ 2 * n
    go true = omega (arith, collect_bound s image (numbers 0 n), numbers-length 0 n)
    go false = omega arith
bound (initialise key) image s n =
    unless_bound image s n key 0 (3 * n + 1) _
    (λ z. simp length-append (omega (arith, reads_bound key s n z None image, go z (starts_anew (get_of image s n key []).answer))))
  where
    go : 1 ≤ n → (t : Bool) → length (cond t (anew_services key s n) []) ≤ 2 * n + 1
    go z true = anew_bound key s n z
    go z false = omega arith
