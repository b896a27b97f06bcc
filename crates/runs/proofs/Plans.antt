-- Whole plans: the edits of any plan, a lookup for any aim, a sweep. Each is one induction, and no clause names an aim.
-- Assumes nothing.
use Prim.Native.Nat.{ℕ, zero, suc, ◌+◌, ◌-◌, ◌*◌, ◌≤◌, ◌<◌}
use native.Mathlib.Nat.{zero-mul, suc-mul}
use native.Mathlib.Numerals.{add-one}
use native.Mathlib.Omega.{arith}
use mathlib.Core.Path.{◌≡◌, refl, sym, ◌∙◌, ap, subst}
use mathlib.Core.Bool.{Bool, true, false, cond}
use mathlib.Core.List.{List, [], ◌∷◌, ◌++◌, map, append-nil}
use lib.Dec.{ltb}
use lib.ListN.{length, drop, get_or, drop_of_length-le}
use lib.Seq.{drop-cons}
use borrow.Author.Tests.{ltb-true, ltb-false, lt-ltb, le-ltb}
use Rattle.std.specs.declared.ops.ControlFlow.TheVariants.{Break, Continue}
use Rattle.std.specs.Prelude.{Option, Some, None}
use Rattle.chip.specs.Every.{Every}
use Rattle.chip.specs.Geometry.{region_of, erase_region, numbers}
use Rattle.probe.specs.Probe.{probes}
use Rattle.probe.proofs.Theorems.{probes-length}
use Rattle.format.specs.declared.Record.{Record}
use Rattle.format.specs.declared.Fault.{Fault}
use Rattle.region.specs.declared.Want.{Want}
use Rattle.region.specs.declared.Event.{Event}
use Rattle.region.specs.Walk.{event_in}
use Rattle.lookup.specs.declared.Seen.{Seen}
use Rattle.lookup.specs.declared.Looked.{Looked}
use Rattle.refusals.specs.Refusals.{refusal_of}
use Rattle.lookup.specs.Gather.{unseen}
use Rattle.lookup.specs.Turns.{turn, close, on_turn, look_from, lookup_in, read_from}
use Rattle.plans.specs.declared.Aim.{Aim}
use Rattle.plans.specs.declared.Lent.{Lent}
use Rattle.plans.specs.declared.Edit.{Edit}
use Rattle.plans.specs.declared.Edits.{Edits}
use Rattle.plans.specs.declared.Then.{Then}
use Rattle.plans.specs.declared.Plan.{Plan}
use Rattle.sweeping.specs.declared.Verdict.{Verdict}
use Rattle.plans.specs.Writes.{value_lent, listed, applied, edited, first, rest, follows, look}
use Rattle.plans.specs.Fits.{rests}
use Rattle.planning.specs.Planning.{need_of, plan}
use Rattle.sweeping.specs.Sweeps.{verdict, swept_to, sweep_plan}
use Rattle.plans.proofs.Lists.{listed_none, listed_some}
use Rattle.store.specs.Write.{Done, refused, end_of, carried}
use Rattle.store.specs.Collect.{collect_in}
use Rattle.running.specs.declared.Request.{Request}
use Rattle.running.specs.Waits.{wait_next, wait_first, request_edit}
use Rattle.advancing.specs.Advance.{closes, turned_to, advance_next, advance_first, given, filled}
use Rattle.runs.specs.Services.{reads, edits, collect_services}
use Rattle.stepwise.proofs.Forms.{by_swept, given_rests, filled_rests}
use Rattle.runs.proofs.Rests.{op_at, own}
use Rattle.runs.proofs.Comes.{Out, out, Serves, Comes, over, edit, read}

-- A live record that a lookup ends at lies in the region that was read last.
pub data Near (r : ℕ) : Looked → Type 0 where
  near_live : {x : Record} → Near r (Looked.Live r x)
  near_bad : {f : Fault} {p : ℕ} → Near r (Looked.Bad f p)
  near_end : {seen : Seen} → Near r (Looked.Through seen)

-- The probe order, from a place on.
order_at : (key n i : ℕ) → i < n → drop i (probes key n) ≡ get_or (probes key n) i 0 ∷ drop (i + 1) (probes key n)
order_at key n i h = let l = probes-length key n (omega arith) in rw add-one (drop-cons (probes key n) i 0 (omega arith))

order_end : (key n i : ℕ) → 0 < n → n ≤ i → drop i (probes key n) ≡ []
order_end key n i z h = let l = probes-length key n z in drop_of_length-le (probes key n) {i = i} (omega arith)

every_cons : {A : Type 0} {P : A → Type 0} {x : A} {xs : List A} → Every P (x ∷ xs) → P x × Every P xs
every_cons (Every.also h hs) = (h, hs)

-- No region is left to read.
module _ (key : ℕ) (need : Option ℕ) (s : ℕ) (image : List ℕ) (seen : Seen) where
  look_none : look_from seen key need s image [] ≡ close seen
  unfolding look_from
  look_none = refl

  read_none : read_from seen key need s image [] ≡ []
  unfolding read_from
  read_none = refl

-- A sweep's region, by the verdict on it: the services that are left, and what they come to.
module _ (s : ℕ) (image : List ℕ) where
  abbrev pub services_on : ℕ → List ℕ → Verdict → List Request
  services_on r rs Verdict.Stands = collect_services s image rs
  services_on r rs Verdict.Erase = Request.Erase r ∷ collect_services s (erase_region s r image) rs
  services_on r rs (Verdict.Bad f p) = []

  abbrev done_on : ℕ → ℕ → List ℕ → Verdict → Done
  done_on freed r rs Verdict.Stands = collect_in s image freed rs
  done_on freed r rs Verdict.Erase = collect_in s (erase_region s r image) (freed + s) rs
  done_on freed r rs (Verdict.Bad f p) = refused (refusal_of f) image

  pub services_one : (r : ℕ) (rs : List ℕ) → collect_services s image (r ∷ rs) ≡ Request.Read r ∷ services_on r rs (verdict r (region_of s image r))
  unfolding collect_services
  services_one r rs = go (verdict r (region_of s image r)) refl
    where
      go : (v : Verdict) → verdict r (region_of s image r) ≡ v → collect_services s image (r ∷ rs) ≡ Request.Read r ∷ services_on r rs v
      go Verdict.Stands e = rw (collect_services, e)
      go Verdict.Erase e = rw (collect_services, e)
      go (Verdict.Bad f p) e = rw (collect_services, e)

  done_one : (freed r : ℕ) (rs : List ℕ) → collect_in s image freed (r ∷ rs) ≡ done_on freed r rs (verdict r (region_of s image r))
  unfolding collect_in
  done_one freed r rs = go (verdict r (region_of s image r)) refl
    where
      go : (v : Verdict) → verdict r (region_of s image r) ≡ v → collect_in s image freed (r ∷ rs) ≡ done_on freed r rs v
      go Verdict.Stands e = rw (collect_in, e)
      go Verdict.Erase e = rw (collect_in, e)
      go (Verdict.Bad f p) e = rw (collect_in, e)

module _ (s n key : ℕ) (lent : Lent) (value : List ℕ) (bytes : List ℕ) where
  abbrev Ends_so : Plan → List ℕ → List ℕ → List Request → Out → Type 0
  Ends_so = Comes s n key lent value bytes

  -- each edit of a list is what its service does
  abbrev pub All_serve : List Edit → Type 0
  All_serve es = Every (Serves s n key lent value bytes) es

  abbrev new : List ℕ
  new = own s n key lent value

  -- The edits.

  -- none is left: what follows
  ahead_same : (es : Edits) (region : List ℕ) (next : Then)
      → advance_next (op_at s n key lent value (record { edits = es; next = next })) region next ≡ advance_next (op_at s n key lent value (follows next)) region next
  ahead_same es region (Then.Ends answer) = refl
  ahead_same es region (Then.Seek aim i seen) = refl
  ahead_same es region (Then.Sweep r k) = refl
  ahead_same es region (Then.Gives r x anew) = refl

  none_left : (es : Edits) (next : Then) {image buffer : List ℕ} {rs : List Request} {o : Out} → first es ≡ None
      → Ends_so (follows next) image buffer rs o → Ends_so (record { edits = es; next = next }) image buffer rs o
  none_left es next h (over w) = over (ap (λ (f : Option Edit). wait_first key n f next) h ∙ w)
  none_left es next h (edit e d c) = absurd (let z : ◌≡◌ {A = ℕ} 0 1 = cc in omega arith)
  none_left es next {image} {buffer} {rs} {o} h (read {rs = qs} {r = r} w c) =
      let op = op_at s n key lent value in
      let ahead : advance_first (op (record { edits = es; next = next })) (region_of s image r) (first es) ≡ advance_next (op (follows next)) (region_of s image r) next =
      ap (advance_first (op (record { edits = es; next = next })) (region_of s image r)) h ∙ ahead_same es (region_of s image r) next in
      read (ap (λ (f : Option Edit). wait_first key n f next) h ∙ w)
      (subst (λ (p : Plan). Ends_so (given n lent (region_of s image r) p) image (filled lent (region_of s image r) p buffer) qs o) (sym ahead) c)

  -- one after the other, and then what follows
  module _ (next : Then) (buffer : List ℕ) (rs : List Request) (o : Out) where
    abbrev Behind : List Edit → List ℕ → Type 0
    Behind xs image = Ends_so (follows next) (applied s key new xs image) buffer rs o

    abbrev Ahead : Edits → List ℕ → List Edit → Type 0
    Ahead es image xs = Ends_so (record { edits = es; next = next }) image buffer (map (request_edit s (value_lent lent)) xs ++ rs) o

    does_first : (es : Edits) (image : List ℕ) (f : Option Edit) → first es ≡ f → All_serve (listed es) → Behind (listed es) image
        → ((image : List ℕ) → length (listed (rest es)) < length (listed es) → All_serve (listed (rest es)) → Behind (listed (rest es)) image → Ahead (rest es) image (listed (rest es)))
        → Ahead es image (listed es)
    unfolding applied
    does_first es image None h d c ih =
        subst (Ahead es image) (sym (listed_none es h)) (none_left es next h (subst (λ (xs : List Edit). Behind xs image) (listed_none es h) c))
    does_first es image (Some e) h d c ih =
        let (now, later) = every_cons (subst All_serve (listed_some es h) d) in
        subst (Ahead es image) (sym (listed_some es h))
        (edit h now (ih (edited s key new e image) (omega (arith, ap length (listed_some es h))) later (subst (λ (xs : List Edit). Behind xs image) (listed_some es h) c)))

    does_few : (k : ℕ) (es : Edits) (image : List ℕ) → length (listed es) ≤ k → All_serve (listed es) → Behind (listed es) image → Ahead es image (listed es)
    does_few zero es image z d c = does_first es image (first es) refl d c (λ image h d c. absurd (omega arith))
    does_few (suc k) es image z d c = does_first es image (first es) refl d c (λ image h d c. does_few k (rest es) image (omega arith) d c)

    pub does : (es : Edits) (image : List ℕ) → All_serve (listed es) → Behind (listed es) image → Ahead es image (listed es)
    does es image d c = does_few (length (listed es)) es image (omega arith) d c

  -- A plan that ends with an answer is carried out.
  pub carries : (p : Plan) (image buffer : List ℕ) → All_serve (listed p.edits) → p.next ≡ Then.Ends (end_of p.next)
      → Ends_so p image buffer (edits s (value_lent lent) p) (out (carried s key new image p).answer (carried s key new image p).image buffer)
  carries p image buffer d h =
      subst (λ (rs : List Request). Ends_so p image buffer rs (out (end_of p.next) (applied s key new (listed p.edits) image) buffer))
      (append-nil (edits s (value_lent lent) p))
      (does p.next buffer [] _ p.edits image d (over (ap (λ (next : Then). wait_next key n next) h)))

  -- A lookup, where this follows however it ends.
  module _ (aim : Aim) (image buffer : List ℕ) (least : 1 ≤ n) (rs : List Request) (o : Out) where
    abbrev need : Option ℕ
    need = need_of aim (value_lent lent)

    abbrev whole : Looked
    whole = lookup_in key need s image (probes key n)

    -- its plan, with the value given that it gives
    abbrev pub Planned : ℕ → Looked → Type 0
    Planned r looked = Ends_so (given n lent (region_of s image r) (plan aim n looked)) image (filled lent (region_of s image r) (plan aim n looked) buffer) rs o

    module _ (closing : (r : ℕ) (looked : Looked) → whole ≡ looked → Near r looked → Planned r looked) where
      abbrev from : ℕ → Seen → Looked
      from i seen = look_from seen key need s image (drop i (probes key n))

      abbrev Seeks : ℕ → Seen → Type 0
      Seeks i seen = Ends_so (follows (Then.Seek aim i seen)) image buffer (map Request.Read (read_from seen key need s image (drop i (probes key n))) ++ rs) o

      -- the turn of the i-th region, by what is left of the order
      turning : (i r : ℕ) (seen : Seen) (left : List ℕ) (v : Event) → (n ≤ i + 1 → left ≡ [])
          → on_turn (turn seen need r (region_of s image r) v) (λ looked. looked) (λ more. look_from more key need s image left) ≡ whole
          → ((more : Seen) → i + 1 < n → look_from more key need s image left ≡ whole
          → Ends_so (follows (Then.Seek aim (i + 1) more)) image buffer (map Request.Read (read_from more key need s image left) ++ rs) o)
          → let p = turned_to aim n i (closes n i (turn seen need r (region_of s image r) v)) in
          Ends_so (given n lent (region_of s image r) p) image (filled lent (region_of s image r) p buffer)
          (map Request.Read (on_turn (turn seen need r (region_of s image r) v) (λ looked. []) (λ more. read_from more key need s image left)) ++ rs) o
      turning i r seen left (Event.Live x) last h ih = closing r _ (sym h) near_live
      turning i r seen left (Event.Bad f p) last h ih = closing r _ (sym h) near_bad
      turning i r seen left (Event.End p) last h ih = go _ h (ltb (i + 1) n) refl
        where
          go : (more : Seen) → look_from more key need s image left ≡ whole → (t : Bool) → ltb (i + 1) n ≡ t
              → let p = turned_to aim n i (cond t (Continue more) (Break (close more))) in
              Ends_so (given n lent (region_of s image r) p) image (filled lent (region_of s image r) p buffer) (map Request.Read (read_from more key need s image left) ++ rs) o
          go more h true e = ih more (ltb-true _ _ e) h
          go more h false e =
              let none : left ≡ [] = last (ltb-false _ _ e) in
              let end : whole ≡ close more = sym h ∙ ap (look_from more key need s image) none ∙ look_none key need s image more in
              let read : read_from more key need s image left ≡ [] = ap (read_from more key need s image) none ∙ read_none key need s image more in
              subst
              (λ (qs : List ℕ). Ends_so (given n lent (region_of s image r) (plan aim n (close more))) image (filled lent (region_of s image r) (plan aim n (close more)) buffer)
              (map Request.Read qs ++ rs) o)
              (sym read) (closing r (close more) end near_end)

      seek_turn : (i : ℕ) (seen : Seen) → i < n → from i seen ≡ whole → ((more : Seen) → i + 1 < n → from (i + 1) more ≡ whole → Seeks (i + 1) more) → Seeks i seen
      unfolding look_from read_from
      seek_turn i seen h e ih =
          let r : ℕ = get_or (probes key n) i 0 in
          let left : List ℕ = drop (i + 1) (probes key n) in
          let order : drop i (probes key n) ≡ r ∷ left = order_at key n i h in
          subst (λ (qs : List ℕ). Ends_so (follows (Then.Seek aim i seen)) image buffer (map Request.Read (read_from seen key need s image qs) ++ rs) o) (sym order)
          (read refl
          (turning i r seen left (event_in (region_of s image r) (Want.Key key)) (order_end key n (i + 1) least)
          (ap (look_from seen key need s image) (sym order) ∙ e) ih))

      seeking : (d i : ℕ) (seen : Seen) → i + suc d ≡ n → from i seen ≡ whole → Seeks i seen
      seeking zero i seen h e = seek_turn i seen (omega arith) e (λ more l e. absurd (omega arith))
      seeking (suc d) i seen h e = seek_turn i seen (omega arith) e (λ more l e. seeking d (i + 1) more (omega arith) e)

      pub looks : Ends_so (follows (look aim)) image buffer (reads aim (value_lent lent) key image s n ++ rs) o
      looks = seeking (n - 1) 0 unseen (omega arith) refl

  -- A sweep, by how many regions are left. The one-call form counts the bytes that it freed, the plan the regions.
  module _ (buffer : List ℕ) where
    abbrev swept : List ℕ → ℕ → List ℕ → Out
    swept image freed rs = out (collect_in s image freed rs).answer (collect_in s image freed rs).image buffer

    abbrev Sweeps : Plan → ℕ → ℕ → ℕ → List ℕ → Type 0
    Sweeps p d i k image = Ends_so p image buffer (collect_services s image (numbers i d)) (swept image (k * s) (numbers i d))

    abbrev Later : ℕ → ℕ → Type 0
    Later d i = (k : ℕ) (image : List ℕ) → 0 < d → Sweeps (follows (Then.Sweep i k)) d i k image

    swept_on : (d i k : ℕ) (image : List ℕ) → i + d ≡ n → Later d i → Sweeps (follows (swept_to s n i k)) d i k image
    unfolding collect_in collect_services numbers
    swept_on zero i k image h ih = rw (le-ltb i n (omega arith)) (over refl)
    swept_on (suc d) i k image h ih = rw (lt-ltb i n (omega arith)) (ih k image (omega arith))

    swept_rests : (i k : ℕ) → rests None (swept_to s n i k) ≡ true
    swept_rests i k = by_swept (λ (t : Then). rests None t ≡ true) s n i k refl refl

    -- nothing is given, whatever the verdict
    verdict_rests : (i k : ℕ) (v : Verdict) → rests None (sweep_plan s n i k v).next ≡ true
    verdict_rests i k Verdict.Stands = swept_rests (i + 1) k
    verdict_rests i k Verdict.Erase = swept_rests (i + 1) (k + 1)
    verdict_rests i k (Verdict.Bad f p) = refl

    -- region i was read
    judged : (d i k : ℕ) (image : List ℕ) → i + suc d ≡ n → Later d (i + 1) → (v : Verdict)
        → Ends_so (sweep_plan s n i k v) image buffer (services_on s image i (numbers (i + 1) d) v)
        (out (done_on s image (k * s) i (numbers (i + 1) d) v).answer (done_on s image (k * s) i (numbers (i + 1) d) v).image buffer)
    judged d i k image h ih Verdict.Stands = swept_on d (i + 1) k image (omega arith) ih
    judged d i k image h ih Verdict.Erase =
        let freed : (k + 1) * s ≡ k * s + s = ap (λ (m : ℕ). m * s) (add-one k) ∙ suc-mul k s in
        let image' : List ℕ = erase_region s i image in
        let rs : List ℕ = numbers (i + 1) d in
        subst (λ (m : ℕ). Ends_so (sweep_plan s n i k Verdict.Erase) image buffer (services_on s image i rs Verdict.Erase) (swept image' m rs)) freed
        (edit refl (λ image. refl) (swept_on d (i + 1) (k + 1) image' (omega arith) ih))
    judged d i k image h ih (Verdict.Bad f p) = over refl

    sweep_turn : (d i k : ℕ) (image : List ℕ) → i + suc d ≡ n → Later d (i + 1) → Sweeps (follows (Then.Sweep i k)) (suc d) i k image
    unfolding numbers
    sweep_turn d i k image h ih =
        let region : List ℕ = region_of s image i in
        let v : Verdict = verdict i region in
        let p : Plan = sweep_plan s n i k v in
        let rs : List ℕ = numbers (i + 1) d in
        let calm = verdict_rests i k v in
        let j = judged d i k image h ih v in
        let c : Ends_so (given n lent region p) image (filled lent region p buffer) (services_on s image i rs v)
        (out (done_on s image (k * s) i rs v).answer (done_on s image (k * s) i rs v).image buffer) =
        rw (given_rests n lent region None p calm, filled_rests n lent region None p calm buffer) j in
        rw (services_one s image i rs, done_one s image (k * s) i rs) (read refl c)

    sweeping : (d i k : ℕ) (image : List ℕ) → i + suc d ≡ n → Sweeps (follows (Then.Sweep i k)) (suc d) i k image
    sweeping zero i k image h = sweep_turn zero i k image h (λ k image z. absurd (omega arith))
    sweeping (suc d) i k image h = sweep_turn (suc d) i k image h (λ k image z. sweeping d (i + 1) k image (omega arith))

    pub sweeps : (image : List ℕ) → 1 ≤ n → Ends_so (follows (Then.Sweep 0 0)) image buffer (collect_services s image (numbers 0 n)) (swept image 0 (numbers 0 n))
    sweeps image least =
        let e : suc (n - 1) ≡ n = omega arith in
        let z : 0 * s ≡ 0 = zero-mul s in
        let c : Sweeps (follows (Then.Sweep 0 0)) (suc (n - 1)) 0 0 image = sweeping (n - 1) 0 0 image (omega arith) in
        subst (λ (m : ℕ). Ends_so (follows (Then.Sweep 0 0)) image buffer (collect_services s image (numbers 0 n)) (swept image m (numbers 0 n))) z
        (subst (λ (m : ℕ). Sweeps (follows (Then.Sweep 0 0)) m 0 0 image) e c)
