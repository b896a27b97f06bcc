-- A step as its two cases, the call fits or it does not. What it then asks for lies in the chip, and what it leaves in the lent buffers: the bytes of
-- the write that it asks for, and the value of a get that answers.
-- Assumes nothing.
use Prim.Native.Nat.{ℕ, ◌+◌, ◌-◌, ◌≤◌}
use native.Mathlib.Nat.{add-sub_cancel_left}
use native.Mathlib.Omega.{arith}
use mathlib.Core.Path.{◌≡◌, refl, sym, ◌∙◌, ap, subst}
use mathlib.Core.Bool.{Bool, true, false, cond, true≢false}
use mathlib.Core.List.{List}
use mathlib.Core.Logic.{◌⊎◌, inl, inr}
use lib.Dec.{ltb}
use lib.ListN.{length, take, drop, get_or}
use Rattle.lookup.proofs.Scan.{room_cases}
use Rattle.std.specs.declared.ops.ControlFlow.TheVariants.{Break, Continue}
use Rattle.std.specs.declared.ops.ControlFlow.{ControlFlow}
use Rattle.std.specs.Prelude.{Result, Err, Ok, Option, Some, None}
use Rattle.chip.proofs.Lists.{sets-before, sets-after}
use Rattle.probe.specs.Probe.{probes}
use Rattle.format.specs.declared.Record.{Record}
use Rattle.format.specs.Layout.{check_sum_fits}
use Rattle.region.specs.Walk.{bytes_in, value_length}
use Rattle.format.specs.declared.Removal.{Removal}
use Rattle.refusals.specs.declared.Refusal.{Refusal}
use Rattle.lookup.specs.declared.Room.{Room}
use Rattle.lookup.specs.declared.Seen.{Seen}
use Rattle.lookup.specs.declared.Looked.{Looked}
use Rattle.lookup.specs.declared.Hit.{Hit}
use Rattle.lookup.specs.Turns.{turn_of, hit_by}
use Rattle.plans.specs.declared.Success.TheVariants.{Complete}
use Rattle.plans.specs.declared.Aim.{Aim}
use Rattle.plans.specs.declared.Lent.{Lent}
use Rattle.plans.specs.declared.Edit.{Edit}
use Rattle.plans.specs.declared.Then.{Then}
use Rattle.plans.specs.declared.Plan.{Plan}
use Rattle.plans.specs.Answers.{Answer}
use Rattle.plans.specs.Writes.{value_lent, buffer_lent, value_of, start_of, bytes_of, size_of, laid_in, first, ends}
use Rattle.plans.specs.Fits.{lent_nothing, lent_for, edit_fits, then_fits, rests}
use Rattle.plans.proofs.Facts.{edit_facts, edits_facts, seek_facts}
use Rattle.plans.proofs.Laid.{length_bytes, laid-length, laid_there}
use Rattle.planning.specs.Planning.{need_of, get_plan, place_plan, append_plan, remove_plan, initialise_plan, plan}
use Rattle.planning.proofs.Places.{by_place}
use Rattle.sweeping.specs.declared.Verdict.{Verdict}
use Rattle.sweeping.specs.Sweeps.{verdict, swept_to, sweep_plan}
use Rattle.values.specs.Values.{read_answer}
use Rattle.running.specs.declared.Op.{Op}
use Rattle.running.specs.declared.Reply.{Reply}
use Rattle.running.specs.declared.Wait.{Wait}
use Rattle.running.specs.declared.Request.{Request}
use Rattle.running.specs.Waits.{with_plan, wait_next, wait_first, wait_of, request_edit, request_for, request_of}
use Rattle.running.specs.Ruled.{Ruled}
use Rattle.running.proofs.Rules.{plan_of}
use Rattle.rule.proofs.Calls.{fits_ruled, value_lent_lem}
use Rattle.advancing.specs.Advance.{closes, turned_to, advance_next, advance_first, advance, given, filled_by, filled, next_plan, buffer_on}
use Rattle.laying.specs.Lend.{laid_for, laid, laid_on}
use Rattle.steps.specs.declared.Stepped.{Stepped}
use Rattle.steps.specs.Step.{next_op, fits_here, stepped, region_after, buffer_after}
use Rattle.steps.proofs.Keeps.{next_ruled}
use Rattle.stepwise.proofs.Forms.{Awaits, a_region, no_more, next_awaits, by_swept, filled_rests}
use Rattle.stepwise.specs.Asked.{Inside, answers, Reads, complete, too_short, wrong_sum, GetReads}
use Rattle.stepwise.proofs.Starts.{inside}

-- What a step asks for, and leaves in the region buffer and in get's: the call does not fit and all stays, or it fits.
pub data Steps (op : Op) (y : Reply) (region value buffer : List ℕ) : Request → List ℕ → List ℕ → Type 0 where
  unfit : Steps op y region value buffer (Request.Answers (Err Refusal.BadCall)) region buffer
  fit : fits_here op y region value buffer ≡ true
      → Steps op y region value buffer (request_of (next_op op y region)) (laid_on y (next_op op y region) region value) (buffer_on op y region buffer)

pub steps : (op : Op) (y : Reply) (region value buffer : List ℕ)
    → Steps op y region value buffer (stepped op y region value buffer).request (region_after op y region value buffer) (buffer_after op y region value buffer)
unfolding stepped region_after buffer_after
steps op y region value buffer = go (fits_here op y region value buffer) refl
  where
    go : (t : Bool) → fits_here op y region value buffer ≡ t
        → Steps op y region value buffer
        (cond {A = Stepped} t (record { op = next_op op y region; request = request_of (next_op op y region) })
        (record { op = op; request = Request.Answers (Err Refusal.BadCall) })).request
        (cond t (laid_on y (next_op op y region) region value) region)
        (cond t (buffer_on op y region buffer) buffer)
    go true h = fit h
    go false h = unfit

-- What is asked for lies in the chip.
pub steps_inside : {op : Op} {y : Reply} {region value buffer : List ℕ} {q : Request} {r b : List ℕ} → Steps op y region value buffer q r b → Inside op.s op.n q
steps_inside unfit = answers
steps_inside {op} {y} {region} {value} {buffer} (fit h) =
    let (k, long, _, _) = fits_ruled op y (length region) (length value) (length buffer) h in
    inside (next_op op y region) (next_ruled op y region k long)

-- The region buffer.

-- What is waited for is laid there, and nothing else is.
laid_alters : (s len key : ℕ) (own : List ℕ) (w : Wait) (region : List ℕ)
    → (laid_for key own w region ≡ region) ⊎ ((a : ℕ) × (e : ℕ) × (p : ℕ) × (request_for s len w ≡ Request.Write a e p))
laid_alters s len key own Wait.Begin region = inl refl
laid_alters s len key own (Wait.Read r) region = inl refl
laid_alters s len key own (Wait.Edit (Edit.Lay r o)) region = inr (_, _, _, refl)
laid_alters s len key own (Wait.Edit (Edit.Kill how r x)) region = inr (_, _, _, refl)
laid_alters s len key own (Wait.Edit (Edit.Erase r)) region = inl refl
laid_alters s len key own (Wait.Over answer) region = inl refl

pub steps_alter : {op : Op} {y : Reply} {region value buffer : List ℕ} {q : Request} {r b : List ℕ} → Steps op y region value buffer q r b
    → (r ≡ region) ⊎ ((a : ℕ) × (e : ℕ) × (p : ℕ) × (q ≡ Request.Write a e p))
steps_alter unfit = inl refl
steps_alter {op} {y} {region} {value} (fit h) = go y
  where
    lays : (op : Op) → (laid op region value ≡ region) ⊎ ((a : ℕ) × (e : ℕ) × (p : ℕ) × (request_of op ≡ Request.Write a e p))
    lays op = laid_alters op.s (value_lent op.lent) op.key (value_of op.lent value) (wait_of op) region

    go : (y : Reply) → (laid_on y (next_op op y region) region value ≡ region) ⊎ ((a : ℕ) × (e : ℕ) × (p : ℕ) × (request_of (next_op op y region) ≡ Request.Write a e p))
    go Reply.Begin = lays (next_op op Reply.Begin region)
    go Reply.Done = lays (next_op op Reply.Done region)
    go Reply.NotReady = inl refl
    go Reply.Failed = lays (next_op op Reply.Failed region)

-- A write that is asked for is the first edit that is left: its bytes.
pub record Writes (len : ℕ) (f : Option Edit) (a e : ℕ) : Type 0 where
  pub edit : Edit
  pub is_first : f ≡ Some edit
  pub begins : a ≡ start_of edit
  pub stops : e ≡ start_of edit + size_of len edit

next_writes : (s len key n : ℕ) (next : Then) {a e p : ℕ} → request_for s len (wait_next key n next) ≡ Request.Write a e p → ⊥
next_writes s len key n next h = go (next_awaits key n next) h
  where
    go : {w : Wait} → Awaits w → {a e p : ℕ} → request_for s len w ≡ Request.Write a e p → ⊥
    go a_region h = let z : ◌≡◌ {A = ℕ} 0 1 = cc in omega arith
    go no_more h = let z : ◌≡◌ {A = ℕ} 0 1 = cc in omega arith

edit_writes : (s len : ℕ) (d : Edit) {a e p : ℕ} → request_edit s len d ≡ Request.Write a e p → Writes len (Some d) a e
edit_writes s len d h = go d h
  where
    is : (d : Edit) {a e p q : ℕ} → Request.Write (start_of d) (start_of d + size_of len d) q ≡ Request.Write a e p → Writes len (Some d) a e
    is d {a} {e} h = record { edit = d; is_first = refl; begins = let z : a ≡ start_of d = cc in z; stops = let z : e ≡ start_of d + size_of len d = cc in z }

    go : (d : Edit) {a e p : ℕ} → request_edit s len d ≡ Request.Write a e p → Writes len (Some d) a e
    go (Edit.Lay r o) h = is (Edit.Lay r o) h
    go (Edit.Kill how r x) h = is (Edit.Kill how r x) h
    go (Edit.Erase r) h = absurd (let z : ◌≡◌ {A = ℕ} 0 1 = cc in omega arith)

first_writes : (s len key n : ℕ) (f : Option Edit) (next : Then) {a e p : ℕ} → request_for s len (wait_first key n f next) ≡ Request.Write a e p → Writes len f a e
first_writes s len key n None next h = absurd (next_writes s len key n next h)
first_writes s len key n (Some d) next h = edit_writes s len d h

-- What a write's bytes make of the region buffer: they lie at their place, and the rest stays.
pub record Laid (bytes region region' : List ℕ) (a e : ℕ) : Type 0 where
  pub long : length region' ≡ length region
  pub before : take a region' ≡ take a region
  pub behind : drop e region' ≡ drop e region
  pub there : take (e - a) (drop a region') ≡ bytes

edit_laid : (s n key : ℕ) (own : List ℕ) (d : Edit) (region : List ℕ) → length region ≡ s → edit_fits s n (length own) d ≡ true
    → Laid (bytes_of key own d) region (laid_in key own d region) (start_of d) (start_of d + size_of (length own) d)
edit_laid s n key own d region l h =
    let b : List ℕ = bytes_of key own d in
    let size : length b ≡ size_of (length own) d = length_bytes s n key own d h in
    let within : start_of d + size_of (length own) d ≤ s = (edit_facts s n (length own) d h).1 in
    let fits : start_of d + length b ≤ length region = omega arith in
    record {
      long = laid-length key own d region;
      before = sets-before region (start_of d) b fits;
      behind = subst (λ (k : ℕ). drop (start_of d + k) (laid_in key own d region) ≡ drop (start_of d + k) region) size (sets-after region (start_of d) b fits);
      there = rw (add-sub_cancel_left (start_of d) (size_of (length own) d)) (laid_there s n key own d region l h);
    }

-- So it is of an operation that keeps the rule and has begun, with a value of the length that it names.
module _ (op : Op) (p : Plan) (region value : List ℕ) (k : Ruled (with_plan op p)) (long : length region ≡ op.s)
    (size : length (value_of op.lent value) ≡ value_lent op.lent) {a e q : ℕ} (h : request_of (with_plan op p) ≡ Request.Write a e q) where
  written : Writes (value_lent op.lent) (first p.edits) a e
  written = first_writes op.s (value_lent op.lent) op.key op.n (first p.edits) p.next h

  written_fits : edit_fits op.s op.n (length (value_of op.lent value)) written.edit ≡ true
  written_fits = rw size (edits_facts op.s op.n (value_lent op.lent) p.edits (plan_of (with_plan op p) k).edits_good written.is_first).0

  written_laid : Laid (bytes_of op.key (value_of op.lent value) written.edit) region (laid (with_plan op p) region value) a e
  written_laid =
      let own : List ℕ = value_of op.lent value in
      let d : Edit = written.edit in
      let b : List ℕ = bytes_of op.key own d in
      let stops : e ≡ start_of d + size_of (length own) d = written.stops ∙ ap (λ (m : ℕ). start_of d + size_of m d) (sym size) in
      subst (λ (f : Option Edit). Laid b region (laid_for op.key own (wait_first op.key op.n f p.next) region) a e) (sym written.is_first)
      (subst (λ (o : ℕ). Laid b region (laid_in op.key own d region) o e) (sym written.begins)
      (subst (λ (o : ℕ). Laid b region (laid_in op.key own d region) (start_of d) o) (sym stops) (edit_laid op.s op.n op.key own d region long written_fits)))

-- A step that asks for a write: with "not ready" the region buffer stays as it was, else the bytes of the next plan's first edit lie there.
pub data Leaves (op : Op) (region value : List ℕ) (a e : ℕ) : Reply → List ℕ → Type 0 where
  waits : Leaves op region value a e Reply.NotReady region
  lays : {y : Reply} {region' : List ℕ} (w : Writes (value_lent op.lent) (first (next_plan op y region).edits) a e)
      → Laid (bytes_of op.key (value_of op.lent value) w.edit) region region' a e → Leaves op region value a e y region'

pub steps_leave : {op : Op} {y : Reply} {region value buffer : List ℕ} {q : Request} {r b : List ℕ} → Steps op y region value buffer q r b
    → {a e p : ℕ} → q ≡ Request.Write a e p → Leaves op region value a e y r
steps_leave unfit h = absurd (let z : ◌≡◌ {A = ℕ} 0 1 = cc in omega arith)
steps_leave {op} {y} {region} {value} {buffer} (fit f) {a} {e} {p} h =
    let (k, long, lent, _) = fits_ruled op y (length region) (length value) (length buffer) f in
    let kept = next_ruled op y region k long in
    let size = value_lent_lem op.lent value (length buffer) lent in
    go y (written op (next_plan op y region) region value kept long size h) (written_laid op (next_plan op y region) region value kept long size h)
  where
    go : (y : Reply) (w : Writes (value_lent op.lent) (first (next_plan op y region).edits) a e)
        → Laid (bytes_of op.key (value_of op.lent value) w.edit) region (laid (next_op op y region) region value) a e
        → Leaves op region value a e y (laid_on y (next_op op y region) region value)
    go Reply.Begin w l = lays w l
    go Reply.Done w l = lays w l
    go Reply.NotReady w l = waits
    go Reply.Failed w l = lays w l

pub leaves_rest : {op : Op} {y : Reply} {region value region' : List ℕ} {a e : ℕ} → Leaves op region value a e y region'
    → (length region' ≡ length region) × (take a region' ≡ take a region) × (drop e region' ≡ drop e region)
leaves_rest waits = (refl, refl, refl)
leaves_rest (lays w l) = (l.long, l.before, l.behind)

-- Get's buffer.

-- What the plan that is come to makes of it: nothing, or a lookup of a get has ended and its value is given, with an answer.
abbrev Fills : Op → List ℕ → List ℕ → Plan → Type 0
Fills op region buffer p =
    (filled op.lent region p buffer ≡ buffer)
    ⊎ (((i : ℕ) × (seen : Seen) × (op.plan.next ≡ Then.Seek Aim.Get i seen)) × ((answer : Answer) × Reads answer × (given op.n op.lent region p ≡ ends answer)))

-- what get answers by a live record
answer_reads : (region : List ℕ) (x : Record) (capacity : ℕ) → Reads (read_answer region x capacity)
answer_reads region x capacity = go (ltb capacity (value_length x)) (check_sum_fits (bytes_in region x))
  where
    go : (short good : Bool) → Reads (cond short (Err (Refusal.BufferTooSmall (value_length x))) (cond good (Ok (Complete (value_length x))) (Err Refusal.InvalidCheckSum)))
    go true good = too_short
    go false true = complete
    go false false = wrong_sum

module _ (op : Op) (region buffer : List ℕ) where
  place_fills : (place : Option Room) → Fills op region buffer (place_plan place)
  place_fills =
      room_cases
      (λ place. Fills op region buffer (place_plan place))
      (inl refl)
      (λ r o. inl refl)
      (λ r o. inl refl)

  -- initialise reads a value too, and is lent no buffer
  nothing_fills : (lent : Lent) → lent_nothing lent ≡ true → (r : ℕ) (x : Record) → filled_by lent region (Then.Gives r x true) buffer ≡ buffer
  nothing_fills Lent.Nothing h r x = refl
  nothing_fills (Lent.Value len) h r x = refl
  nothing_fills (Lent.Buffer len) h r x = absurd (true≢false (sym h))

  get_fills : (hit : Result Hit Refusal) (i : ℕ) (seen : Seen) → op.plan.next ≡ Then.Seek Aim.Get i seen → Fills op region buffer (get_plan hit)
  get_fills (Ok h) i seen e = inr ((i, seen, e), (read_answer region h.rec (buffer_lent op.lent), answer_reads region h.rec (buffer_lent op.lent), refl))
  get_fills (Err w) i seen e = inl refl

  append_fills : (looked : Looked) → Fills op region buffer (append_plan looked)
  append_fills (Looked.Live r x) = inl refl
  append_fills (Looked.Bad f p) = inl refl
  append_fills (Looked.Through seen) = by_place (Fills op region buffer) place_fills seen

  remove_fills : (how : Removal) (hit : Result Hit Refusal) → Fills op region buffer (remove_plan how hit)
  remove_fills how (Ok h) = inl refl
  remove_fills how (Err w) = inl refl

  initialise_fills : (hit : Result Hit Refusal) → lent_nothing op.lent ≡ true → Fills op region buffer (initialise_plan op.n hit)
  initialise_fills (Ok t) h = inl (nothing_fills op.lent h t.region t.rec)
  initialise_fills (Err w) h = inl refl

  plan_fills : (aim : Aim) (i : ℕ) (seen : Seen) → op.plan.next ≡ Then.Seek aim i seen → lent_for aim op.lent ≡ true → (looked : Looked)
      → Fills op region buffer (plan aim op.n looked)
  plan_fills Aim.Get i seen e h looked = get_fills (hit_by looked) i seen e
  plan_fills Aim.Append i seen e h looked = append_fills looked
  plan_fills (Aim.Remove how) i seen e h looked = remove_fills how (hit_by looked)
  plan_fills Aim.Initialise i seen e h looked = initialise_fills (hit_by looked) h

  turned_fills : (aim : Aim) (i : ℕ) (seen : Seen) → op.plan.next ≡ Then.Seek aim i seen → lent_for aim op.lent ≡ true → (t : ControlFlow Looked Seen)
      → Fills op region buffer (turned_to aim op.n i t)
  turned_fills aim i seen e h (Break looked) = plan_fills aim i seen e h looked
  turned_fills aim i seen e h (Continue more) = inl refl

  swept_fills : (s n r k : ℕ) → filled_by op.lent region (swept_to s n r k) buffer ≡ buffer
  swept_fills s n r k = by_swept (λ (t : Then). filled_by op.lent region t buffer ≡ buffer) s n r k refl refl

  sweep_fills : (s n r k : ℕ) (v : Verdict) → filled op.lent region (sweep_plan s n r k v) buffer ≡ buffer
  sweep_fills s n r k Verdict.Stands = swept_fills s n (r + 1) k
  sweep_fills s n r k Verdict.Erase = swept_fills s n (r + 1) (k + 1)
  sweep_fills s n r k (Verdict.Bad f p) = refl

  -- a region was read
  next_fills : (t : Then) → op.plan.next ≡ t → then_fits op.s op.n op.lent t ≡ true → rests None t ≡ true → Fills op region buffer (advance_next op region t)
  next_fills (Then.Ends answer) e h c = inl refl
  next_fills (Then.Seek aim i seen) e h c =
      turned_fills aim i seen e (seek_facts op.s op.n op.lent aim i seen h).0
      (closes op.n i (turn_of seen op.key (need_of aim (value_lent op.lent)) (get_or (probes op.key op.n) i 0) region))
  next_fills (Then.Sweep r k) e h c = inl (sweep_fills op.s op.n r k (verdict r region))
  next_fills (Then.Gives r x again) e h c = absurd (true≢false (sym c))

  advance_fills : Ruled op → Fills op region buffer (advance op region)
  advance_fills k = go (first op.plan.edits) (plan_of op k).at_rest
    where
      go : (f : Option Edit) → rests f op.plan.next ≡ true → Fills op region buffer (advance_first op region f)
      go (Some d) c = inl (filled_rests op.n op.lent region (Some d) op.plan c buffer)
      go None c = next_fills op.plan.next refl (plan_of op k).next_good c

pub steps_fill : {op : Op} {y : Reply} {region value buffer : List ℕ} {q : Request} {r b : List ℕ} → Steps op y region value buffer q r b → (b ≡ buffer) ⊎ GetReads op q
steps_fill unfit = inl refl
steps_fill {op} {y} {region} {value} {buffer} (fit h) = go y (fits_ruled op y (length region) (length value) (length buffer) h).0
  where
    done : Fills op region buffer (advance op region) → (buffer_on op Reply.Done region buffer ≡ buffer) ⊎ GetReads op (request_of (next_op op Reply.Done region))
    done (inl same) = inl same
    done (inr ((i, seen, at), (answer, read, e))) =
        inr (record { index = i; seen = seen; is_get = at; answer = answer; read = read; answers = ap (λ (p : Plan). request_of (with_plan op p)) e })

    go : (y : Reply) → Ruled op → (buffer_on op y region buffer ≡ buffer) ⊎ GetReads op (request_of (next_op op y region))
    go Reply.Begin k = inl refl
    go Reply.Done k = done (advance_fills op region buffer k)
    go Reply.NotReady k = inl refl
    go Reply.Failed k = inl refl
