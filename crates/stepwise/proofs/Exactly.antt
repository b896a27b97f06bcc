-- Which refusals a step gives: 11 where the call does not fit, 12 where it fits and the host says that the service failed, else one of a lookup or none.
-- Assumes nothing.
use Prim.Native.Nat.{ℕ, ◌+◌, ◌≤◌}
use native.Mathlib.Omega.{arith}
use mathlib.Core.Path.{◌≡◌, refl, sym, ◌∙◌}
use mathlib.Core.Bool.{Bool, true, false, ◌&&◌, cond, true≢false}
use mathlib.Core.List.{List}
use lib.Dec.{ltb}
use lib.ListN.{length, get_or}
use borrow.Author.Tests.{eqb-true}
use Rattle.lookup.proofs.Scan.{room_cases}
use Rattle.lookup.specs.declared.Seen.{Seen}
use Rattle.std.specs.declared.ops.ControlFlow.TheVariants.{Break, Continue}
use Rattle.std.specs.declared.ops.ControlFlow.{ControlFlow}
use Rattle.std.specs.Prelude.{Option, Some, None, Ok, Err}
use Rattle.probe.specs.Probe.{probes}
use Rattle.format.specs.declared.Record.{Record}
use Rattle.format.specs.declared.Fault.{Fault}
use Rattle.format.specs.declared.Fault.TheVariants.{UnsupportedVersion, CorruptData}
use Rattle.format.specs.Layout.{check_sum_fits}
use Rattle.region.specs.Walk.{bytes_in, value_length}
use Rattle.refusals.specs.declared.Refusal.{Refusal}
use Rattle.lookup.specs.declared.Room.{Room}
use Rattle.lookup.specs.declared.Looked.{Looked}
use Rattle.refusals.specs.Refusals.{number, refusal_of}
use Rattle.lookup.specs.Turns.{close, turn_of, refused_by}
use Rattle.plans.specs.declared.Success.TheVariants.{Complete}
use Rattle.plans.specs.declared.Aim.{Aim}
use Rattle.plans.specs.declared.Lent.{Lent}
use Rattle.plans.specs.declared.Edit.{Edit}
use Rattle.plans.specs.declared.Then.{Then}
use Rattle.plans.specs.declared.Plan.{Plan}
use Rattle.sweeping.specs.declared.Verdict.{Verdict}
use Rattle.plans.specs.Answers.{refusal, starts_anew, Answer}
use Rattle.plans.specs.Writes.{value_lent, buffer_lent, first, ends}
use Rattle.plans.specs.Fits.{rests}
use Rattle.planning.specs.Planning.{need_of, anew, place_plan, plan}
use Rattle.sweeping.specs.Sweeps.{verdict, swept_to, sweep_plan}
use Rattle.planning.proofs.Places.{by_place}
use Rattle.planning.proofs.Shapes.{Shape, is_refused, is_given, is_removed, is_placed, is_anew, plan_shape}
use Rattle.values.specs.Values.{read_answer}
use Rattle.running.specs.declared.Op.{Op}
use Rattle.running.specs.declared.Reply.{Reply}
use Rattle.running.specs.declared.Wait.{Wait}
use Rattle.running.specs.declared.Request.{Request}
use Rattle.running.specs.Waits.{with_plan, wait_next, wait_first, wait_of, request_edit, request_for, request_of}
use Rattle.running.specs.Ruled.{fresh_fits, Ruled}
use Rattle.rule.specs.Rule.{begins, reply_fits}
use Rattle.running.proofs.Rules.{plan_of}
use Rattle.rule.proofs.Calls.{fits_ruled}
use Rattle.steps.specs.declared.Stepped.{Stepped}
use Rattle.advancing.specs.Advance.{closes, turned_to, advance_next, advance_first, advance, given_by, given}
use Rattle.steps.specs.Step.{next_op, fits_here, stepped}
use Rattle.stepwise.proofs.Forms.{by_swept}
use Rattle.stepwise.specs.Asked.{request_refusal}

-- The refusal that a plan's end stands for, before its value is given and after.
abbrev end_refusal : ℕ → Then → ℕ
end_refusal gives (Then.Ends answer) = refusal answer
end_refusal gives (Then.Seek aim i seen) = 0
end_refusal gives (Then.Sweep r k) = 0
end_refusal gives (Then.Gives r x again) = gives

-- an operation that asks for a service refuses nothing, and one without an edit left what it ends with
edit_none : (s len : ℕ) (e : Edit) → request_refusal (request_edit s len e) ≡ 0
edit_none s len (Edit.Lay r o) = refl
edit_none s len (Edit.Kill how r x) = refl
edit_none s len (Edit.Erase r) = refl

request_low : (s len key n : ℕ) (f : Option Edit) (t : Then) → end_refusal 11 t ≤ 10 → request_refusal (request_for s len (wait_first key n f t)) ≤ 10
request_low s len key n (Some e) t h = omega (arith, edit_none s len e)
request_low s len key n None (Then.Ends answer) h = omega (arith, h)
request_low s len key n None (Then.Seek aim i seen) h = omega (arith, h)
request_low s len key n None (Then.Sweep r k) h = omega (arith, h)
request_low s len key n None (Then.Gives r x again) h = omega (arith, h)

-- What a lookup or a sweep ends with is none of the stepped form's own refusals.

fault_low : (f : Fault) → number (refusal_of f) ≤ 10
fault_low UnsupportedVersion = omega arith
fault_low CorruptData = omega arith

read_low : (region : List ℕ) (x : Record) (capacity : ℕ) → refusal (read_answer region x capacity) ≤ 10
read_low region x capacity = go (ltb capacity (value_length x)) (check_sum_fits (bytes_in region x))
  where
    go : (short good : Bool) → refusal (cond short (Err (Refusal.BufferTooSmall (value_length x))) (cond good (Ok (Complete (value_length x))) (Err Refusal.InvalidCheckSum))) ≤ 10
    go true good = omega arith
    go false true = omega arith
    go false false = omega arith

place_low : (place : Option Room) → end_refusal 0 (place_plan place).next ≤ 10
place_low =
    room_cases
    (λ place. end_refusal 0 (place_plan place).next ≤ 10)
    (omega arith)
    (λ r o. omega arith)
    (λ r o. omega arith)

refused_low : (looked : Looked) → number (refused_by looked) ≤ 10
refused_low (Looked.Live r x) = omega arith
refused_low (Looked.Bad f p) = fault_low f
refused_low (Looked.Through seen) = omega arith

shape_low : {n : ℕ} {lent : Lent} {t : Bool} {looked : Looked} {p : Plan} → Shape n lent t looked p → end_refusal 0 p.next ≤ 10
shape_low (is_refused {looked}) = refused_low looked
shape_low (is_given h) = omega arith
shape_low (is_removed how) = omega arith
shape_low (is_placed {seen}) = by_place (λ (p : Plan). end_refusal 0 p.next ≤ 10) place_low seen
shape_low (is_anew h) = omega arith

plan_low : (aim : Aim) (n : ℕ) (looked : Looked) → end_refusal 0 (plan aim n looked).next ≤ 10
plan_low aim n looked = shape_low (plan_shape n Lent.Nothing aim looked)

turned_low : (aim : Aim) (n i : ℕ) (t : ControlFlow Looked Seen) → end_refusal 0 (turned_to aim n i (closes n i t)).next ≤ 10
turned_low aim n i (Break looked) = plan_low aim n looked
turned_low aim n i (Continue seen) = go (ltb (i + 1) n)
  where
    go : (t : Bool) → end_refusal 0 (turned_to aim n i (cond t (Continue seen) (Break (close seen)))).next ≤ 10
    go true = omega arith
    go false = plan_low aim n (close seen)

swept_low : (s n r k : ℕ) → end_refusal 0 (swept_to s n r k) ≤ 10
swept_low s n r k = by_swept (λ (t : Then). end_refusal 0 t ≤ 10) s n r k (omega arith) (omega arith)

sweep_low : (s n r k : ℕ) (v : Verdict) → end_refusal 0 (sweep_plan s n r k v).next ≤ 10
sweep_low s n r k Verdict.Stands = swept_low s n (r + 1) k
sweep_low s n r k Verdict.Erase = swept_low s n (r + 1) (k + 1)
sweep_low s n r k (Verdict.Bad f p) = fault_low f

-- with its value given
given_low : (n : ℕ) (lent : Lent) (region : List ℕ) (p : Plan) → end_refusal 0 p.next ≤ 10 → end_refusal 11 (given n lent region p).next ≤ 10
given_low n lent region p h = go p.next refl h
  where
    anew_low : (t : Bool) (answer : Answer) → refusal answer ≤ 10 → end_refusal 11 (cond t (anew n) (ends answer)).next ≤ 10
    anew_low true answer h = omega arith
    anew_low false answer h = h

    go : (t : Then) → p.next ≡ t → end_refusal 0 t ≤ 10 → end_refusal 11 (given_by n lent region p t).next ≤ 10
    go (Then.Ends answer) e h = rw e h
    go (Then.Seek aim i seen) e h = rw e h
    go (Then.Sweep r k) e h = rw e h
    go (Then.Gives r x again) e h =
        let answer : Answer = read_answer region x (buffer_lent lent) in
        anew_low (again && starts_anew answer) answer (read_low region x (buffer_lent lent))

-- A service that is done leads to another, or to an end that is no refusal of the stepped form.

-- an edit was done: no refusal stands behind a write (R8.10)
write_low : (e : Edit) (t : Then) → rests (Some e) t ≡ true → end_refusal 0 t ≤ 10
write_low e (Then.Ends answer) h = let z : refusal answer ≡ 0 = eqb-true _ _ h in omega arith
write_low e (Then.Seek aim i seen) h = omega arith
write_low e (Then.Sweep r k) h = omega arith
write_low e (Then.Gives r x again) h = absurd (true≢false (sym h))

-- a region was read
next_low : (op : Op) (region : List ℕ) (t : Then) → rests None t ≡ true → reply_fits (wait_next op.key op.n t) Reply.Done ≡ true
    → end_refusal 0 (advance_next op region t).next ≤ 10
next_low op region (Then.Ends answer) c h = absurd (true≢false (sym h))
next_low op region (Then.Seek aim i seen) c h =
    turned_low aim op.n i (turn_of seen op.key (need_of aim (value_lent op.lent)) (get_or (probes op.key op.n) i 0) region)
next_low op region (Then.Sweep r k) c h = sweep_low op.s op.n r k (verdict r region)
next_low op region (Then.Gives r x again) c h = absurd (true≢false (sym c))

advance_low : (op : Op) (region : List ℕ) (f : Option Edit) → rests f op.plan.next ≡ true → reply_fits (wait_first op.key op.n f op.plan.next) Reply.Done ≡ true
    → end_refusal 0 (advance_first op region f).next ≤ 10
advance_low op region (Some e) c h = write_low e op.plan.next c
advance_low op region None c h = next_low op region op.plan.next c h

-- a reply to a service: the operation is not fresh
not_fresh : (t : Bool) (w : Wait) (y : Reply) → begins y ≡ false → reply_fits (cond t Wait.Begin w) y ≡ true → reply_fits w y ≡ true
not_fresh true w y b h = absurd (true≢false (sym h ∙ b))
not_fresh false w y b h = h

-- so "not ready" leaves the operation as it was
pub still_there : (op : Op) → reply_fits (wait_of op) Reply.NotReady ≡ true → with_plan op op.plan ≡ op
still_there op h = go op.fresh refl h
  where
    go : (t : Bool) → op.fresh ≡ t → reply_fits (cond t Wait.Begin (wait_first op.key op.n (first op.plan.edits) op.plan.next)) Reply.NotReady ≡ true → with_plan op op.plan ≡ op
    go true e h = absurd (true≢false (sym h))
    go false e h = λ i. record { s = op.s; n = op.n; key = op.key; lent = op.lent; fresh = sym e i; plan = op.plan }

-- "not ready" comes where a service is asked for
waits_low : (s len : ℕ) (w : Wait) → reply_fits w Reply.NotReady ≡ true → request_refusal (request_for s len w) ≤ 10
waits_low s len Wait.Begin h = absurd (true≢false (sym h))
waits_low s len (Wait.Read r) h = omega arith
waits_low s len (Wait.Edit e) h = omega (arith, edit_none s len e)
waits_low s len (Wait.Over answer) h = absurd (true≢false (sym h))

-- "begin" comes to a fresh operation alone, and one that keeps the rule has a service to ask for
begins_low : (t : Bool) (s len key n : ℕ) (f : Option Edit) (next : Then) → fresh_fits t f next ≡ true → rests f next ≡ true
    → reply_fits (cond t Wait.Begin (wait_first key n f next)) Reply.Begin ≡ true → request_refusal (request_for s len (wait_first key n f next)) ≤ 10
begins_low t s len key n (Some e) next h c w = omega (arith, edit_none s len e)
begins_low true s len key n None (Then.Ends answer) h c w = absurd (true≢false (sym h))
begins_low false s len key n None (Then.Ends answer) h c w = absurd (true≢false (sym w))
begins_low t s len key n None (Then.Seek aim i seen) h c w = omega arith
begins_low t s len key n None (Then.Sweep r k) h c w = omega arith
begins_low t s len key n None (Then.Gives r x again) h c w = absurd (true≢false (sym c))

-- The refusal of a step whose call fits, by the reply: 12 with "failed", else none of 11 and 12.
pub data Replied (refusal : ℕ) : Reply → Type 0 where
  failed : refusal ≡ 12 → Replied refusal Reply.Failed
  begun : refusal ≤ 10 → Replied refusal Reply.Begin
  done : refusal ≤ 10 → Replied refusal Reply.Done
  waiting : refusal ≤ 10 → Replied refusal Reply.NotReady

next_replied : (op : Op) (y : Reply) (region : List ℕ) → Ruled op → reply_fits (wait_of op) y ≡ true → Replied (request_refusal (request_of (next_op op y region))) y
next_replied op Reply.Begin region k h =
    begun (begins_low op.fresh op.s (value_lent op.lent) op.key op.n (first op.plan.edits) op.plan.next k.fresh_good (plan_of op k).at_rest h)
next_replied op Reply.Done region k h =
    let f = first op.plan.edits in
    let w = not_fresh op.fresh (wait_first op.key op.n f op.plan.next) Reply.Done refl h in
    done
    (request_low op.s (value_lent op.lent) op.key op.n (first (given op.n op.lent region (advance op region)).edits) (given op.n op.lent region (advance op region)).next
    (given_low op.n op.lent region (advance op region) (advance_low op region f (plan_of op k).at_rest w)))
next_replied op Reply.NotReady region k h =
    let w = wait_first op.key op.n (first op.plan.edits) op.plan.next in
    waiting (waits_low op.s (value_lent op.lent) w (not_fresh op.fresh w Reply.NotReady refl h))
next_replied op Reply.Failed region k h = failed refl

module _ (op : Op) (y : Reply) (region value buffer : List ℕ) where
  -- Any step: its call does not fit and it is BadCall, or it fits and the reply says which.
  pub data Refuses (refusal : ℕ) : Type 0 where
    unfit : fits_here op y region value buffer ≡ false → refusal ≡ 11 → Refuses refusal
    fit : fits_here op y region value buffer ≡ true → Replied refusal y → Refuses refusal

  pub step_refuses : Refuses (request_refusal (stepped op y region value buffer).request)
  unfolding stepped
  step_refuses = go (fits_here op y region value buffer) refl
    where
      go : (t : Bool) → fits_here op y region value buffer ≡ t
          → Refuses
          (request_refusal
          (cond {A = Stepped} t (record { op = next_op op y region; request = request_of (next_op op y region) }) (record { op = op; request = Request.Answers (Err Refusal.BadCall) })).request)
      go true h = let (k, _, _, apt) = fits_ruled op y (length region) (length value) (length buffer) h in fit h (next_replied op y region k apt)
      go false h = unfit h refl

  pub is_bad_call : {refusal : ℕ} → Refuses refusal → refusal ≡ 11 → fits_here op y region value buffer ≡ false
  is_bad_call (unfit h e) q = h
  is_bad_call (fit h r) q = absurd (not_eleven r q)
    where
      not_eleven : {refusal : ℕ} {z : Reply} → Replied refusal z → refusal ≡ 11 → ⊥
      not_eleven (failed e) q = omega arith
      not_eleven (begun l) q = omega arith
      not_eleven (done l) q = omega arith
      not_eleven (waiting l) q = omega arith

  pub is_flash_failed : {refusal : ℕ} → Refuses refusal → refusal ≡ 12 → (fits_here op y region value buffer ≡ true) × (y ≡ Reply.Failed)
  is_flash_failed (unfit h e) q = absurd (omega arith)
  is_flash_failed (fit h r) q = (h, twelve r q)
    where
      twelve : {refusal : ℕ} {z : Reply} → Replied refusal z → refusal ≡ 12 → z ≡ Reply.Failed
      twelve (failed e) q = refl
      twelve (begun l) q = absurd (omega arith)
      twelve (done l) q = absurd (omega arith)
      twelve (waiting l) q = absurd (omega arith)
