-- R6.11 in words and the test of a step's call say the same: a call that fits is refused by none of the clauses, and one that does not by one of them.
-- Assumes nothing.
use Prim.Native.Nat.{ℕ}
use native.Mathlib.Omega.{arith}
use mathlib.Core.Path.{◌≡◌, refl, sym, ◌∙◌, ap, subst}
use mathlib.Core.Bool.{Bool, true, false, ◌&&◌, cond, true≢false}
use mathlib.Core.List.{List}
use mathlib.Core.Logic.{◌↔◌}
use lib.Dec.{eqb}
use lib.ListN.{length}
use borrow.Author.Tests.{eqb-true, eqb-false, eq-eqb}
use Rattle.std.specs.Prelude.{Option, Some, None}
use Rattle.plans.specs.declared.Lent.{Lent}
use Rattle.plans.specs.declared.Edit.{Edit}
use Rattle.plans.specs.declared.Then.{Then}
use Rattle.plans.specs.Answers.{Answer}
use Rattle.plans.specs.Writes.{value_lent, first}
use Rattle.running.specs.declared.Op.{Op}
use Rattle.running.specs.declared.Reply.{Reply}
use Rattle.running.specs.declared.Wait.{Wait}
use Rattle.running.specs.declared.Request.{Request}
use Rattle.running.specs.Waits.{wait_first, wait_of, request_edit, request_for, request_of}
use Rattle.rule.specs.Rule.{rule, begins, serves, reply_fits, buffers_fit, call_fits}
use Rattle.rule.proofs.Calls.{ruled, is_ruled, fits_ruled, fits_of}
use Rattle.steps.specs.Step.{fits_here, stepped}
use Rattle.stepwise.proofs.Forms.{Awaits, a_region, no_more, next_awaits}
use Rattle.stepwise.specs.Asked.{asks, request_refusal}
use Rattle.stepwise.specs.Misfit.{Misfit, region_buffer, value_length, buffer_length, begins_late, another_first, after_the_end, rule_broken}
use Rattle.stepwise.specs.Misfit.{LentRight}
use Rattle.stepwise.proofs.Exactly.{Refuses, unfit, fit, Replied, failed, begun, done, waiting, step_refuses, is_bad_call, is_flash_failed}

-- Replies.

begins_only : (y : Reply) → begins y ≡ true → y ≡ Reply.Begin
begins_only Reply.Begin h = refl
begins_only Reply.Done h = absurd (true≢false (sym h))
begins_only Reply.NotReady h = absurd (true≢false (sym h))
begins_only Reply.Failed h = absurd (true≢false (sym h))

no_service : (y : Reply) → serves y ≡ false → y ≡ Reply.Begin
no_service Reply.Begin h = refl
no_service Reply.Done h = absurd (true≢false h)
no_service Reply.NotReady h = absurd (true≢false h)
no_service Reply.Failed h = absurd (true≢false h)

-- What an operation that is not fresh waits for: a service, or nothing more.

pub edit_asks : (s len : ℕ) (e : Edit) → asks (request_edit s len e) ≡ true
edit_asks s len (Edit.Lay r o) = refl
edit_asks s len (Edit.Kill how r x) = refl
edit_asks s len (Edit.Erase r) = refl

-- a reply that comes where one is waited for is a service's, and one is asked for
fits_asks : (s len key n : ℕ) (f : Option Edit) (t : Then) (y : Reply) → reply_fits (wait_first key n f t) y ≡ true
    → (asks (request_for s len (wait_first key n f t)) ≡ true) × (serves y ≡ true)
fits_asks s len key n (Some e) t y h = (edit_asks s len e, h)
fits_asks s len key n None t y h = go (next_awaits key n t) h
  where
    go : {w : Wait} → Awaits w → reply_fits w y ≡ true → (asks (request_for s len w) ≡ true) × (serves y ≡ true)
    go a_region h = (refl, h)
    go no_more h = absurd (true≢false (sym h))

-- the other way
pub asks_fits : (s len : ℕ) (w : Wait) (y : Reply) → asks (request_for s len w) ≡ true → serves y ≡ true → reply_fits w y ≡ true
asks_fits s len Wait.Begin y a h = absurd (true≢false (sym a))
asks_fits s len (Wait.Read r) y a h = h
asks_fits s len (Wait.Edit e) y a h = h
asks_fits s len (Wait.Over answer) y a h = absurd (true≢false (sym a))

-- where none comes, it is "begin" or the operation is over
data Unfit (s len : ℕ) (w : Wait) (y : Reply) : Type 0 where
  late : y ≡ Reply.Begin → Unfit s len w y
  over : {answer : Answer} → request_for s len w ≡ Request.Answers answer → Unfit s len w y

unfits : (s len key n : ℕ) (f : Option Edit) (t : Then) (y : Reply) → reply_fits (wait_first key n f t) y ≡ false → Unfit s len (wait_first key n f t) y
unfits s len key n (Some e) t y h = late (no_service y h)
unfits s len key n None t y h = go (next_awaits key n t) h
  where
    go : {w : Wait} → Awaits w → reply_fits w y ≡ false → Unfit s len w y
    go a_region h = late (no_service y h)
    go no_more h = over refl

-- What is lent.

pub lent_fits : (lent : Lent) (value buffer : List ℕ) → LentRight lent value buffer → buffers_fit lent (length value) (length buffer) ≡ true
lent_fits Lent.Nothing value buffer h = refl
lent_fits (Lent.Value len) value buffer (LentRight.value_lent e) = eq-eqb (length value) len e
lent_fits (Lent.Buffer len) value buffer (LentRight.buffer_lent e) = eq-eqb (length buffer) len e

-- Any reply to a service fits where one is asked for.
pub fits : (op : Op) (y : Reply) (region value buffer : List ℕ) → rule op ≡ true → asks (request_of op) ≡ true → serves y ≡ true
    → length region ≡ op.s → LentRight op.lent value buffer → fits_here op y region value buffer ≡ true
fits op y region value buffer k a f l t =
    fits_of op y (length region) (length value) (length buffer)
    (ruled op k, l, lent_fits op.lent value buffer t, asks_fits op.s (value_lent op.lent) (wait_of op) y a f)

-- what an operation waits for that is not fresh
abbrev later : Op → Wait
later op = wait_first op.key op.n (first op.plan.edits) op.plan.next

pub asks_later : (op : Op) → op.fresh ≡ false → request_of op ≡ request_for op.s (value_lent op.lent) (later op)
asks_later op e = ap (λ (t : Bool). request_for op.s (value_lent op.lent) (cond t Wait.Begin (later op))) e

module _ (op : Op) (y : Reply) (region value buffer : List ℕ) where
  -- No clause speaks of a call that fits.
  no_misfit : fits_here op y region value buffer ≡ true → Misfit op y region value buffer → ⊥
  no_misfit h m = let (k, l, b, r) = fits_ruled op y (length region) (length value) (length buffer) h in go m (is_ruled op k) l b r
    where
      waits : op.fresh ≡ false → reply_fits (wait_of op) y ≡ true → reply_fits (later op) y ≡ true
      waits e r = subst (λ (t : Bool). reply_fits (cond t Wait.Begin (later op)) y ≡ true) e r

      lends : {lent : Lent} → op.lent ≡ lent → buffers_fit op.lent (length value) (length buffer) ≡ true → buffers_fit lent (length value) (length buffer) ≡ true
      lends e b = subst (λ (t : Lent). buffers_fit t (length value) (length buffer) ≡ true) e b

      go : Misfit op y region value buffer → rule op ≡ true → length region ≡ op.s → buffers_fit op.lent (length value) (length buffer) ≡ true
          → reply_fits (wait_of op) y ≡ true → ⊥
      go (region_buffer h) k l b r = h (omega (arith, l))
      go (value_length {len} e h) k l b r = h (omega (arith, eqb-true (length value) len (lends e b)))
      go (buffer_length {len} e h) k l b r = h (omega (arith, eqb-true (length buffer) len (lends e b)))
      go (begins_late e q) k l b r =
          let a = fits_asks op.s (value_lent op.lent) op.key op.n (first op.plan.edits) op.plan.next y (waits e r) in
          true≢false (sym a.1 ∙ ap serves q)
      go (another_first e h) k l b r = h (begins_only y (subst (λ (t : Bool). reply_fits (cond t Wait.Begin (later op)) y ≡ true) e r))
      go (after_the_end e q) k l b r =
          let a = fits_asks op.s (value_lent op.lent) op.key op.n (first op.plan.edits) op.plan.next y (waits e r) in
          true≢false (sym a.0 ∙ ap asks (sym (asks_later op e) ∙ q))
      go (rule_broken e) k l b r = true≢false (sym k ∙ e)

  -- One of them speaks of a call that does not.
  misfit : fits_here op y region value buffer ≡ false → Misfit op y region value buffer
  unfolding call_fits
  misfit h = on_rule (rule op) refl h
    where
      late_or_over : op.fresh ≡ false → Unfit op.s (value_lent op.lent) (later op) y → Misfit op y region value buffer
      late_or_over e (late q) = begins_late e q
      late_or_over e (over q) = after_the_end e (asks_later op e ∙ q)

      on_wait : (t : Bool) → op.fresh ≡ t → reply_fits (cond t Wait.Begin (later op)) y ≡ false → Misfit op y region value buffer
      on_wait true e h = another_first e (λ b. true≢false (sym (ap begins b) ∙ h))
      on_wait false e h = late_or_over e (unfits op.s (value_lent op.lent) op.key op.n (first op.plan.edits) op.plan.next y h)

      on_length : (t : Bool) → (t ≡ false → Misfit op y region value buffer) → (t && reply_fits (wait_of op) y) ≡ false → Misfit op y region value buffer
      on_length true m h = on_wait op.fresh refl h
      on_length false m h = m refl

      on_lent : (lent : Lent) → op.lent ≡ lent → (buffers_fit lent (length value) (length buffer) && reply_fits (wait_of op) y) ≡ false → Misfit op y region value buffer
      on_lent Lent.Nothing e h = on_wait op.fresh refl h
      on_lent (Lent.Value len) e h = on_length (eqb (length value) len) (λ q. value_length e (λ u. eqb-false (length value) len q (omega (arith, u)))) h
      on_lent (Lent.Buffer len) e h = on_length (eqb (length buffer) len) (λ q. buffer_length e (λ u. eqb-false (length buffer) len q (omega (arith, u)))) h

      on_region : (t : Bool) → eqb (length region) op.s ≡ t → (t && (buffers_fit op.lent (length value) (length buffer) && reply_fits (wait_of op) y)) ≡ false
          → Misfit op y region value buffer
      on_region true e h = on_lent op.lent refl h
      on_region false e h = region_buffer (λ u. eqb-false (length region) op.s e (omega (arith, u)))

      on_rule : (t : Bool) → rule op ≡ t → (t && (eqb (length region) op.s && (buffers_fit op.lent (length value) (length buffer) && reply_fits (wait_of op) y))) ≡ false
          → Misfit op y region value buffer
      on_rule true e h = on_region (eqb (length region) op.s) refl h
      on_rule false e h = rule_broken e

  -- So the two lines are those of the step's refusals.
  is_eleven : {refusal : ℕ} → Refuses op y region value buffer refusal → Misfit op y region value buffer → refusal ≡ 11
  is_eleven (unfit h e) m = e
  is_eleven (fit h r) m = absurd (no_misfit h m)

  is_twelve : {refusal : ℕ} → Refuses op y region value buffer refusal → (Misfit op y region value buffer → ⊥) → y ≡ Reply.Failed → refusal ≡ 12
  is_twelve (unfit h e) m q = absurd (m (misfit h))
  is_twelve (fit h r) m q = of_failed r q
    where
      of_failed : {refusal : ℕ} {z : Reply} → Replied refusal z → z ≡ Reply.Failed → refusal ≡ 12
      of_failed (failed e) q = e
      of_failed (begun l) q = absurd (let z : ◌≡◌ {A = ℕ} 0 1 = cc in omega arith)
      of_failed (done l) q = absurd (let z : ◌≡◌ {A = ℕ} 0 1 = cc in omega arith)
      of_failed (waiting l) q = absurd (let z : ◌≡◌ {A = ℕ} 0 1 = cc in omega arith)

  pub fits_when : (fits_here op y region value buffer ≡ true) ↔ (Misfit op y region value buffer → ⊥)
  fits_when = (no_misfit, λ none. go (fits_here op y region value buffer) refl none)
    where
      go : (t : Bool) → fits_here op y region value buffer ≡ t → (Misfit op y region value buffer → ⊥) → t ≡ true
      go true e none = refl
      go false e none = absurd (none (misfit e))

  pub eleven_when : (request_refusal (stepped op y region value buffer).request ≡ 11) ↔ Misfit op y region value buffer
  eleven_when = (λ e. misfit (is_bad_call op y region value buffer (step_refuses op y region value buffer) e), is_eleven (step_refuses op y region value buffer))

  pub twelve_when : (request_refusal (stepped op y region value buffer).request ≡ 12) ↔ ((Misfit op y region value buffer → ⊥) × (y ≡ Reply.Failed))
  twelve_when = (λ e. there (is_flash_failed op y region value buffer (step_refuses op y region value buffer) e), λ (m, q). is_twelve (step_refuses op y region value buffer) m q)
    where
      there : (fits_here op y region value buffer ≡ true) × (y ≡ Reply.Failed) → (Misfit op y region value buffer → ⊥) × (y ≡ Reply.Failed)
      there (h, q) = (no_misfit h, q)
