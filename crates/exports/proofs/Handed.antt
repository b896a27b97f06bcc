-- What a step that is no BadCall hands back: numbers of the operation that it made, which keeps the rule, and that operation's request.
-- Assumes nothing.
use Prim.Native.Nat.{ℕ}
use native.Mathlib.Omega.{arith}
use mathlib.Core.Path.{◌≡◌, refl, sym, ◌∙◌, ap}
use mathlib.Core.Bool.{Bool, true, false, true≢false}
use mathlib.Core.List.{List}
use lib.ListN.{length, take, drop}
use Rattle.std.specs.Prelude.{Some}
use Rattle.plans.specs.declared.Lent.{Lent}
use Rattle.plans.specs.Answers.{Answer}
use Rattle.running.specs.declared.Op.{Op}
use Rattle.running.specs.declared.Reply.{Reply}
use Rattle.running.specs.declared.Request.{Request}
use Rattle.running.specs.Waits.{request_of}
use Rattle.rule.specs.Rule.{rule}
use Rattle.steps.specs.Step.{next_op, fits_here, stepped}
use Rattle.replies.specs.Answers.{request_numbers}
use Rattle.operations.specs.declared.COperation.{COperation}
use Rattle.operations.specs.Unpacks.{known_reply}
use Rattle.numbers.specs.declared.CStepped.{CStepped}
use Rattle.numbers.specs.Packs.{few, packed}
use Rattle.numbers.proofs.Standing.{Standing, runs, breaks, ended, stood}
use Rattle.stilefray.specs.Stepped.{packed_step, step_numbers, step_region, step_buffer}
use Rattle.stilefray.proofs.Few.{next_few}
use Rattle.stilefray.proofs.Theorems.{step_carries}
use Rattle.stepwise.specs.Asked.{asks, request_refusal}
use Rattle.stepwise.specs.Misfit.{LentRight}
use Rattle.stepwise.proofs.Theorems as Steps
use Rattle.exports.specs.Misfits.{Misfits}
use Rattle.exports.proofs.Read.{Reads, reads, lent_value, lent_buffer_lem, answers_ended, packed_over}
use Rattle.exports.proofs.Called as Call

-- A request by its number.

is_answer : (q : Request) → (request_numbers q).kind ≡ 4 → (answer : Answer) × (q ≡ Request.Answers answer)
is_answer (Request.Read r) e = absurd (omega arith)
is_answer (Request.Write a b p) e = absurd (omega arith)
is_answer (Request.Erase r) e = absurd (omega arith)
is_answer (Request.Answers answer) e = (answer, refl)

is_write : (q : Request) → (request_numbers q).kind ≡ 2 → q ≡ Request.Write (request_numbers q).from (request_numbers q).to (request_numbers q).place
is_write (Request.Read r) e = absurd (omega arith)
is_write (Request.Write a b p) e = refl
is_write (Request.Erase r) e = absurd (omega arith)
is_write (Request.Answers answer) e = absurd (omega arith)

is_service : (q : Request) → ((request_numbers q).kind ≡ 4 → ⊥) → asks q ≡ true
is_service (Request.Read r) h = refl
is_service (Request.Write a b p) h = refl
is_service (Request.Erase r) h = refl
is_service (Request.Answers answer) h = absurd (h refl)

-- An operation that keeps the rule and has answered has the number of the end.
answered_6 : (op : Op) → rule op ≡ true → few op.plan.edits ≡ true → op.fresh ≡ false → (request_numbers (request_of op)).kind ≡ 4 → (packed op).next ≡ 6
answered_6 op r h f e = go (stood op h)
  where
    go : Standing op → (packed op).next ≡ 6
    go (runs k) = let (_, answers) = is_answer (request_of op) e in answers_ended (reads (packed op) op k) f answers
    go (breaks _ b _) = absurd (true≢false (sym r ∙ b))
    go (ended _ v _) = packed_over op v

module _ (o : COperation) (y : ℕ) (region value buffer : List ℕ) where
  -- What a step hands back: nothing runs, or an operation's step that fits.
  data Handed : CStepped → Type 0 where
    bad : {t : CStepped} → Misfits o y region value buffer → t.request.kind ≡ 4 → Handed t
    hands : (op : Op) (said : Reply) → Reads o op → rule (next_op op said region) ≡ true → few (next_op op said region).plan.edits ≡ true
        → Handed (packed_step (record { op = next_op op said region; request = request_of (next_op op said region) }))

  fitting : (op : Op) (said : Reply) → Reads o op → known_reply y ≡ Some said → (t : Bool) → fits_here op said region value buffer ≡ t
      → Handed (packed_step (stepped op said region value buffer))
  unfolding stepped
  fitting op said k f true h = rw h (hands op said k (Steps.next_keeps op said region value buffer h) (next_few op said region k.few_left))
  fitting op said k f false h =
      let eleven : request_refusal (stepped op said region value buffer).request ≡ 11 = rw h in
      rw h (bad (Call.to_numbers o y region value buffer k f ((Steps.bad_call_exactly_when op said region value buffer).0 eleven)) refl)

  handed : Handed (step_numbers o y region value buffer)
  handed = go (Call.called o y region value buffer)
    where
      go : {t : CStepped} {r b : List ℕ} → Call.Called o y region value buffer t r b → Handed t
      go (Call.nothing m) = bad m refl
      go (Call.runs op said k f) = fitting op said k f (fits_here op said region value buffer) refl

  pub answers_6 : (Misfits o y region value buffer → ⊥) → (step_numbers o y region value buffer).request.kind ≡ 4 → (step_numbers o y region value buffer).op.next ≡ 6
  answers_6 fits = go handed
    where
      go : {t : CStepped} → Handed t → t.request.kind ≡ 4 → t.op.next ≡ 6
      go (bad m _) e = absurd (fits m)
      go (hands op said k r h) e = answered_6 (next_op op said region) r h refl e

  pub rest_left : (step_numbers o y region value buffer).request.kind ≡ 2
      → let q = (step_numbers o y region value buffer).request in
      let region' = step_region o y region value buffer in
      (length region' ≡ length region) × (take q.from region' ≡ take q.from region) × (drop q.to region' ≡ drop q.to region)
  rest_left = go (Call.called o y region value buffer)
    where
      go : {t : CStepped} {r b : List ℕ} → Call.Called o y region value buffer t r b → t.request.kind ≡ 2
          → (length r ≡ length region) × (take t.request.from r ≡ take t.request.from region) × (drop t.request.to r ≡ drop t.request.to region)
      go (Call.nothing m) e = absurd (omega arith)
      go (Call.runs op said k f) e = Steps.rest_stays op said region value buffer (is_write (stepped op said region value buffer).request e)

  -- "Not ready" with what is lent of the right lengths, after a step that has asked for a service.
  module _ (region' value' buffer' : List ℕ) (long : length region' ≡ o.s) (lends : o.lent ≡ 1 → length value' ≡ o.len) (room : o.lent ≡ 2 → length buffer' ≡ o.len) where
    lent_right : {op : Op} → Reads o op → LentRight op.lent value' buffer'
    lent_right {op} k = go op.lent refl
      where
        go : (lent : Lent) → op.lent ≡ lent → LentRight lent value' buffer'
        go Lent.Nothing e = LentRight.nothing_lent
        go (Lent.Value len) e = let (l, named) = lent_value k e in LentRight.value_lent (lends l ∙ named)
        go (Lent.Buffer len) e = let (l, named) = lent_buffer_lem k e in LentRight.buffer_lent (room l ∙ named)

    pub asked_again : ((step_numbers o y region value buffer).request.kind ≡ 4 → ⊥)
        → let t = step_numbers o y region value buffer in
        (step_numbers t.op 2 region' value' buffer' ≡ t) × (step_region t.op 2 region' value' buffer' ≡ region') × (step_buffer t.op 2 region' value' buffer' ≡ buffer')
    asked_again = go handed
      where
        go : {t : CStepped} → Handed t → (t.request.kind ≡ 4 → ⊥)
            → (step_numbers t.op 2 region' value' buffer' ≡ t) × (step_region t.op 2 region' value' buffer' ≡ region') × (step_buffer t.op 2 region' value' buffer' ≡ buffer')
        go (bad m e) a = absurd (a e)
        go (hands op said k r h) a =
            let op' = next_op op said region in
            let fits = Steps.reply_fits_lem op' Reply.NotReady region' value' buffer' r (is_service (request_of op') a) refl (long ∙ sym k.same_s) (lent_right k) in
            let (t, left, filled) = Steps.not_ready op' region' value' buffer' fits in
            let (t', left', filled') = step_carries op' h Reply.NotReady region' value' buffer' in
            (t' ∙ ap packed_step t, left' ∙ left, filled' ∙ filled)
