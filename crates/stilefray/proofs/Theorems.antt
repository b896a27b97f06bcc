-- A run through numbers is a run of steps.
-- Assumes nothing.
use Prim.Native.Nat.{ℕ}
use mathlib.Core.Path.{◌≡◌, refl, sym, ◌∙◌, ap}
use mathlib.Core.Bool.{Bool, true, false}
use mathlib.Core.List.{List}
use mathlib.Core.Logic.{◌⊎◌, ⊎_elim}
use Rattle.std.specs.Prelude.{Result, Ok, Err, Some, None}
use Rattle.plans.specs.declared.Aim.{Aim}
use Rattle.plans.specs.declared.Lent.{Lent}
use Rattle.plans.specs.Writes.{value_lent}
use Rattle.running.specs.declared.Op.{Op}
use Rattle.running.specs.declared.Reply.{Reply}
use Rattle.running.specs.Starts.{start_refusal, started_or, look_started, collect_started}
use Rattle.running.specs.Waits.{with_plan}
use Rattle.steps.specs.Step.{fits_here, stepped, region_after, buffer_after}
use Rattle.operations.specs.declared.COperation.{COperation}
use Rattle.numbers.specs.declared.CStepped.{CStepped}
use Rattle.numbers.specs.Packs.{few, packed, start_few}
use Rattle.operations.specs.Unpacks.{KnownOp, unpacked, reply_number, known_reply}
use Rattle.numbers.proofs.Own.{own}
use Rattle.numbers.proofs.Standing.{Standing, runs, breaks, ended, stood, waits_begun}
use Rattle.numbers.proofs.Theorems.{known_number}
use Rattle.stilefray.specs.Stepped.{bad_call, packed_step, step_numbers, step_region, step_buffer}
use Rattle.stilefray.proofs.Called.{Steps, no_op, no_reply, misfit, fit, misfits, waits}
use Rattle.stilefray.proofs.Few.{next_few}
use Rattle.refusals.specs.declared.Refusal.{Refusal}

-- R12.6: every operation that a start hands out has numbers: no edit is left to do.
pub start_few_lem : ((aim : Aim) (s n key : ℕ) (lent : Lent) → start_few (look_started aim s n key lent) ≡ true) × ((s n : ℕ) → start_few (collect_started s n) ≡ true)
start_few_lem = ((λ aim s n key lent. go _ refl (start_refusal s n key (value_lent lent))), λ s n. go _ refl (start_refusal s n 1 0))
  where
    go : (op : Op) → few op.plan.edits ≡ true → (check : Result (Unit {0}) Refusal) → start_few (started_or op check) ≡ true
    go op e (Ok u) = e
    go op e (Err w) = refl

-- R12.7: and so has what a step makes of one.
pub step_few : (op : Op) (y : Reply) (region value buffer : List ℕ) → few op.plan.edits ≡ true → few (stepped op y region value buffer).op.plan.edits ≡ true
unfolding stepped
step_few op y region value buffer h = go (fits_here op y region value buffer) refl
  where
    go : (b : Bool) → fits_here op y region value buffer ≡ b → few (stepped op y region value buffer).op.plan.edits ≡ true
    go true g = rw g (next_few op y region h)
    go false g = rw g h

-- R12.7: a step on the numbers of such an operation is the step of the operation, in numbers, and leaves the same bytes: a run through numbers is a run
-- of steps.
pub step_carries : (op : Op) → few op.plan.edits ≡ true → (y : Reply) (region value buffer : List ℕ)
    → (step_numbers (packed op) (reply_number y) region value buffer ≡ packed_step (stepped op y region value buffer))
    × (step_region (packed op) (reply_number y) region value buffer ≡ region_after op y region value buffer)
    × (step_buffer (packed op) (reply_number y) region value buffer ≡ buffer_after op y region value buffer)
step_carries op h y region value buffer = go (stood op h)
  where
    o : COperation
    o = packed op

    go : Standing op
        → Steps o (reply_number y) region value buffer (packed_step (stepped op y region value buffer)) (region_after op y region value buffer) (buffer_after op y region value buffer)
    go (runs e) = fit o _ region value buffer op y e (known_number y)
    go (breaks e _ f) = misfits _ op y region value buffer (f y _ _ _) (no_op o _ region value buffer e)
    go (ended e _ f) = misfits _ op y region value buffer (f y _ _ _) (no_op o _ region value buffer e)

-- R6.11: BadCall leaves the running operation as it was: numbers that stand for no running operation, or for no reply, come back as they were, and
-- region and buffer too.
pub bad_call_keeps : (o : COperation) (y : ℕ) (region value buffer : List ℕ) → (unpacked o ≡ KnownOp.Unknown) ⊎ (known_reply y ≡ None)
    → (step_numbers o y region value buffer ≡ bad_call o) × (step_region o y region value buffer ≡ region) × (step_buffer o y region value buffer ≡ buffer)
bad_call_keeps o y region value buffer = ⊎_elim (no_op o y region value buffer) (no_reply o y region value buffer)

-- R6.11: a call that does not fit what its numbers stand for keeps all of them too.
pub misfit_keeps : (o : COperation) (y : ℕ) (region value buffer : List ℕ) (op : Op) (said : Reply)
    → unpacked o ≡ KnownOp.Known op → known_reply y ≡ Some said → fits_here op said region value buffer ≡ false
    → (step_numbers o y region value buffer ≡ bad_call o) × (step_region o y region value buffer ≡ region) × (step_buffer o y region value buffer ≡ buffer)
misfit_keeps = misfit

-- R8.5: "not ready" alters nothing: whatever the numbers, they come back as they were, and region and buffer too.
pub not_ready_keeps : (o : COperation) (region value buffer : List ℕ)
    → ((step_numbers o (reply_number Reply.NotReady) region value buffer).op ≡ o)
    × (step_region o (reply_number Reply.NotReady) region value buffer ≡ region) × (step_buffer o (reply_number Reply.NotReady) region value buffer ≡ buffer)
not_ready_keeps o region value buffer = go (unpacked o) refl
  where
    kept : {t : CStepped} → t.op ≡ o → Steps o 2 region value buffer t region buffer
        → ((step_numbers o 2 region value buffer).op ≡ o) × (step_region o 2 region value buffer ≡ region) × (step_buffer o 2 region value buffer ≡ buffer)
    kept e h = (ap (λ (t : CStepped). t.op) h.0 ∙ e, h.1, h.2)

    stays : (op : Op) → op.fresh ≡ false → with_plan op op.plan ≡ op
    stays op f = λ i. record { s = op.s; n = op.n; key = op.key; lent = op.lent; fresh = sym f i; plan = op.plan }

    at : (op : Op) → unpacked o ≡ KnownOp.Known op → (b : Bool) → fits_here op Reply.NotReady region value buffer ≡ b
        → ((step_numbers o 2 region value buffer).op ≡ o) × (step_region o 2 region value buffer ≡ region) × (step_buffer o 2 region value buffer ≡ buffer)
    at op e false g = kept refl (misfit o 2 region value buffer op Reply.NotReady e (known_number Reply.NotReady) g)
    at op e true g = kept (ap packed (stays op (waits_begun op _ _ _ g)) ∙ sym (own o op e)) (waits o 2 region value buffer op e (known_number Reply.NotReady) g)

    go : (k : KnownOp) → unpacked o ≡ k
        → ((step_numbers o 2 region value buffer).op ≡ o) × (step_region o 2 region value buffer ≡ region) × (step_buffer o 2 region value buffer ≡ buffer)
    go KnownOp.Unknown e = kept refl (no_op o 2 region value buffer e)
    go (KnownOp.Known op) e = at op e (fits_here op Reply.NotReady region value buffer) refl
