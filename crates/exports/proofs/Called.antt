-- A step in numbers, by what its numbers stand for: nothing, and then it is BadCall, or an operation and a reply, and then it is their step.
-- Assumes nothing.
use Prim.Native.Nat.{ℕ}
use native.Mathlib.Omega.{arith}
use mathlib.Core.Path.{◌≡◌, refl, sym, ◌∙◌, ap, subst}
use mathlib.Core.Bool.{Bool, true, false, true≢false}
use mathlib.Core.List.{List}
use mathlib.Core.Logic.{⊎_elim}
use lib.Dec.{eqb}
use borrow.Author.Tests.{eqb-true, eqb-false}
use Rattle.std.specs.Prelude.{Option, Some, None}
use Rattle.running.specs.declared.Op.{Op}
use Rattle.running.specs.declared.Reply.{Reply}
use Rattle.running.specs.declared.Request.{Request}
use Rattle.rule.specs.Rule.{rule}
use Rattle.steps.specs.Step.{stepped, region_after, buffer_after}
use Rattle.replies.specs.Answers.{request_numbers}
use Rattle.operations.specs.declared.COperation.{COperation}
use Rattle.operations.specs.Unpacks.{KnownOp, unpacked, reply_number, known_reply}
use Rattle.numbers.specs.declared.CStepped.{CStepped}
use Rattle.numbers.specs.Packs.{few, packed}
use Rattle.numbers.proofs.Own.{own}
use Rattle.numbers.proofs.Theorems.{refusal_numbers}
use Rattle.stilefray.specs.Stepped.{bad_call, packed_step, step_numbers, step_region, step_buffer}
use Rattle.stilefray.proofs.Called.{no_op, no_reply, fit}
use Rattle.stepwise.specs.Asked.{request_refusal, Inside}
use Rattle.stepwise.specs.Misfit.{Misfit}
use Rattle.exports.specs.Misfits.{Misfits}
use Rattle.exports.specs.Inside.{InsideNumbers}
use Rattle.exports.proofs.Read.{Reads, reads, one_op, not_both, ended_unknown, stands_or_ended}
use Rattle.exports.proofs.Read.{lent_value, lent_buffer_lem, value_lent_lem, buffer_lent_lem, first_yet, begun, is_first, is_begun, answers_ended, replied, no_reply_over, too_high, is_begin}

module _ (o : COperation) (y : ℕ) (region value buffer : List ℕ) where
  -- What a step hands back, and what it leaves in region and buffer.
  pub data Called : CStepped → List ℕ → List ℕ → Type 0 where
    nothing : Misfits o y region value buffer → Called (bad_call o) region buffer
    runs : (op : Op) (said : Reply) → Reads o op → known_reply y ≡ Some said
        → Called (packed_step (stepped op said region value buffer)) (region_after op said region value buffer) (buffer_after op said region value buffer)

  -- Numbers that stand for no operation say the end, or are those of none that keeps the rule.
  unknown : unpacked o ≡ KnownOp.Unknown → Misfits o y region value buffer
  unknown e = go (eqb o.next 6) refl
    where
      go : (t : Bool) → eqb o.next 6 ≡ t → Misfits o y region value buffer
      go true h = Misfits.after_the_end (eqb-true o.next 6 h)
      go false h = Misfits.no_operation (λ op r few p. ⊎_elim (eqb-false o.next 6 h) (λ k. not_both (reads o op k) e) (stands_or_ended o op r few p))

  pub called : Called (step_numbers o y region value buffer) (step_region o y region value buffer) (step_buffer o y region value buffer)
  called = go (unpacked o) (known_reply y) refl refl
    where
      same : {t t' : CStepped} {r r' b b' : List ℕ} → (t ≡ t') × (r ≡ r') × (b ≡ b') → Called t' r' b' → Called t r b
      same {t} {t'} {r} {r'} {b} {b'} (p, q, u) c =
          subst (λ (i : CStepped). Called i r b) (sym p) (subst (λ (i : List ℕ). Called t' i b) (sym q) (subst (λ (i : List ℕ). Called t' r' i) (sym u) c))

      go : (k : KnownOp) (s : Option Reply) → unpacked o ≡ k → known_reply y ≡ s
          → Called (step_numbers o y region value buffer) (step_region o y region value buffer) (step_buffer o y region value buffer)
      go KnownOp.Unknown s e f = same (no_op o y region value buffer e) (nothing (unknown e))
      go (KnownOp.Known op) None e f = same (no_reply o y region value buffer f) (nothing (Misfits.no_reply (omega (arith, no_reply_over y f))))
      go (KnownOp.Known op) (Some said) e f = same (fit o y region value buffer op said e f) (runs op said (reads o op e) f)

  -- R6.11: its clauses for numbers that stand for an operation and a reply are those for the operation and the reply.

  -- no operation that keeps the rule has the numbers of one that breaks it
  no_rule : {op : Op} → Reads o op → rule op ≡ false → (op' : Op) → rule op' ≡ true → few op'.plan.edits ≡ true → o ≡ packed op' → ⊥
  no_rule k h op' r left p =
      ⊎_elim (λ e. not_both k (ended_unknown o e)) (λ e. true≢false (sym r ∙ ap rule (one_op k e) ∙ h)) (stands_or_ended o op' r left p)

  pub to_numbers : {op : Op} {said : Reply} → Reads o op → known_reply y ≡ Some said → Misfit op said region value buffer → Misfits o y region value buffer
  to_numbers k f (Misfit.region_buffer h) = Misfits.region_buffer (λ e. h (e ∙ sym k.same_s))
  to_numbers k f (Misfit.value_length e h) = let (l, len) = lent_value k e in Misfits.value_length l (λ z. h (omega (arith, len)))
  to_numbers k f (Misfit.buffer_length e h) = let (l, len) = lent_buffer_lem k e in Misfits.buffer_length l (λ z. h (omega (arith, len)))
  to_numbers k f (Misfit.begins_late e h) = Misfits.begins_late (begun k e) (replied f ∙ ap reply_number h)
  to_numbers k f (Misfit.another_first e h) = Misfits.another_first (first_yet k e) (λ z. h (is_begin _ (sym (replied f) ∙ z)))
  to_numbers k f (Misfit.after_the_end e h) = Misfits.after_the_end (omega (arith, answers_ended k e h))
  to_numbers k f (Misfit.rule_broken h) = Misfits.no_operation (no_rule k h)

  pub of_numbers : {op : Op} {said : Reply} → Reads o op → known_reply y ≡ Some said → Misfits o y region value buffer → Misfit op said region value buffer
  of_numbers k f (Misfits.region_buffer h) = Misfit.region_buffer (λ e. h (e ∙ k.same_s))
  of_numbers k f (Misfits.value_length e h) = Misfit.value_length (value_lent_lem k e) (λ z. h (omega arith))
  of_numbers k f (Misfits.buffer_length e h) = Misfit.buffer_length (buffer_lent_lem k e) (λ z. h (omega arith))
  of_numbers k f (Misfits.begins_late e h) = Misfit.begins_late (is_begun k e) (is_begin _ (sym (replied f) ∙ h))
  of_numbers k f (Misfits.another_first e h) = Misfit.another_first (is_first k e) (λ z. h (replied f ∙ ap reply_number z))
  of_numbers k f (Misfits.no_reply l) = absurd (too_high f (omega arith))
  of_numbers k f (Misfits.after_the_end e) = absurd (not_both k (ended_unknown o e))
  of_numbers {op} {said} k f (Misfits.no_operation none) = go (rule op) refl
    where
      go : (t : Bool) → rule op ≡ t → Misfit op said region value buffer
      go true r = absurd (none op r k.few_left (own o op k.known))
      go false r = Misfit.rule_broken r

-- The refusal's number in a request is that of the request.
pub refused : (q : Request) → (request_numbers q).answer.refusal ≡ request_refusal q
refused (Request.Read r) = refl
refused (Request.Write a e p) = refl
refused (Request.Erase r) = refl
refused (Request.Answers answer) = refusal_numbers answer

-- A request that lies in a chip lies there in numbers.
pub inside_numbers : {s n : ℕ} {q : Request} → Inside s n q → InsideNumbers s n (request_numbers q)
inside_numbers (Inside.reads l) = InsideNumbers.reads refl l
inside_numbers (Inside.writes r l f t) = InsideNumbers.writes r refl l f (omega arith) refl
inside_numbers (Inside.erases l) = InsideNumbers.erases refl (omega arith)
inside_numbers Inside.answers = InsideNumbers.answers refl
