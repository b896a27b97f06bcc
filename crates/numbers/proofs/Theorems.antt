-- What the numbers that C and Rust see say: nothing is lost on the way there.
-- Assumes nothing.
use mathlib.Core.Path.{◌≡◌, refl, sym, ◌∙◌, ap}
use mathlib.Core.Bool.{true, false, true≢false}
use lib.ListN.{get_or}
use Rattle.std.specs.Prelude.{Some, Ok, Err}
use Rattle.plans.specs.declared.Success.TheVariants.{Complete, Written, Freed}
use Rattle.plans.specs.Answers.{refusal, values, Answer}
use Rattle.running.specs.declared.Op.{Op}
use Rattle.running.specs.declared.Reply.{Reply}
use Rattle.running.specs.declared.Request.{Request}
use Rattle.rule.specs.Rule.{rule}
use Rattle.operations.specs.declared.COperation.{COperation}
use Rattle.replies.specs.Answers.{answer_numbers, request_numbers}
use Rattle.operations.specs.Unpacks.{no_operation, KnownOp, standing, unpacked, reply_number, known_reply}
use Rattle.numbers.specs.Packs.{few, over, packed}
use Rattle.replies.proofs.Answered.{answer_in, answer_back, request_in, request_back}
use Rattle.numbers.proofs.Own.{own, no_layout}
use Rattle.numbers.proofs.Standing.{Standing, runs, breaks, ended, stood}

-- R12.5: the numbers of an operation that keeps the written rule, waits with no more than one edit or a run of erases and has something left to do
-- stand for that operation.
pub unpacks_packed : (op : Op) → rule op ≡ true → few op.plan.edits ≡ true → over op.plan ≡ false → unpacked (packed op) ≡ KnownOp.Known op
unpacks_packed op r h v = go (stood op h)
  where
    go : Standing op → unpacked (packed op) ≡ KnownOp.Known op
    go (runs e) = e
    go (breaks _ e _) = absurd (true≢false (sym r ∙ e))
    go (ended _ e _) = absurd (true≢false (sym e ∙ v))

-- R12.5: numbers that stand for an operation are just its own: with anything more in them they stand for nothing.
pub own_numbers_only : (o : COperation) (op : Op) → unpacked o ≡ KnownOp.Known op → o ≡ packed op
own_numbers_only = own

-- R12.3: the number of a reply stands for that reply.
pub known_number : (y : Reply) → known_reply (reply_number y) ≡ Some y
unfolding known_reply
known_number Reply.Begin = refl
known_number Reply.Done = refl
known_number Reply.NotReady = refl
known_number Reply.Failed = refl

-- R12.5: numbers of another layout stand for nothing.
pub other_layout : (o : COperation) → (o.layout ≡ 8 → ⊥) → unpacked o ≡ KnownOp.Unknown
other_layout = no_layout

-- R12.6: what a refused start hands out is no running operation.
pub nothing_runs : unpacked no_operation ≡ KnownOp.Unknown
unfolding unpacked standing
nothing_runs = refl

-- R12.1: the refusal's number in an answer is its own, k for R6.k, and 0 where the answer is no refusal.
pub refusal_numbers : (answer : Answer) → (answer_numbers answer).refusal ≡ refusal answer
refusal_numbers (Ok (Complete len)) = refl
refusal_numbers (Ok Written) = refl
refusal_numbers (Ok (Freed bytes)) = refl
refusal_numbers (Err w) = refl

-- R12.1: the value in an answer is the one that the answer carries, and 0 where it carries none.
pub value_numbers : (answer : Answer) → (answer_numbers answer).value ≡ get_or (values answer) 0 0
value_numbers (Ok (Complete len)) = refl
value_numbers (Ok Written) = refl
value_numbers (Ok (Freed bytes)) = refl
value_numbers (Err w) = refl

-- R12.1: two answers with the same numbers are the same answer.
pub one_answer : (a b : Answer) → answer_numbers a ≡ answer_numbers b → a ≡ b
one_answer a b e = sym (answer_back a) ∙ ap answer_in e ∙ answer_back b

-- R12.2: two requests with the same numbers are the same request.
pub one_request : (a b : Request) → request_numbers a ≡ request_numbers b → a ≡ b
one_request a b e = sym (request_back a) ∙ ap request_in e ∙ request_back b
