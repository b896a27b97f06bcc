-- One step in numbers: steps' `stepped`, `region_after` and `buffer_after` on what the numbers stand for.
use Rattle.std.specs.Prelude.{ℕ, List, Option, Some, None, Err}
use Rattle.refusals.specs.declared.Refusal.{Refusal}
use Rattle.running.specs.declared.Op.{Op}
use Rattle.running.specs.declared.Reply.{Reply}
use Rattle.running.specs.declared.Request.{Request}
use Rattle.steps.specs.declared.Stepped.{Stepped}
use Rattle.steps.specs.Step.{stepped, region_after, buffer_after}
use Rattle.operations.specs.declared.COperation.{COperation}
use Rattle.numbers.specs.declared.CStepped.{CStepped}
use Rattle.replies.specs.Answers.{request_numbers}
use Rattle.numbers.specs.Packs.{packed}
use Rattle.operations.specs.Unpacks.{KnownOp, unpacked, known_reply}

-- R6.11: BadCall leaves the running operation as it was: all its numbers.
abbrev pub bad_call : COperation → CStepped
bad_call o = record { op = o; request = request_numbers (Request.Answers (Err Refusal.BadCall)) }

-- R12.7: what a step hands back, in numbers.
abbrev pub packed_step : Stepped → CStepped
packed_step t = record { op = packed t.op; request = request_numbers t.request }

-- R6.11: numbers that stand for no operation (R12.5) or no reply (R12.3) are BadCall, and alter nothing.
abbrev pub on_known : {A : Type 0} → A → (Op → Reply → A) → KnownOp → Option Reply → A
on_known other runs KnownOp.Unknown y = other
on_known other runs (KnownOp.Known op) None = other
on_known other runs (KnownOp.Known op) (Some y) = runs op y

-- R12.7: a step on numbers is the step on what they stand for.
unfoldable pub step_numbers : COperation → ℕ → List ℕ → List ℕ → List ℕ → CStepped
step_numbers o reply region value buffer =
    on_known (bad_call o) (λ op y. packed_step (stepped op y region value buffer)) (unpacked o) (known_reply reply)

-- R12.7: so is what it leaves in the region buffer (R8.6),
unfoldable pub step_region : COperation → ℕ → List ℕ → List ℕ → List ℕ → List ℕ
step_region o reply region value buffer =
    on_known region (λ op y. region_after op y region value buffer) (unpacked o) (known_reply reply)

-- R12.7: and in get's buffer (R8.7).
unfoldable pub step_buffer : COperation → ℕ → List ℕ → List ℕ → List ℕ → List ℕ
step_buffer o reply region value buffer =
    on_known buffer (λ op y. buffer_after op y region value buffer) (unpacked o) (known_reply reply)
