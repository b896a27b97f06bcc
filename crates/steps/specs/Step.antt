-- One step: what a running operation becomes, what it asks for, and what it leaves in the lent buffers.
use Rattle.std.specs.Prelude.{ℕ, Bool, cond, List, length, Err}
use Rattle.refusals.specs.declared.Refusal.{Refusal}
use Rattle.running.specs.declared.Op.{Op}
use Rattle.running.specs.declared.Reply.{Reply}
use Rattle.running.specs.declared.Request.{Request}
use Rattle.running.specs.Waits.{with_plan, request_of}
use Rattle.rule.specs.Rule.{call_fits}
use Rattle.steps.specs.declared.Stepped.{Stepped}
use Rattle.advancing.specs.Advance.{next_plan, buffer_on}
use Rattle.laying.specs.Lend.{laid_on}

-- R6.11: whether a step's call fits, by the lengths of what is lent: BadCall where not.
abbrev pub fits_here : Op → Reply → List ℕ → List ℕ → List ℕ → Bool
fits_here op y region value buffer = call_fits op y (length region) (length value) (length buffer)

-- R8.3: the operation as it then stands.
abbrev pub next_op : Op → Reply → List ℕ → Op
next_op op y region = with_plan op (next_plan op y region)

-- R8.3: a step hands back the operation and a request or an answer. BadCall leaves the operation as it was (R6.11).
unfoldable pub stepped : Op → Reply → List ℕ → List ℕ → List ℕ → Stepped
stepped op y region value buffer =
    cond (fits_here op y region value buffer) (record { op = next_op op y region; request = request_of (next_op op y region) })
    (record { op = op; request = Request.Answers (Err Refusal.BadCall) })

-- R8.6: the region buffer after a step. BadCall leaves it as it was (R6.11).
unfoldable pub region_after : Op → Reply → List ℕ → List ℕ → List ℕ → List ℕ
region_after op y region value buffer = cond (fits_here op y region value buffer) (laid_on y (next_op op y region) region value) region

-- R8.7: get's buffer after a step. BadCall leaves it as it was (R6.11).
unfoldable pub buffer_after : Op → Reply → List ℕ → List ℕ → List ℕ → List ℕ
buffer_after op y region value buffer = cond (fits_here op y region value buffer) (buffer_on op y region buffer) buffer
