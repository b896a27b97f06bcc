-- What makes a step a BadCall, in words, over any running operation, reply and lent bytes.
use Rattle.std.specs.Prelude.{ℕ, ◌≡◌, true, false, List, length}
use Rattle.plans.specs.declared.Lent.{Lent}
use Rattle.plans.specs.Answers.{Answer}
use Rattle.running.specs.declared.Op.{Op}
use Rattle.running.specs.declared.Reply.{Reply}
use Rattle.running.specs.declared.Request.{Request}
use Rattle.running.specs.Waits.{request_of}
use Rattle.rule.specs.Rule.{rule}

-- R6.11: BadCall, clause by clause.
pub data Misfit (op : Op) (y : Reply) (region value buffer : List ℕ) : Type 0 where
  -- R6.11: the region buffer has not S bytes.
  region_buffer : (length region ≡ op.s → ⊥) → Misfit op y region value buffer
  -- R6.11: append's value has not the length that was named at the start.
  value_length : {len : ℕ} → op.lent ≡ Lent.Value len → (length value ≡ len → ⊥) → Misfit op y region value buffer
  -- R6.11: get's buffer has not the length that was named at the start.
  buffer_length : {len : ℕ} → op.lent ≡ Lent.Buffer len → (length buffer ≡ len → ⊥) → Misfit op y region value buffer
  -- R6.11: "begin" is replied at any but the first step.
  begins_late : op.fresh ≡ false → y ≡ Reply.Begin → Misfit op y region value buffer
  -- R6.11: anything else is replied at the first.
  another_first : op.fresh ≡ true → (y ≡ Reply.Begin → ⊥) → Misfit op y region value buffer
  -- R6.11: the operation has answered already.
  after_the_end : {answer : Answer} → op.fresh ≡ false → request_of op ≡ Request.Answers answer → Misfit op y region value buffer
  -- R6.11: the operation breaks the written rule (R8.10).
  rule_broken : rule op ≡ false → Misfit op y region value buffer

-- R6.11: what is lent has the length that was named at the start.
pub data LentRight : Lent → List ℕ → List ℕ → Type 0 where
  nothing_lent : {value buffer : List ℕ} → LentRight Lent.Nothing value buffer
  value_lent : {len : ℕ} {value buffer : List ℕ} → length value ≡ len → LentRight (Lent.Value len) value buffer
  buffer_lent : {len : ℕ} {value buffer : List ℕ} → length buffer ≡ len → LentRight (Lent.Buffer len) value buffer
