-- What makes a step a BadCall, in words, over the numbers and the bytes that a caller passes. Nothing here says how numbers are read: an operation's
-- own numbers are `packed` of it, and every one that a start hands out, or a step makes of such a one, is `few` (stilefray: start-few, step-few).
-- `lent` is 1 where a value is lent and 2 where a buffer is, of `len` bytes; `fresh` is 1 before the first step; the replies are 0 begin, 1 done, 2
-- not ready, 3 failed; `next` is 6 after the end.
use Rattle.std.specs.Prelude.{ℕ, ◌<◌, ◌≡◌, true, List, length}
use Rattle.running.specs.declared.Op.{Op}
use Rattle.rule.specs.Rule.{rule}
use Rattle.operations.specs.declared.COperation.{COperation}
use Rattle.numbers.specs.Packs.{few, packed}

-- R6.11: BadCall, clause by clause. More than one of them may hold of a call.
pub data Misfits (o : COperation) (y : ℕ) (region value buffer : List ℕ) : Type 0 where
  -- R6.11: the region buffer has not S bytes.
  region_buffer : (length region ≡ o.s → ⊥) → Misfits o y region value buffer
  -- R6.11: append's value has not the length that was named at the start.
  value_length : o.lent ≡ 1 → (length value ≡ o.len → ⊥) → Misfits o y region value buffer
  -- R6.11: get's buffer has not the length that was named at the start.
  buffer_length : o.lent ≡ 2 → (length buffer ≡ o.len → ⊥) → Misfits o y region value buffer
  -- R6.11: "begin" is replied at any but the first step.
  begins_late : o.fresh ≡ 0 → y ≡ 0 → Misfits o y region value buffer
  -- R6.11: anything else is replied at the first.
  another_first : o.fresh ≡ 1 → (y ≡ 0 → ⊥) → Misfits o y region value buffer
  -- R6.11: the reply is none of the four (R12.3).
  no_reply : 3 < y → Misfits o y region value buffer
  -- R6.11: the operation has answered already (R12.7).
  after_the_end : o.next ≡ 6 → Misfits o y region value buffer
  -- R6.11: the numbers are not those of any operation that keeps the written rule: they stand for none (R12.5), or for one that breaks it (R8.10). An
  -- end's numbers stand for none too (R12.7), but are those of an operation that has answered and keeps the rule: `after_the_end` is their clause.
  no_operation : ((op : Op) → rule op ≡ true → few op.plan.edits ≡ true → o ≡ packed op → ⊥) → Misfits o y region value buffer
