-- What get answers by a record of a region, and what its buffer then holds.
use Rattle.std.specs.Prelude.{ℕ, cond, List, ◌++◌, ltb, length, take, drop, Ok, Err}
use Rattle.format.specs.declared.Record.{Record}
use Rattle.format.specs.Layout.{check_sum_fits}
use Rattle.region.specs.Walk.{bytes_in, value_length, value_in}
use Rattle.refusals.specs.declared.Refusal.{Refusal}
use Rattle.plans.specs.declared.Success.TheVariants.{Complete}
use Rattle.plans.specs.Answers.{Answer}

-- R5.2: the buffer is shorter than the value: BufferTooSmall with the value's length, and the checksum is not looked at. Else Complete with it
-- if the checksum is right, and else InvalidCheckSum. By the record, its region, and the length of the buffer.
abbrev pub read_answer : List ℕ → Record → ℕ → Answer
read_answer region x capacity =
    cond (ltb capacity (value_length x)) (Err (Refusal.BufferTooSmall (value_length x)))
    (cond (check_sum_fits (bytes_in region x)) (Ok (Complete (value_length x))) (Err Refusal.InvalidCheckSum))

-- R5.2: a shorter buffer is filled with the value's first bytes. Else the value is copied to its front, and its bytes after it stay.
abbrev pub read_buffer : List ℕ → Record → List ℕ → List ℕ
read_buffer region x buffer =
    cond (ltb (length buffer) (value_length x)) (take (length buffer) (value_in region x))
    (value_in region x ++ drop (value_length x) buffer)
