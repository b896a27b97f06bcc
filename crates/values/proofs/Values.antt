-- A value, copied to a buffer's front.
-- Assumes nothing.
use Rattle.std.proofs.Common.{◌≡◌, ◌∙◌, refl, ℕ, ◌<◌, ◌≤◌, min, cond, ltb, List, ◌++◌, length, take, drop, inl, inr, arith}
use Rattle.std.proofs.Math.Nat.{min-eq_left, min-eq_right}
use Rattle.std.proofs.lemmas.Bool.{cases_lt}
use native.Mathlib.Nat.{zero-add}
use mathlib.Core.List.{append-nil}
use lib.Seq.{sets, drop-length, length-take-le, take-length}
use borrow.Author.Tests.{lt-ltb, le-ltb}
use Rattle.chip.proofs.Lists.{sets_parts}

module _ (value buffer : List ℕ) where
  -- a longer value fills the buffer
  fills : length buffer < length value → sets buffer 0 (take (length buffer) value) ≡ take (length buffer) value
  fills l =
      let e : length (take (length buffer) value) ≡ length buffer = length-take-le (length buffer) value (omega arith) in
      sets_parts buffer 0 (take (length buffer) value) (omega (arith, e)) ∙ rw (zero-add, e, drop-length buffer) (append-nil _)

  -- behind a shorter one the buffer's bytes stay
  keeps : length value ≤ length buffer → sets buffer 0 (take (length value) value) ≡ value ++ drop (length value) buffer
  keeps l = rw (take-length value) (sets_parts buffer 0 value (omega arith) ∙ rw (zero-add) refl)

  -- As much of it as the buffer takes: a longer value fills it, and behind a shorter one the buffer's bytes stay.
  pub front_copied : sets buffer 0 (take (min (length value) (length buffer)) value)
      ≡ cond (ltb (length buffer) (length value)) (take (length buffer) value) (value ++ drop (length value) buffer)
  front_copied =
      elim (cases_lt (length buffer) (length value)) [
        | inl l ↦ rw (lt-ltb _ _ l, min-eq_right {n = length buffer} {m = length value} (omega arith)) (fills l)
        | inr l ↦ rw (le-ltb _ _ l, min-eq_left {n = length value} {m = length buffer} l) (keeps l)
      ]
