-- `intake::read_digits` meets its contract.
-- Invariant and measure: Invariants.antt. Assumes nothing.
use mathlib.Core.Path.{sym, ◌∙◌}
use Rattle.intake.proofs.Digits.{reading_on, reading_stops, reading_over}
use Rattle.intake.proofs.read_digits.Goals as goal
use Rattle.intake.proofs.read_digits.Goals.{in-Some+then-not-is_digit, in_default}

pub loop-byte-preserved : goal.loop-byte-preserved
loop-byte-preserved c =
    let s = c.in-Some in
    reading_on c.loop-byte.invariant s.ensures.cases.0 (sym c.is_digit.ensures ∙ c.if-not-is_digit.false) c.hold-value.ensures

pub returns : goal.returns
returns c =
    elim c.match-split_first.branch [
      | in-Some+then-not-is_digit w ↦ reading_stops c.loop-byte.invariant w.in-Some.ensures.cases.0 (sym w.is_digit.ensures ∙ w.if-not-is_digit.true)
      | in_default w ↦ reading_over c.loop-byte.invariant w.in_default.ensures.cases
    ]
