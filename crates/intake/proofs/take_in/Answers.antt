-- `intake::take_in` meets its contract: a law of `Taken` for each of its four answers.
-- Assumes nothing.
use mathlib.Core.Path.{◌∙◌}
use Rattle.intake.proofs.Taken.{no_space, no_feed, not_image, a_chip}
use Rattle.intake.proofs.take_in.Goals as goal

pub returns-in_err-strip_prefix : goal.returns-in_err-strip_prefix
returns-in_err-strip_prefix c = c.from_residual.ensures ∙ no_space c.args.input.now c.read_number-s.ensures.1 c.in_err-strip_prefix.ensures.cases

pub returns-in_err-image : goal.returns-in_err-image
returns-in_err-image c = c.from_residual-in_err-image.ensures ∙ no_feed c.args.input.now c.read_number-s.ensures.1 c.in_ok-strip_prefix.ensures.cases.1 c.read_number-n.ensures.1 c.in_err-image.ensures.cases

pub returns-then-not-is_image : goal.returns-then-not-is_image
returns-then-not-is_image c =
    not_image
    c.args.input.now
    c.read_number-s.ensures.1
    c.in_ok-strip_prefix.ensures.cases.1
    c.read_number-n.ensures.1
    c.in_ok-image.ensures.cases.1
    c.read_number-s.ensures.0
    c.read_number-n.ensures.0
    c.is_image.ensures
    c.if-not-is_image.true

pub returns : goal.returns
returns c =
    a_chip
    c.args.input.now
    c.read_number-s.ensures.1
    c.in_ok-strip_prefix.ensures.cases.1
    c.read_number-n.ensures.1
    c.in_ok-image.ensures.cases.1
    c.read_number-s.ensures.0
    c.read_number-n.ensures.0
    c.is_image.ensures
    c.in_ok-strip_prefix.ensures.cases.0
    c.in_ok-image.ensures.cases.0
    c.if-not-is_image.false
