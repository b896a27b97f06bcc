-- `intake::read_number` meets its contract: the digits, where the first of them leads.
-- Assumes nothing.
use mathlib.Core.Path.{◌≡◌, refl, sym, ◌∙◌, ap}
use mathlib.Core.Bool.{false}
use lib.ListN.{get_or}
use Rattle.intake.specs.Intake.{leads}
use Rattle.intake.proofs.Digits.{first_some, first_none, number_leads, number_none}
use Rattle.intake.proofs.read_number.Goals as goal
use Rattle.intake.proofs.read_number.Goals.{in_default-via-in-Some+else-is_leading, in_default-via-in_default}

pub returns-in-Some : goal.returns-in-Some
returns-in-Some c =
    let text = c.args.text.now in
    rw (number_leads text 0 (ap leads (first_some text c.in-Some.ensures.value) ∙ sym c.is_leading.ensures ∙ c.if-is_leading.true)) c.read_digits.ensures

pub returns-in_default : goal.returns-in_default
returns-in_default c =
    let text = c.args.text.now in
    let none : leads (get_or text 0 0) ≡ false =
    elim c.in_default.branch [
      | in_default-via-in-Some+else-is_leading w ↦ ap leads (first_some text w.in-Some.ensures.value) ∙ sym w.is_leading.ensures ∙ w.if-is_leading.false
      | in_default-via-in_default w ↦ ap leads (first_none text w.in_default.ensures.value)
    ]
    in
    rw (number_none text 0 none) (refl, refl)
