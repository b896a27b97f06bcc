-- `lending::locate` meets its contract: its test is the definition's.
-- Assumes nothing.
use Prim.Native.Nat.{◌*◌}
use mathlib.Core.Path.{sym, ◌∙◌}
use lib.ListN.{length}
use Rattle.lending.proofs.Lies.{wrong_sum, right_sum}
use Rattle.lending.proofs.locate.Goals as goal

pub returns-then-not-is_sound : goal.returns-then-not-is_sound
returns-then-not-is_sound c =
    let f = c.args.found.now in
    let region = f.standing.region.now in
    wrong_sum region (f.region * length region) f.standing.rec (sym c.is_sound.ensures ∙ c.if-not-is_sound.true)

pub returns : goal.returns
returns c =
    let f = c.args.found.now in
    let region = f.standing.region.now in
    rw (c.start.ensures, c.value_length.ensures) (right_sum region (f.region * length region) f.standing.rec (sym c.is_sound.ensures ∙ c.if-not-is_sound.false))
