-- `entries::look_in` meets its contract: what the walk meets there, case by case.
-- Assumes nothing.
use mathlib.Core.Path.{◌∙◌, ap}
use Rattle.std.specs.Prelude.{Err}
use Rattle.entries.specs.declared.Entry.{Entry}
use Rattle.entries.proofs.Looks.{past_ends, met_is, met_lies}
use borrow.Author.Rules.{rules}
use Rattle.entries.proofs.look_in.Goals as goal

-- src/lib.rt:56:9
pub returns-then-region-at : goal.returns-then-region-at
returns-then-region-at c = search (past_ends, rules)

pub invariant_of-is_sound : goal.invariant_of-is_sound
invariant_of-is_sound c =
    let a = c.args in
    let l = met_lies a.region.now a.at _ _ c.look.ensures c.in-Ok.is in
    record { least = l.0; inside = l.1 }

-- src/lib.rt:52:1
pub returns-in-Err-End : goal.returns-in-Err-End
returns-in-Err-End c =
    let a = c.args in
    met_is a.region.now a.at _ _ c.look.ensures (c.in-Err-End.is ∙ ap Err c.in-Err-End.field-0-is)

-- src/lib.rt:52:1
pub returns-in-Err-Bad : goal.returns-in-Err-Bad
returns-in-Err-Bad c =
    let a = c.args in
    met_is a.region.now a.at _ _ c.look.ensures (c.in-Err-Bad.is ∙ ap Err c.in-Err-Bad.field-0-is)

-- src/lib.rt:52:1
pub returns-in-Ok : goal.returns-in-Ok
returns-in-Ok c =
    let a = c.args in
    ap (Entry.Stands c.in-Ok.rec) c.is_sound.ensures ∙ met_is a.region.now a.at _ _ c.look.ensures c.in-Ok.is
