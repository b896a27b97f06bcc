-- `august::old_lookup::find_key_offset` meets its contract, that it is safe and ends: a record that is found has 15 bytes or more, and the place where a walk
-- ends lies in the region. Assumes nothing.
use mathlib.Core.Path.{◌∙◌, sym}
use Rattle.lookup.proofs.Scan.{within}
use Rattle.region.proofs.Theorems.{live_decides, records_within}
use Rattle.region.specs.declared.Stop.{Stop}
use Rattle.region.specs.declared.Want.{Want}
use Rattle.august.proofs.old_lookup.find_key_offset.Goals as goal

pub overflow_sub-result : goal.overflow_sub-result
overflow_sub-result c =
    let a = c.args in
    let x = c.in-Live.rec in
    let first = live_decides a.region.now (Want.Key a.key) x (sym c.find-event.ensures ∙ c.in-Live.is) in
    (records_within a.region.now first.before x first.after first.split).0

pub overflow_sub-region : goal.overflow_sub-region
overflow_sub-region c =
    let a = c.args in
    within a.region.now a.key (Stop.End _) (sym c.find-event.ensures ∙ c.in-End.is)
