-- `listing::list` meets its contract: the buffer is too short, the input is refused, or its chip is listed behind the header line.
-- The page that is done leaves in the buffer what it has: it still holds that buffer. Assumes nothing.
use native.Mathlib.Omega.{arith}
use mathlib.Core.Path.{sym, ◌∙◌, ap}
use lib.ListN.{length}
use lib.Seq.{length-sets}
use Rattle.lines.specs.Text.{header_line}
use Rattle.listing.proofs.Whole.{too_short, refused_line_lem, image_behind, image_fits, chip_lines}
use Rattle.listing.proofs.list.Goals as goal

pub returns-then-out-lt-MOST_TEXT : goal.returns-then-out-lt-MOST_TEXT
returns-then-out-lt-MOST_TEXT c = too_short _ _ (omega arith)

pub slice_bounds-chip-count : goal.slice_bounds-chip-count
slice_bounds-chip-count c = image_behind c.args.input.now (sym c.take_in.ensures ∙ c.in-Some.is)

pub slice_bounds-chip-start : goal.slice_bounds-chip-start
slice_bounds-chip-start c = image_behind c.args.input.now (sym c.take_in.ensures ∙ c.in-Some.is)

pub invariant_of-chip : goal.invariant_of-chip
invariant_of-chip c = record { fits = (image_fits c.args.input.now (sym c.take_in.ensures ∙ c.in-Some.is)).0 }

pub list_from-requires : goal.list_from-requires
list_from-requires c =
    let f = image_fits c.args.input.now (sym c.take_in.ensures ∙ c.in-Some.is) in
    let n = c.new-page.ensures in
    let h = c.put_header.ensures in
    (f.1, omega (arith, h.2, n.2), omega (arith, ap length h.1, ap length n.1, length-sets c.new-page.result.out.now c.new-page.result.at header_line))

pub returns-in_default : goal.returns-in_default
returns-in_default c =
    let n = c.new-page.ensures in
    let t = refused_line_lem c.args.input.now c.args.out.now c.new-page.result c.put_refused.new.self (omega arith) (n.1, n.2) (sym c.take_in.ensures ∙ c.in_default.is) c.put_refused.ensures in
    let e = sym (c.put_refused.ensures.0 ∙ n.0) in
    (c.out-1.given.1.1 e ∙ t.0, t.1)

pub returns : goal.returns
returns c =
    let n = c.new-page.ensures in
    let t = chip_lines c.args.input.now (sym c.take_in.ensures ∙ c.in-Some.is) c.args.out.now c.new-page.result c.put_header.new.self c.list_from.new.page (omega arith) (n.1, n.2) c.put_header.ensures c.list_from.ensures in
    let e = sym (c.list_from.ensures.0 ∙ c.put_header.ensures.0 ∙ n.0) in
    (c.out-2-1.given.1.1 e ∙ t.0, t.1)
