-- `lines::Page::put_field` meets its contract: the digits that are counted are the definition's, and at most five.
-- Assumes nothing.
use native.Mathlib.Omega.{arith}
use Rattle.lines.proofs.Written.{counted, short_digits}
use Rattle.lines.proofs.Page.put_field.Goals as goal

pub put_ended-requires : goal.put_ended-requires
put_ended-requires c =
    let d = c.decimal-k in
    omega (arith, c.requires.1, short_digits c.args.n d.result d.new.out (omega arith) d.ensures.len d.ensures.digits)

pub returns : goal.returns
returns c =
    let d = c.decimal-k in
    counted c.args.self.now c.put_ended.new.self c.args.n d.result c.args.end d.new.out d.ensures.len d.ensures.digits c.put_ended.ensures
