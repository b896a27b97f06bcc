-- `lines::Page::put_key` meets its contract: a key has 16 digits, no more and no fewer.
-- Assumes nothing.
use native.Mathlib.Omega.{arith}
use Rattle.lines.proofs.Written.{keyed}
use Rattle.lines.proofs.Page.put_key.Goals as goal

pub returns : goal.returns
returns c =
    let d = c.hex-k in
    keyed c.args.self.now c.put_ended.new.self c.args.key d.result d.new.out (omega arith) d.ensures.len d.ensures.digits c.put_ended.ensures
