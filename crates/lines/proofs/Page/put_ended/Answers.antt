-- `lines::Page::put_ended` meets its contract: the digits, and a byte behind them.
-- Assumes nothing.
use native.Mathlib.Omega.{arith}
use Rattle.lines.proofs.Written.{put_more, room_left}
use Rattle.lines.proofs.Page.put_ended.Goals as goal

pub put-requires-2 : goal.put-requires-2
put-requires-2 c = room_left c.args.self.now c.put.new.self _ _ _ c.put.ensures c.requires (omega arith)

pub returns : goal.returns
returns c = put_more c.args.self.now c.put.new.self c.put-2.new.self _ _ c.put.ensures c.put-2.ensures
