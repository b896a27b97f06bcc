-- `lines::Page::put_place` meets its contract: two fields, one behind the other.
-- Assumes nothing.
use native.Mathlib.Omega.{arith}
use Rattle.lines.proofs.Written.{put_more, short_field, room_left}
use Rattle.lines.proofs.Page.put_place.Goals as goal

pub put_field-requires-2 : goal.put_field-requires-2
put_field-requires-2 c =
    (omega arith, room_left c.args.self.now c.put_field.new.self _ 12 6 c.put_field.ensures c.requires.2 (omega (arith, short_field c.args.region 32 (omega arith))))

pub returns : goal.returns
returns c = put_more c.args.self.now c.put_field.new.self c.put_field-2.new.self _ _ c.put_field.ensures c.put_field-2.ensures
