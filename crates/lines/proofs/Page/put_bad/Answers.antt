-- `lines::Page::put_bad` meets its contract: two runs of bytes, one behind the other.
-- Assumes nothing.
use native.Mathlib.Omega.{arith}
use mathlib.Core.List.{[], ◌∷◌}
use Rattle.lines.proofs.Written.{bad_lined, room_left}
use Rattle.lines.proofs.Page.put_bad.Goals as goal

pub put_place-requires : goal.put_place-requires
put_place-requires c = (omega arith, omega arith, room_left c.args.self.now c.put.new.self (98 ∷ 97 ∷ 100 ∷ 32 ∷ []) 16 12 c.put.ensures c.requires.2 (omega arith))

pub returns : goal.returns
returns c = bad_lined c.args.self.now c.put.new.self c.put_place.new.self c.args.region c.args.place c.put.ensures c.put_place.ensures
