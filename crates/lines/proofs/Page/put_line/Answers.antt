-- `lines::Page::put_line` meets its contract: four runs of bytes, one behind the other.
-- Assumes nothing.
use native.Mathlib.Omega.{arith}
use Rattle.lines.specs.Text.{key_field}
use Rattle.lines.specs.Pages.{HasRoom}
use Rattle.lines.proofs.Written.{lined, short_place, length-state, room_left}
use Rattle.lines.proofs.Page.put_line.Goals.{After-put_place, After-put_state}
use Rattle.lines.proofs.Page.put_line.Goals as goal

-- the room that is left behind each piece
place_put : (c : After-put_place) → HasRoom c.put_place.new.self 28
place_put c =
    room_left c.args.self.now c.put_place.new.self _ 40 28 c.put_place.ensures c.requires.4 (omega (arith, short_place c.args.region c.args.rec.at 32 (omega arith) (omega arith)))

state_put : (c : After-put_state) → HasRoom c.put_state.new.self 23
state_put c =
    room_left c.put_place.new.self c.put_state.new.self _ 28 23 c.put_state.ensures (place_put (goal.at.After-put_state c).After-put_place)
    (omega (arith, length-state c.args.rec))

pub put_state-requires : goal.put_state-requires
put_state-requires c = omega (arith, place_put (goal.at.put_state-requires c).After-put_place)

pub put_key-requires : goal.put_key-requires
put_key-requires c = omega (arith, state_put (goal.at.put_key-requires c).After-put_state)

pub put_field-requires : goal.put_field-requires
put_field-requires c = (
  omega arith,
  room_left c.put_state.new.self c.put_key.new.self (key_field c.args.rec.key) 23 6 c.put_key.ensures (state_put (goal.at.put_field-requires c).After-put_state) (omega arith),
)

pub returns : goal.returns
returns c =
    lined c.args.self.now c.put_place.new.self c.put_state.new.self c.put_key.new.self c.put_field.new.self c.args.region c.args.rec
    c.put_place.ensures c.put_state.ensures c.put_key.ensures c.put_field.ensures
