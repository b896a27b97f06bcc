-- What a lookup has gathered lies in the chip, whatever it is made for.
-- Assumes nothing.
use Prim.Native.Nat.{ℕ, ◌+◌, ◌≤◌, ◌<◌}
use native.Mathlib.Omega.{arith}
use mathlib.Core.Path.{◌≡◌, refl}
use mathlib.Core.Bool.{Bool, true, false, cond}
use mathlib.Core.List.{List}
use lib.Dec.{leb}
use lib.ListN.{length, take, drop}
use borrow.Author.Tests.{leb-true}
use Rattle.std.specs.Prelude.{Option, Some, None}
use Rattle.chip.specs.Chip.{is_blank}
use Rattle.format.specs.Layout.{record_length}
use Rattle.lookup.specs.declared.Room.{Room}
use Rattle.lookup.specs.declared.Seen.{Seen}
use Rattle.lookup.specs.Gather.{unseen, or_room, room_at, noted, some_room}
use Rattle.plans.specs.declared.Aim.{Aim}
use Rattle.planning.specs.Planning.{need_of}
use Rattle.plans.specs.Fits.{room_fits, seen_fits}
use Rattle.plans.proofs.Facts.{place_fits_lem}
use Rattle.planning.proofs.Shapes.{Needs, for_nothing, for_record, aim_needs}

module _ (s n len : ℕ) where
  -- one room or the other
  either_fits : (room later : Option Room) → room_fits s n len room ≡ true → room_fits s n len later ≡ true → room_fits s n len (or_room room later) ≡ true
  either_fits None later h k = k
  either_fits (Some room) later h k = h

  -- a region's room lies in it
  at_fits : (r : ℕ) (region : List ℕ) (o : ℕ) → r < n → length region ≡ s → room_fits s n len (room_at (record_length len) r o region) ≡ true
  at_fits r region o h l = go (leb (o + (len + 15)) (length region)) refl
    where
      go : (b : Bool) → leb (o + (len + 15)) (length region) ≡ b
          → room_fits s n len (cond b (some_room r o (is_blank (take (record_length len) (drop o region)))) None) ≡ true
      go true e = let f : o + (len + 15) ≤ length region = leb-true _ _ e in place_fits_lem s n len r o (h, omega arith)
      go false e = refl

  -- What holds of every room that fits holds of the room that was gathered: the one line of the proofs of plans that names the field.
  pub by_room : (P : Option Room → Type 0) (seen : Seen) → ((room : Option Room) → room_fits s n len room ≡ true → P room) → seen_fits s n len seen ≡ true → P seen.room
  by_room P seen holds h = holds _ h

  -- nothing, and what one more region adds to what is gathered for an aim
  pub unseen_fits : seen_fits s n len unseen ≡ true
  unseen_fits = refl

  pub noted_fits : (aim : Aim) (seen : Seen) (r : ℕ) (region : List ℕ) (o : ℕ) → r < n → length region ≡ s → seen_fits s n len seen ≡ true
      → seen_fits s n len (noted seen (need_of aim len) r region o) ≡ true
  noted_fits aim seen r region o h l f = go (aim_needs len aim)
    where
      go : {need : Option ℕ} → Needs len need → seen_fits s n len (noted seen need r region o) ≡ true
      go for_nothing = f
      go for_record =
          by_room (λ room. room_fits s n len (or_room room (room_at (record_length len) r o region)) ≡ true) seen
          (λ room g. either_fits room (room_at (record_length len) r o region) g (at_fits r region o h l)) f
