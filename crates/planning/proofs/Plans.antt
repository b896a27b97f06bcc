-- Plans lie in the chip: the one that a lookup's end makes, for any aim, the one that a region's verdict makes, and the one that a read value makes.
-- Assumes nothing.
use Prim.Native.Nat.{ℕ, ◌≤◌, ◌<◌}
use native.Mathlib.Omega.{arith}
use mathlib.Core.Path.{◌≡◌, refl}
use mathlib.Core.Bool.{Bool, true, false, cond}
use borrow.Author.Tests.{lt-ltb, le-leb}
use Rattle.std.specs.Prelude.{Option}
use Rattle.format.specs.declared.Record.{Record}
use Rattle.format.specs.declared.Fault.{Fault}
use Rattle.lookup.specs.declared.Room.{Room}
use Rattle.lookup.proofs.Scan.{room_cases}
use Rattle.lookup.specs.declared.Seen.{Seen}
use Rattle.lookup.specs.declared.Looked.{Looked}
use Rattle.plans.specs.declared.Aim.{Aim}
use Rattle.plans.specs.declared.Lent.{Lent}
use Rattle.plans.specs.declared.Edit.{Edit}
use Rattle.plans.specs.declared.Edits.{Edits}
use Rattle.plans.specs.declared.Then.{Then}
use Rattle.plans.specs.declared.Plan.{Plan}
use Rattle.plans.specs.Answers.{starts_anew, Answer}
use Rattle.plans.specs.Writes.{value_lent, first, ends}
use Rattle.plans.specs.Fits.{record_fits, edit_fits, edits_fit, room_fits, seen_fits, lent_to_append, lent_for, value_short, then_fits, answer_rests, rests}
use Rattle.planning.specs.Planning.{writes, gives, anew, place_plan, plan, given_plan}
use Rattle.plans.proofs.Facts.{PlanFits, join, begins_fits, ends_fits}
use Rattle.planning.proofs.Shapes.{renews, Shape, is_refused, is_given, is_removed, is_placed, is_anew, plan_shape}
use Rattle.planning.proofs.Gathered.{by_room}

-- What a plan keeps before its value is given: it may rest, or it gives one. `Sound` is `PlanFits` with this in place of `rests`.
abbrev pub settles : Lent → Option Edit → Then → Bool
settles lent f (Then.Ends answer) = answer_rests f answer
settles lent f (Then.Seek aim i seen) = true
settles lent f (Then.Sweep r k) = true
settles lent f (Then.Gives r x again) = renews again lent

pub record Sound (s n : ℕ) (lent : Lent) (p : Plan) : Type 0 where
  pub value_short_lem : value_short lent ≡ true
  pub edits_good : edits_fit s n (value_lent lent) p.edits ≡ true
  pub next_good : then_fits s n lent p.next ≡ true
  pub settled : settles lent (first p.edits) p.next ≡ true

-- What is known where a lookup ends: a live record lies in its region, what was gathered lies in the chip.
pub data Known (s n len : ℕ) : Looked → Type 0 where
  live : {r : ℕ} {x : Record} → r < n → record_fits s x ≡ true → Known s n len (Looked.Live r x)
  bad : {f : Fault} {p : ℕ} → Known s n len (Looked.Bad f p)
  through : {seen : Seen} → seen_fits s n len seen ≡ true → Known s n len (Looked.Through seen)

module _ (s n : ℕ) (lent : Lent) where
  -- A plan that fits is sound: it gives no value.
  pub fits_sound : (p : Plan) → PlanFits s n lent p → Sound s n lent p
  fits_sound p f = record { value_short_lem = f.value_short_lem; edits_good = f.edits_good; next_good = f.next_good; settled = go p.next f.at_rest }
    where
      go : (t : Then) → rests (first p.edits) t ≡ true → settles lent (first p.edits) t ≡ true
      go (Then.Ends answer) h = h
      go (Then.Seek aim i seen) h = refl
      go (Then.Sweep r k) h = refl
      go (Then.Gives r x again) h = cc

  module _ (short : value_short lent ≡ true) where
    -- Plans that fit: one edit and Written, everything anew.
    one_fits : (e : Edit) → edit_fits s n (value_lent lent) e ≡ true → PlanFits s n lent (writes (Edits.One e))
    one_fits e h = record { value_short_lem = short; edits_good = h; next_good = refl; at_rest = refl }

    pub anew_fits : lent_to_append lent ≡ true → 1 ≤ n → PlanFits s n lent (anew n)
    anew_fits h least = record { value_short_lem = short; edits_good = le-leb n n (omega arith); next_good = begins_fits s n lent h least; at_rest = refl }

    place_fits_lem : (room : Option Room) → room_fits s n (value_lent lent) room ≡ true → PlanFits s n lent (place_plan room)
    place_fits_lem =
        room_cases
        (λ room. room_fits s n (value_lent lent) room ≡ true → PlanFits s n lent (place_plan room))
        (λ h. ends_fits s n lent short _)
        (λ r o h. ends_fits s n lent short _)
        (λ r o h. one_fits (Edit.Lay r o) h)

    -- The plan after a value was read, with its answer.
    pub given_fits : (again : Bool) (answer : Answer) → renews again lent ≡ true → 1 ≤ n → PlanFits s n lent (given_plan n again answer)
    given_fits false answer h least = ends_fits s n lent short answer
    given_fits true answer h least = go (starts_anew answer)
      where
        go : (b : Bool) → PlanFits s n lent (cond b (anew n) (ends answer))
        go true = anew_fits h least
        go false = ends_fits s n lent short answer

    -- The plan after a lookup, for each form of it: it fits, or it gives a value.
    gives_sound : (r : ℕ) (x : Record) (again : Bool) → r < n → record_fits s x ≡ true → renews again lent ≡ true → Sound s n lent (gives r x again)
    gives_sound r x again h f q = record { value_short_lem = short; edits_good = refl; next_good = join (lt-ltb r n h) f; settled = q }

    shape_sound : {t : Bool} {looked : Looked} {p : Plan} → Shape n lent t looked p → t ≡ true → 1 ≤ n → Known s n (value_lent lent) looked → Sound s n lent p
    shape_sound is_refused l least k = fits_sound _ (ends_fits s n lent short _)
    shape_sound (is_given {r} {x} {again} q) l least (live h f) = gives_sound r x again h f (q l)
    shape_sound (is_removed how {r} {x}) l least (live h f) = fits_sound _ (one_fits (Edit.Kill how r x) (join (lt-ltb r n h) f))
    shape_sound (is_placed {seen}) l least (through f) = fits_sound _ (by_room s n (value_lent lent) (λ room. PlanFits s n lent (place_plan room)) seen place_fits_lem f)
    shape_sound (is_anew q) l least k = fits_sound _ (anew_fits (q l) least)

    pub plan_sound : (aim : Aim) (looked : Looked) → lent_for aim lent ≡ true → 1 ≤ n → Known s n (value_lent lent) looked → Sound s n lent (plan aim n looked)
    plan_sound aim looked = shape_sound (plan_shape n lent aim looked)
