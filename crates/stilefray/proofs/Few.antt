-- No plan of today has more than one edit left, or a run of erases.
-- Assumes nothing.
use Prim.Native.Nat.{ℕ, ◌+◌}
use mathlib.Core.Path.{◌≡◌, refl, sym}
use mathlib.Core.Bool.{Bool, true, false, cond, ◌&&◌, true≢false}
use mathlib.Core.List.{List}
use lib.Dec.{ltb}
use lib.ListN.{get_or}
use Rattle.lookup.proofs.Scan.{room_cases}
use Rattle.plans.specs.declared.Edit.{Edit}
use Rattle.lookup.specs.declared.Seen.{Seen}
use Rattle.std.specs.declared.ops.ControlFlow.TheVariants.{Break, Continue}
use Rattle.std.specs.declared.ops.ControlFlow.{ControlFlow}
use Rattle.std.specs.Prelude.{Result, Err, Ok, Option, Some, None}
use Rattle.probe.specs.Probe.{probes}
use Rattle.format.specs.declared.Removal.{Removal}
use Rattle.lookup.specs.declared.Room.{Room}
use Rattle.lookup.specs.declared.Hit.{Hit}
use Rattle.lookup.specs.declared.Looked.{Looked}
use Rattle.lookup.specs.Turns.{hit_by, turn_of}
use Rattle.plans.specs.declared.Aim.{Aim}
use Rattle.plans.specs.declared.Edits.{Edits}
use Rattle.plans.specs.declared.Lent.{Lent}
use Rattle.plans.specs.declared.Plan.{Plan}
use Rattle.plans.specs.declared.Then.{Then}
use Rattle.sweeping.specs.declared.Verdict.{Verdict}
use Rattle.plans.specs.Answers.{starts_anew, Answer}
use Rattle.plans.specs.Writes.{value_lent, buffer_lent, first, rest, ends}
use Rattle.planning.specs.Planning.{need_of, anew, get_plan, place_plan, remove_plan, initialise_plan, plan, given_plan}
use Rattle.sweeping.specs.Sweeps.{verdict, sweep_plan}
use Rattle.planning.proofs.Places.{by_place}
use Rattle.values.specs.Values.{read_answer}
use Rattle.running.specs.declared.Op.{Op}
use Rattle.running.specs.declared.Reply.{Reply}
use Rattle.advancing.specs.Advance.{closes, turned_to, advance_next, advance_first, advance, given_by, given, next_plan}
use Rattle.numbers.specs.Packs.{few}
use Rattle.refusals.specs.declared.Refusal.{Refusal}

abbrev Few : Plan → Type 0
Few p = few p.edits ≡ true

rest_few : (es : Edits) → few es ≡ true → few (rest es) ≡ true
rest_few Edits.Nil h = refl
rest_few (Edits.One e) h = refl
rest_few (Edits.Two e f) h = absurd (true≢false (sym h))
rest_few (Edits.Three e f g) h = absurd (true≢false (sym h))
rest_few (Edits.Erases i m) h = go (ltb i m)
  where
    go : (b : Bool) → few (cond b (Edits.Erases (i + 1) m) Edits.Nil) ≡ true
    go true = refl
    go false = refl

get_few : (hit : Result Hit Refusal) → Few (get_plan hit)
get_few (Ok h) = refl
get_few (Err w) = refl

place_few : (room : Option Room) → Few (place_plan room)
place_few =
    room_cases
    (λ room. Few (place_plan room))
    refl
    (λ r o. refl)
    (λ r o. refl)

remove_few : (how : Removal) (hit : Result Hit Refusal) → Few (remove_plan how hit)
remove_few how (Ok h) = refl
remove_few how (Err w) = refl

initialise_few : (n : ℕ) (hit : Result Hit Refusal) → Few (initialise_plan n hit)
initialise_few n (Ok h) = refl
initialise_few n (Err w) = refl

plan_few : (aim : Aim) (n : ℕ) (looked : Looked) → Few (plan aim n looked)
plan_few Aim.Get n looked = get_few (hit_by looked)
plan_few Aim.Append n (Looked.Live r x) = refl
plan_few Aim.Append n (Looked.Bad f p) = refl
plan_few Aim.Append n (Looked.Through seen) = by_place Few place_few seen
plan_few (Aim.Remove how) n looked = remove_few how (hit_by looked)
plan_few Aim.Initialise n looked = initialise_few n (hit_by looked)

turn_few : (aim : Aim) (n i : ℕ) (turn : ControlFlow Looked Seen) → Few (turned_to aim n i turn)
turn_few aim n i (Break looked) = plan_few aim n looked
turn_few aim n i (Continue seen) = refl

sweep_few : (s n r k : ℕ) (v : Verdict) → Few (sweep_plan s n r k v)
sweep_few s n r k Verdict.Stands = refl
sweep_few s n r k Verdict.Erase = refl
sweep_few s n r k (Verdict.Bad f p) = refl

advance_few : (op : Op) (region : List ℕ) → Few op.plan → Few (advance op region)
advance_few op region h = go (first op.plan.edits)
  where
    on : (next : Then) → Few (advance_next op region next)
    on (Then.Ends answer) = refl
    on (Then.Seek aim i seen) =
        turn_few aim op.n i (closes op.n i (turn_of seen op.key (need_of aim (value_lent op.lent)) (get_or (probes op.key op.n) i 0) region))
    on (Then.Sweep r k) = sweep_few op.s op.n r k (verdict r region)
    on (Then.Gives r x again) = refl

    go : (f : Option Edit) → Few (advance_first op region f)
    go (Some e) = rest_few op.plan.edits h
    go None = on op.plan.next

answer_few : (n : ℕ) (again : Bool) (answer : Answer) → Few (given_plan n again answer)
answer_few n again answer = go (again && starts_anew answer)
  where
    go : (b : Bool) → Few (cond b (anew n) (ends answer))
    go true = refl
    go false = refl

given_few : (n : ℕ) (lent : Lent) (region : List ℕ) (p : Plan) → Few p → Few (given n lent region p)
given_few n lent region p h = go p.next
  where
    go : (next : Then) → Few (given_by n lent region p next)
    go (Then.Ends answer) = h
    go (Then.Seek aim i seen) = h
    go (Then.Sweep r k) = h
    go (Then.Gives r x again) = answer_few n again (read_answer region x (buffer_lent lent))

pub next_few : (op : Op) (y : Reply) (region : List ℕ) → Few op.plan → Few (next_plan op y region)
next_few op Reply.Begin region h = h
next_few op Reply.Done region h = given_few op.n op.lent region (advance op region) (advance_few op region h)
next_few op Reply.NotReady region h = h
next_few op Reply.Failed region h = refl
