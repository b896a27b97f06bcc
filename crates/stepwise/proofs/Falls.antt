-- The services still to come, whatever the host replies and lends: a service that is done makes them fewer, nothing makes them more, and where none is
-- left the operation has answered.
-- Assumes nothing.
use Prim.Native.Nat.{ℕ, zero, suc, ◌+◌, ◌-◌, ◌*◌, ◌≤◌, ◌<◌}
use native.Mathlib.Nat.{sub-zero}
use native.Mathlib.Omega.{arith}
use mathlib.Core.Path.{◌≡◌, refl, sym, ◌∙◌, ap, subst}
use mathlib.Core.Bool.{Bool, true, false, ◌&&◌, cond, true≢false}
use mathlib.Core.List.{List, [], ◌∷◌}
use mathlib.Core.Logic.{◌↔◌}
use lib.Dec.{ltb}
use lib.ListN.{length, get_or, length-map}
use Rattle.lookup.proofs.Scan.{room_cases}
use Rattle.std.specs.declared.ops.ControlFlow.TheVariants.{Break, Continue}
use Rattle.std.specs.declared.ops.ControlFlow.{ControlFlow}
use Rattle.std.specs.Prelude.{Result, Ok, Err, Option, Some, None}
use Rattle.chip.specs.Every.{Every}
use Rattle.chip.specs.Geometry.{numbers}
use Rattle.probe.specs.Probe.{probes}
use Rattle.format.specs.declared.Removal.{Removal}
use Rattle.refusals.specs.declared.Refusal.{Refusal}
use Rattle.lookup.specs.declared.Room.{Room}
use Rattle.lookup.specs.declared.Seen.{Seen}
use Rattle.lookup.specs.declared.Looked.{Looked}
use Rattle.lookup.specs.declared.Hit.{Hit}
use Rattle.lookup.specs.Turns.{close, turn_of, hit_by}
use Rattle.plans.specs.declared.Aim.{Aim}
use Rattle.plans.specs.declared.Lent.{Lent}
use Rattle.plans.specs.declared.Edit.{Edit}
use Rattle.plans.specs.declared.Then.{Then}
use Rattle.plans.specs.declared.Plan.{Plan}
use Rattle.plans.specs.Answers.{starts_anew, Answer}
use Rattle.plans.specs.Writes.{value_lent, buffer_lent, listed, first, ends}
use Rattle.plans.specs.Fits.{then_fits, rests}
use Rattle.plans.proofs.Facts.{seek_facts, sweep_facts}
use Rattle.plans.proofs.Lists.{listed_none, listed_some}
use Rattle.planning.specs.Planning.{need_of, anew, get_plan, place_plan, append_plan, remove_plan, initialise_plan, plan}
use Rattle.planning.proofs.Places.{by_place}
use Rattle.sweeping.specs.declared.Verdict.{Verdict}
use Rattle.sweeping.specs.Sweeps.{verdict, swept_to, sweep_plan}
use Rattle.values.specs.Values.{read_answer}
use Rattle.store.specs.Call.{Call, get, append, remove, collect, initialise}
use Rattle.running.specs.declared.Op.{Op}
use Rattle.running.specs.declared.Reply.{Reply}
use Rattle.running.specs.declared.Wait.{Wait}
use Rattle.running.specs.declared.Request.{Request}
use Rattle.running.specs.Waits.{wait_next, wait_first, wait_of, request_for, request_of}
use Rattle.running.specs.Ruled.{fresh_fits, Ruled}
use Rattle.running.proofs.Rules.{plan_of}
use Rattle.rule.specs.Rule.{rule, reply_fits}
use Rattle.rule.proofs.Calls.{ruled, is_ruled, fits_ruled, fits_of}
use Rattle.advancing.specs.Advance.{closes, turned_to, advance_next, advance_first, advance, given_by, given}
use Rattle.steps.specs.declared.Stepped.{Stepped}
use Rattle.steps.specs.Step.{next_op, fits_here, stepped}
use Rattle.steps.proofs.Keeps.{next_ruled}
use Rattle.stepwise.proofs.Forms.{by_swept}
use Rattle.stepwise.specs.Asked.{asks, request_refusal}
use Rattle.stepwise.specs.Begins.{start_of, fresh_of}
use Rattle.stepwise.specs.Misfit.{LentRight}
use Rattle.stepwise.specs.Ahead.{Given, next, after, Fair, is_done, dones, taken, Answers, now, later, behind, ahead_next, ahead_plan, ahead, most}
use Rattle.stepwise.proofs.Starts.{start_ruled, start_runs}
use Rattle.stepwise.proofs.Exactly.{step_refuses, is_bad_call}
use Rattle.stepwise.proofs.Misfits.{edit_asks, lent_fits, fits, asks_later}

-- A lookup's end: what its plan asks for lay behind the lookup.

place_ahead : (n : ℕ) (place : Option Room) → ahead_plan n (place_plan place) ≤ 1
place_ahead n =
    room_cases
    (λ place. ahead_plan n (place_plan place) ≤ 1)
    (omega arith)
    (λ r o. omega arith)
    (λ r o. omega arith)

pub numbers-length : (r k : ℕ) → length (numbers r k) ≡ k
unfolding numbers
numbers-length r zero = refl
numbers-length r (suc k) = ap suc (numbers-length (r + 1) k)

anew_ahead : (n : ℕ) → ahead_plan n (anew n) ≡ n + (n + 1)
anew_ahead n = omega (arith, length-map (numbers 0 (n - 0)) Edit.Erase, numbers-length 0 (n - 0), sub-zero n)

get_ahead : (n : ℕ) (hit : Result Hit Refusal) → ahead_plan n (get_plan hit) ≤ 0
get_ahead n (Ok h) = omega arith
get_ahead n (Err w) = omega arith

append_ahead : (n : ℕ) (looked : Looked) → ahead_plan n (append_plan looked) ≤ 1
append_ahead n (Looked.Live r x) = omega arith
append_ahead n (Looked.Bad f p) = omega arith
append_ahead n (Looked.Through seen) = by_place (λ (p : Plan). ahead_plan n p ≤ 1) (place_ahead n) seen

remove_ahead : (n : ℕ) (how : Removal) (hit : Result Hit Refusal) → ahead_plan n (remove_plan how hit) ≤ 1
remove_ahead n how (Ok h) = omega arith
remove_ahead n how (Err w) = omega arith

initialise_ahead : (n : ℕ) (hit : Result Hit Refusal) → ahead_plan n (initialise_plan n hit) ≤ n + (n + 1)
initialise_ahead n (Ok h) = omega arith
initialise_ahead n (Err w) = omega (arith, anew_ahead n)

plan_ahead : (aim : Aim) (n : ℕ) (looked : Looked) → ahead_plan n (plan aim n looked) ≤ behind aim n
plan_ahead Aim.Get n looked = get_ahead n (hit_by looked)
plan_ahead Aim.Append n looked = append_ahead n looked
plan_ahead (Aim.Remove how) n looked = remove_ahead n how (hit_by looked)
plan_ahead Aim.Initialise n looked = initialise_ahead n (hit_by looked)

-- a value that is given leads no further
given_ahead : (n : ℕ) (lent : Lent) (region : List ℕ) (p : Plan) → ahead_plan n (given n lent region p) ≤ ahead_plan n p
given_ahead n lent region p = go p.next refl
  where
    cut : (again starts : Bool) (answer : Answer) → ahead_plan n (cond (again && starts) (anew n) (ends answer)) ≤ cond again (n + (n + 1)) 0
    cut false starts answer = omega arith
    cut true false answer = omega arith
    cut true true answer = omega (arith, anew_ahead n)

    go : (t : Then) → p.next ≡ t → ahead_plan n (given_by n lent region p t) ≤ length (listed p.edits) + ahead_next n t
    go (Then.Ends answer) e = rw e (omega arith)
    go (Then.Seek aim i seen) e = rw e (omega arith)
    go (Then.Sweep r k) e = rw e (omega arith)
    go (Then.Gives r x again) e =
        let answer : Answer = read_answer region x (buffer_lent lent) in
        omega (arith, cut again (starts_anew answer) answer)

-- A service is done.

-- a region was seen of a lookup
turned_ahead : (aim : Aim) (n i : ℕ) (before : Seen) (t : ControlFlow Looked Seen) → i < n → suc (ahead_plan n (turned_to aim n i (closes n i t))) ≤ ahead_next n (Then.Seek aim i before)
turned_ahead aim n i before (Break looked) l = omega (arith, plan_ahead aim n looked)
turned_ahead aim n i before (Continue seen) l = go (ltb (i + 1) n)
  where
    go : (t : Bool) → suc (ahead_plan n (turned_to aim n i (cond t (Continue seen) (Break (close seen))))) ≤ ahead_next n (Then.Seek aim i before)
    go true = omega arith
    go false = omega (arith, plan_ahead aim n (close seen))

-- or of a sweep
swept_ahead : (s n r k : ℕ) → ahead_next n (swept_to s n r k) ≤ 2 * (n - r)
swept_ahead s n r k = by_swept (λ (t : Then). ahead_next n t ≤ 2 * (n - r)) s n r k (omega arith) (omega arith)

sweep_ahead : (s n r k : ℕ) (v : Verdict) → r < n → suc (ahead_plan n (sweep_plan s n r k v)) ≤ 2 * (n - r)
sweep_ahead s n r k Verdict.Stands l = omega (arith, swept_ahead s n (r + 1) k)
sweep_ahead s n r k Verdict.Erase l = omega (arith, swept_ahead s n (r + 1) (k + 1))
sweep_ahead s n r k (Verdict.Bad f p) l = omega arith

next_ahead : (op : Op) (region : List ℕ) (t : Then) → then_fits op.s op.n op.lent t ≡ true → reply_fits (wait_next op.key op.n t) Reply.Done ≡ true
    → suc (ahead_plan op.n (advance_next op region t)) ≤ ahead_next op.n t
next_ahead op region (Then.Ends answer) c h = absurd (true≢false (sym h))
next_ahead op region (Then.Seek aim i seen) c h =
    turned_ahead aim op.n i seen (turn_of seen op.key (need_of aim (value_lent op.lent)) (get_or (probes op.key op.n) i 0) region)
    (seek_facts op.s op.n op.lent aim i seen c).1
next_ahead op region (Then.Sweep r k) c h = sweep_ahead op.s op.n r k (verdict r region) (sweep_facts op.s op.n op.lent r k c).0
next_ahead op region (Then.Gives r x again) c h = absurd (true≢false (sym h))

-- or an edit is off the list
advance_ahead : (op : Op) (region : List ℕ) → Ruled op → (f : Option Edit) → first op.plan.edits ≡ f
    → reply_fits (wait_first op.key op.n f op.plan.next) Reply.Done ≡ true → suc (ahead_plan op.n (advance_first op region f)) ≤ ahead op
advance_ahead op region k (Some e) q h = omega (arith, ap length (listed_some op.plan.edits q))
advance_ahead op region k None q h = omega (arith, next_ahead op region op.plan.next (plan_of op k).next_good h)

done_ahead : (op : Op) (region : List ℕ) → Ruled op → reply_fits (wait_of op) Reply.Done ≡ true → suc (ahead (next_op op Reply.Done region)) ≤ ahead op
done_ahead op region k h = go op.fresh h
  where
    go : (t : Bool) → reply_fits (cond t Wait.Begin (wait_first op.key op.n (first op.plan.edits) op.plan.next)) Reply.Done ≡ true
        → suc (ahead (next_op op Reply.Done region)) ≤ ahead op
    go true h = absurd (true≢false (sym h))
    go false h = omega (arith, given_ahead op.n op.lent region (advance op region), advance_ahead op region k (first op.plan.edits) refl h)

-- A step: of one whose call does not fit nothing is made, and of another what its reply says.
data Makes (op : Op) (y : Reply) (region value buffer : List ℕ) : Op → Type 0 where
  nothing : fits_here op y region value buffer ≡ false → Makes op y region value buffer op
  onward : Ruled op → length region ≡ op.s → reply_fits (wait_of op) y ≡ true → Makes op y region value buffer (next_op op y region)

makes : (op : Op) (y : Reply) (region value buffer : List ℕ) → Makes op y region value buffer (stepped op y region value buffer).op
unfolding stepped
makes op y region value buffer = go (fits_here op y region value buffer) refl
  where
    go : (t : Bool) → fits_here op y region value buffer ≡ t
        → Makes op y region value buffer
        (cond {A = Stepped} t (record { op = next_op op y region; request = request_of (next_op op y region) }) (record { op = op; request = Request.Answers (Err Refusal.BadCall) })).op
    go true h = let (k, l, b, r) = fits_ruled op y (length region) (length value) (length buffer) h in onward k l r
    go false h = nothing h

pub falls : (op : Op) (region value buffer : List ℕ) → fits_here op Reply.Done region value buffer ≡ true
    → suc (ahead (stepped op Reply.Done region value buffer).op) ≤ ahead op
falls op region value buffer h = go (makes op Reply.Done region value buffer)
  where
    go : {o : Op} → Makes op Reply.Done region value buffer o → suc (ahead o) ≤ ahead op
    go (nothing u) = absurd (true≢false (sym h ∙ u))
    go (onward k l r) = done_ahead op region k r

next_most : (op : Op) (y : Reply) (region : List ℕ) → Ruled op → reply_fits (wait_of op) y ≡ true → ahead (next_op op y region) ≤ ahead op
next_most op Reply.Begin region k r = omega arith
next_most op Reply.Done region k r = omega (arith, done_ahead op region k r)
next_most op Reply.NotReady region k r = omega arith
next_most op Reply.Failed region k r = omega arith

pub rises_never : (op : Op) (g : Given) → ahead (next op g) ≤ ahead op
rises_never op g = go (makes op g.reply g.region g.value g.buffer)
  where
    go : {o : Op} → Makes op g.reply g.region g.value g.buffer o → ahead o ≤ ahead op
    go (nothing u) = omega arith
    go (onward k l r) = next_most op g.reply g.region k r

-- What every step keeps: geometry, what is lent, the rule, and that the operation is not fresh.
record Same (op o : Op) : Type 0 where
  s_same : o.s ≡ op.s
  lent_same : o.lent ≡ op.lent
  begun : op.fresh ≡ false → o.fresh ≡ false
  kept : Ruled op → Ruled o

same : (op : Op) (g : Given) → Same op (next op g)
same op g = go (makes op g.reply g.region g.value g.buffer)
  where
    go : {o : Op} → Makes op g.reply g.region g.value g.buffer o → Same op o
    go (nothing u) = record { s_same = refl; lent_same = refl; begun = λ b. b; kept = λ k. k }
    go (onward k l r) = record { s_same = refl; lent_same = refl; begun = λ b. refl; kept = λ k. next_ruled op g.reply g.region k l }

-- None is left: the operation has answered.

-- of what it waits for, with no edit left
over_next : (s n key : ℕ) (lent : Lent) (t : Bool) (u : Then) → fresh_fits t None u ≡ true → then_fits s n lent u ≡ true → rests None u ≡ true → ahead_next n u ≡ 0
    → (t ≡ false) × ((answer : Answer) × (request_for s (value_lent lent) (cond t Wait.Begin (wait_next key n u)) ≡ Request.Answers answer))
over_next s n key lent false (Then.Ends answer) b c a z = (refl, (answer, refl))
over_next s n key lent true (Then.Ends answer) b c a z = absurd (true≢false (sym b))
over_next s n key lent t (Then.Seek aim i seen) b c a z = absurd (omega (arith, (seek_facts s n lent aim i seen c).1))
over_next s n key lent t (Then.Sweep r k) b c a z = absurd (omega (arith, (sweep_facts s n lent r k c).0))
over_next s n key lent t (Then.Gives r x again) b c a z = absurd (true≢false (sym a))

over : (op : Op) → Ruled op → ahead op ≡ 0 → (op.fresh ≡ false) × ((answer : Answer) × (request_of op ≡ Request.Answers answer))
over op k z = go (first op.plan.edits) refl k.fresh_good (plan_of op k).at_rest
  where
    go : (f : Option Edit) → first op.plan.edits ≡ f → fresh_fits op.fresh f op.plan.next ≡ true → rests f op.plan.next ≡ true
        → (op.fresh ≡ false)
        × ((answer : Answer) × (request_for op.s (value_lent op.lent) (cond op.fresh Wait.Begin (wait_first op.key op.n f op.plan.next)) ≡ Request.Answers answer))
    go (Some e) q b a = absurd (omega (arith, z, ap length (listed_some op.plan.edits q)))
    go None q b a = over_next op.s op.n op.key op.lent op.fresh op.plan.next b (plan_of op k).next_good a (omega arith)

-- and back
none_next : (s len key n : ℕ) (u : Then) → rests None u ≡ true → asks (request_for s len (wait_next key n u)) ≡ false → ahead_next n u ≡ 0
none_next s len key n (Then.Ends answer) a h = refl
none_next s len key n (Then.Seek aim i seen) a h = absurd (true≢false h)
none_next s len key n (Then.Sweep r k) a h = absurd (true≢false h)
none_next s len key n (Then.Gives r x again) a h = absurd (true≢false (sym a))

over_is : (op : Op) → Ruled op → op.fresh ≡ false → asks (request_of op) ≡ false → ahead op ≡ 0
over_is op k b h = go (first op.plan.edits) refl (plan_of op k).at_rest (ap asks (sym (asks_later op b)) ∙ h)
  where
    go : (f : Option Edit) → first op.plan.edits ≡ f → rests f op.plan.next ≡ true
        → asks (request_for op.s (value_lent op.lent) (wait_first op.key op.n f op.plan.next)) ≡ false → ahead op ≡ 0
    go (Some e) q a h = absurd (true≢false (sym (edit_asks op.s (value_lent op.lent) e) ∙ h))
    go None q a h =
        omega (arith, ap length (listed_none op.plan.edits q), none_next op.s (value_lent op.lent) op.key op.n op.plan.next a h)

pub none_left : (op : Op) → rule op ≡ true → (ahead op ≡ 0) ↔ ((op.fresh ≡ false) × ((answer : Answer) × (request_of op ≡ Request.Answers answer)))
none_left op k = (over op (ruled op k), λ (b, (answer, q)). over_is op (ruled op k) b (ap asks q))

-- At the start.

pub most_any : (c : Call) (n : ℕ) → most c n ≤ 3 * n + 1
most_any (get key buffer) n = omega arith
most_any (append key value) n = omega arith
most_any (remove how key) n = omega arith
most_any collect n = omega arith
most_any (initialise key) n = omega arith

fresh_ahead : (c : Call) (s n : ℕ) → ahead (fresh_of c s n) ≡ most c n
fresh_ahead (get key buffer) s n = omega arith
fresh_ahead (append key value) s n = omega arith
fresh_ahead (remove how key) s n = omega arith
fresh_ahead collect s n = omega arith
fresh_ahead (initialise key) s n = omega arith

pub at_start : (c : Call) (s n : ℕ) (op : Op) → start_of c s n ≡ Ok op → (ahead op ≡ most c n) × (ahead op ≤ 3 * n + 1)
at_start c s n op h =
    let e : ahead op ≡ most c n = ap ahead (start_runs c s n op h).is ∙ fresh_ahead c s n in
    (e, omega (arith, e, most_any c n))

-- So it ends.

module _ (op : Op) (g : Given) (fair : Fair op g) (k : Ruled op) (b : op.fresh ≡ false) where
  -- where a service is asked for, a reply that it is done fits
  done_falls : g.reply ≡ Reply.Done → asks (request_of op) ≡ true → suc (ahead (next op g)) ≤ ahead op
  done_falls e a =
      let fit = fits op g.reply g.region g.value g.buffer (is_ruled op k) a fair.replies fair.region_long fair.lent_right in
      subst (λ (y : Reply). suc (ahead (stepped op y g.region g.value g.buffer).op) ≤ ahead op) (sym e)
      (falls op g.region g.value g.buffer (subst (λ (y : Reply). fits_here op y g.region g.value g.buffer ≡ true) e fit))

  -- with one "done" fewer to come, one service fewer is left
  one_fewer : (m : ℕ) → ahead op ≤ cond (is_done g.reply) (suc m) m → ahead (next op g) ≤ m
  one_fewer m l = go g.reply refl l
    where
      asked : (t : Bool) → asks (request_of op) ≡ t → g.reply ≡ Reply.Done → ahead op ≤ suc m → ahead (next op g) ≤ m
      asked true a e l = omega (arith, done_falls e a)
      asked false a e l = omega (arith, over_is op k b a, rises_never op g)

      go : (y : Reply) → g.reply ≡ y → ahead op ≤ cond (is_done y) (suc m) m → ahead (next op g) ≤ m
      go Reply.Begin e l = omega (arith, rises_never op g)
      go Reply.Done e l = asked (asks (request_of op)) refl e l
      go Reply.NotReady e l = omega (arith, rises_never op g)
      go Reply.Failed e l = omega (arith, rises_never op g)

-- a host that is fair to an operation is so to every one of its geometry with the same lent
fair_too : (o op : Op) (g : Given) → op.s ≡ o.s → op.lent ≡ o.lent → Fair o g → Fair op g
fair_too o op g s l f = record {
  region_long = f.region_long ∙ sym s;
  lent_right = subst (λ (t : Lent). LentRight t g.value g.buffer) (sym l) f.lent_right;
  replies = f.replies;
}

-- Whatever the host, so many are taken at most.
taken_most : (op : Op) (gs : List Given) → taken op gs + ahead (after op gs) ≤ ahead op
unfolding taken after
taken_most op [] = omega arith
taken_most op (g ∷ gs) = go g.reply refl (fits_here op g.reply g.region g.value g.buffer) refl (taken_most (next op g) gs)
  where
    Rest : Type 0
    Rest = taken (next op g) gs + ahead (after (next op g) gs) ≤ ahead (next op g)

    go : (y : Reply) → g.reply ≡ y → (t : Bool) → fits_here op g.reply g.region g.value g.buffer ≡ t → Rest
        → cond (is_done y && t) (suc (taken (next op g) gs)) (taken (next op g) gs) + ahead (after (next op g) gs) ≤ ahead op
    go Reply.Begin e t f l = omega (arith, l, rises_never op g)
    go Reply.Done e false f l = omega (arith, l, rises_never op g)
    go Reply.Done e true f l =
        let less : suc (ahead (next op g)) ≤ ahead op =
        subst (λ (y : Reply). suc (ahead (stepped op y g.region g.value g.buffer).op) ≤ ahead op) (sym e)
        (falls op g.region g.value g.buffer (subst (λ (y : Reply). fits_here op y g.region g.value g.buffer ≡ true) e f)) in
        omega (arith, l, less)
    go Reply.NotReady e t f l = omega (arith, l, rises_never op g)
    go Reply.Failed e t f l = omega (arith, l, rises_never op g)

pub taken_at_most : (c : Call) (s n : ℕ) (op : Op) → start_of c s n ≡ Ok op → (gs : List Given) → taken op gs + ahead (after op gs) ≤ most c n
taken_at_most c s n op h gs = omega (arith, taken_most op gs, (at_start c s n op h).0)

-- A step that fits says what the operation then waits for.
pub says : (op : Op) (y : Reply) (region value buffer : List ℕ) → fits_here op y region value buffer ≡ true
    → (stepped op y region value buffer).request ≡ request_of (stepped op y region value buffer).op
unfolding stepped
says op y region value buffer h = rw h

asks_none : (q : Request) → asks q ≡ false → (answer : Answer) × (q ≡ Request.Answers answer)
asks_none (Request.Read r) h = absurd (true≢false h)
asks_none (Request.Write a e p) h = absurd (true≢false h)
asks_none (Request.Erase r) h = absurd (true≢false h)
asks_none (Request.Answers answer) h = (answer, refl)

ends_after : (o op : Op) (gs : List Given) → op.s ≡ o.s → op.lent ≡ o.lent → Every (Fair o) gs → Ruled op → op.fresh ≡ false → asks (request_of op) ≡ true
    → ahead op ≤ dones gs → Answers op gs
unfolding dones
ends_after o op [] s l Every.none k b a m = absurd (true≢false (sym a ∙ ap asks (over op k (omega arith)).1.1))
ends_after o op (g ∷ gs) s l (Every.also f fs) k b a m =
    let t = same op g in
    go (asks (request_of (next op g))) refl
    (λ w. ends_after o (next op g) gs (t.s_same ∙ s) (t.lent_same ∙ l) fs (t.kept k) (t.begun b) w (one_fewer op g (fair_too o op g s l f) k b (dones gs) m))
  where
    fair : Fair op g
    fair = fair_too o op g s l f

    fit : fits_here op g.reply g.region g.value g.buffer ≡ true
    fit = fits op g.reply g.region g.value g.buffer (is_ruled op k) a fair.replies fair.region_long fair.lent_right

    go : (t : Bool) → asks (request_of (next op g)) ≡ t → (asks (request_of (next op g)) ≡ true → Answers (next op g) gs) → Answers op (g ∷ gs)
    go true w ih = later (ih w)
    go false w ih =
        let (answer, e) = asks_none (request_of (next op g)) w in
        let said = says op g.reply g.region g.value g.buffer fit ∙ e in
        now said (λ z. true≢false (sym fit ∙ is_bad_call op g.reply g.region g.value g.buffer (step_refuses op g.reply g.region g.value g.buffer) (ap request_refusal said ∙ z)))

pub ends_always : (c : Call) (s n : ℕ) (op : Op) → start_of c s n ≡ Ok op
    → (region value buffer : List ℕ) → length region ≡ s → LentRight op.lent value buffer
    → (gs : List Given) → Every (Fair op) gs → most c n ≤ dones gs → Answers (stepped op Reply.Begin region value buffer).op gs
ends_always c s n op h region value buffer long lent gs fair enough = go (makes op Reply.Begin region value buffer)
  where
    is : op ≡ fresh_of c s n
    is = (start_runs c s n op h).is

    fit : fits_here op Reply.Begin region value buffer ≡ true
    fit =
        fits_of op Reply.Begin (length region) (length value) (length buffer)
        (start_ruled c s n h, long ∙ sym (ap (λ (o : Op). o.s) is), lent_fits op.lent value buffer lent, ap (λ (o : Op). reply_fits (wait_of o) Reply.Begin) is)

    -- what a start hands out looks at a region first
    looks : (c : Call) → asks (request_of (next_op (fresh_of c s n) Reply.Begin region)) ≡ true
    looks (get key buffer) = refl
    looks (append key value) = refl
    looks (remove how key) = refl
    looks collect = refl
    looks (initialise key) = refl

    go : {o : Op} → Makes op Reply.Begin region value buffer o → Answers o gs
    go (nothing u) = absurd (true≢false (sym fit ∙ u))
    go (onward k l r) =
        ends_after op (next_op op Reply.Begin region) gs refl refl fair (next_ruled op Reply.Begin region k l) refl
        (ap (λ (o : Op). asks (request_of (next_op o Reply.Begin region))) is ∙ looks c) (omega (arith, enough, (at_start c s n op h).0))
