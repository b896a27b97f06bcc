-- Which edits and which ends the plan of a call's operation can have, after any replies and any lent bytes; so what it asks for, and whose bytes an
-- append writes.
-- Assumes nothing.
use Prim.Native.Nat.{ℕ, ◌+◌, ◌-◌}
use native.Mathlib.Omega.{arith}
use mathlib.Core.Path.{◌≡◌, refl, sym, ◌∙◌, ap, subst}
use mathlib.Core.Bool.{Bool, true, false, cond}
use mathlib.Core.List.{List, [], ◌∷◌}
use lib.Dec.{ltb}
use lib.ListN.{take, drop, get_or}
use Rattle.lookup.proofs.Scan.{room_cases}
use Rattle.std.specs.declared.ops.ControlFlow.TheVariants.{Break, Continue}
use Rattle.std.specs.declared.ops.ControlFlow.{ControlFlow}
use Rattle.std.specs.Prelude.{Ok, Option, Some, None, Err}
use Rattle.probe.specs.Probe.{probes}
use Rattle.format.specs.declared.Record.{Record}
use Rattle.format.specs.declared.Removal.{Removal}
use Rattle.format.specs.Layout.{record_bytes}
use Rattle.refusals.specs.declared.Refusal.{Refusal}
use Rattle.lookup.specs.declared.Room.{Room}
use Rattle.lookup.specs.declared.Seen.{Seen}
use Rattle.lookup.specs.declared.Looked.{Looked}
use Rattle.lookup.specs.Turns.{turn_of}
use Rattle.plans.specs.declared.Aim.{Aim}
use Rattle.plans.specs.declared.Lent.{Lent}
use Rattle.plans.specs.declared.Edit.{Edit}
use Rattle.plans.specs.declared.Edits.{Edits}
use Rattle.plans.specs.declared.Then.{Then}
use Rattle.plans.specs.declared.Plan.{Plan}
use Rattle.plans.specs.Answers.{starts_anew, Answer}
use Rattle.plans.specs.Writes.{value_lent, value_of, buffer_lent, bytes_of, first, rest, follows, ends}
use Rattle.planning.specs.Planning.{need_of, anew, place_plan, plan}
use Rattle.planning.proofs.Places.{by_place}
use Rattle.sweeping.specs.declared.Verdict.{Verdict}
use Rattle.sweeping.specs.Sweeps.{verdict, swept_to, sweep_plan}
use Rattle.values.specs.Values.{read_answer}
use Rattle.store.specs.Call.{Call, get, append, remove, collect, initialise}
use Rattle.running.specs.declared.Op.{Op}
use Rattle.running.specs.declared.Reply.{Reply}
use Rattle.running.specs.declared.Wait.{Wait}
use Rattle.running.specs.declared.Request.{Request}
use Rattle.running.specs.Waits.{wait_next, wait_first, request_for, request_of}
use Rattle.advancing.specs.Advance.{closes, turned_to, advance_next, advance_first, advance, given_by, given, next_plan}
use Rattle.steps.specs.declared.Stepped.{Stepped}
use Rattle.steps.specs.Step.{next_op, fits_here, stepped, region_after}
use Rattle.stepwise.proofs.Forms.{Awaits, a_region, no_more, next_awaits, by_swept}
use Rattle.stepwise.specs.Asked.{MayAsk, any_reads, any_answers, append_writes, removal_writes, collect_erases, initialise_erases, initialise_writes}
use Rattle.stepwise.specs.Begins.{start_of, key_carried, lent_of, first_of}
use Rattle.stepwise.specs.Ahead.{Given, next, after}
use Rattle.stepwise.proofs.Starts.{start_runs}
use Rattle.stepwise.proofs.Lays.{Leaves, waits, lays, steps, steps_leave}

-- The edits that an operation of a call can have left,
data EditsOf : Call → Edits → Type 0 where
  none_left : {c : Call} → EditsOf c Edits.Nil
  append_lays : {key : ℕ} {value : List ℕ} {r o : ℕ} → EditsOf (append key value) (Edits.One (Edit.Lay r o))
  removal_kills : {how : Removal} {key r : ℕ} {x : Record} → EditsOf (remove how key) (Edits.One (Edit.Kill how r x))
  collect_clears : {r : ℕ} → EditsOf collect (Edits.One (Edit.Erase r))
  initialise_clears : {key i m : ℕ} → EditsOf (initialise key) (Edits.Erases i m)
  initialise_lays : {key r o : ℕ} → EditsOf (initialise key) (Edits.One (Edit.Lay r o))

-- the lookups that it goes through,
data Looks : Call → Aim → Type 0 where
  get_looks : {key : ℕ} {buffer : List ℕ} → Looks (get key buffer) Aim.Get
  append_looks : {key : ℕ} {value : List ℕ} → Looks (append key value) Aim.Append
  removal_looks : {how : Removal} {key : ℕ} → Looks (remove how key) (Aim.Remove how)
  initialise_looks : {key : ℕ} → Looks (initialise key) Aim.Initialise
  initialise_appends : {key : ℕ} → Looks (initialise key) Aim.Append

-- and what can follow its edits.
data ThenOf : Call → Then → Type 0 where
  it_ends : {c : Call} {answer : Answer} → ThenOf c (Then.Ends answer)
  it_looks : {c : Call} {aim : Aim} {i : ℕ} {seen : Seen} → Looks c aim → ThenOf c (Then.Seek aim i seen)
  collect_sweeps : {r k : ℕ} → ThenOf collect (Then.Sweep r k)
  get_gives : {key : ℕ} {buffer : List ℕ} {r : ℕ} {x : Record} → ThenOf (get key buffer) (Then.Gives r x false)
  initialise_gives : {key r : ℕ} {x : Record} → ThenOf (initialise key) (Then.Gives r x true)

record PlanOf (c : Call) (p : Plan) : Type 0 where
  edits_of : EditsOf c p.edits
  next_of : ThenOf c p.next

follows_of : {c : Call} {next : Then} → ThenOf c next → PlanOf c (follows next)
follows_of t = record { edits_of = none_left; next_of = t }

-- A start.
begins_of : (c : Call) → ThenOf c (first_of c)
begins_of (get key buffer) = it_looks get_looks
begins_of (append key value) = it_looks append_looks
begins_of (remove how key) = it_looks removal_looks
begins_of collect = collect_sweeps
begins_of (initialise key) = it_looks initialise_looks

-- A lookup has ended, or goes on.

place_of : {c : Call} → ((r o : ℕ) → EditsOf c (Edits.One (Edit.Lay r o))) → (place : Option Room) → PlanOf c (place_plan place)
place_of {c} l =
    room_cases
    (λ place. PlanOf c (place_plan place))
    (follows_of it_ends)
    (λ r o. follows_of it_ends)
    (λ r o. record { edits_of = l r o; next_of = it_ends })

append_of_lem : {c : Call} → ((r o : ℕ) → EditsOf c (Edits.One (Edit.Lay r o))) → (n : ℕ) (looked : Looked) → PlanOf c (plan Aim.Append n looked)
append_of_lem l n (Looked.Live r x) = follows_of it_ends
append_of_lem l n (Looked.Bad f p) = follows_of it_ends
append_of_lem {c} l n (Looked.Through seen) = by_place (PlanOf c) (place_of l) seen

anew_of : (key n : ℕ) → PlanOf (initialise key) (anew n)
anew_of key n = record { edits_of = initialise_clears; next_of = it_looks initialise_appends }

plan_of : {c : Call} {aim : Aim} → Looks c aim → (n : ℕ) (looked : Looked) → PlanOf c (plan aim n looked)
plan_of get_looks n (Looked.Live r x) = follows_of get_gives
plan_of get_looks n (Looked.Bad f p) = follows_of it_ends
plan_of get_looks n (Looked.Through seen) = follows_of it_ends
plan_of append_looks n looked = append_of_lem (λ r o. append_lays) n looked
plan_of removal_looks n (Looked.Live r x) = record { edits_of = removal_kills; next_of = it_ends }
plan_of removal_looks n (Looked.Bad f p) = follows_of it_ends
plan_of removal_looks n (Looked.Through seen) = follows_of it_ends
plan_of initialise_looks n (Looked.Live r x) = follows_of initialise_gives
plan_of initialise_looks n (Looked.Bad f p) = anew_of _ n
plan_of initialise_looks n (Looked.Through seen) = anew_of _ n
plan_of initialise_appends n looked = append_of_lem (λ r o. initialise_lays) n looked

turned_of : {c : Call} {aim : Aim} → Looks c aim → (n i : ℕ) (t : ControlFlow Looked Seen) → PlanOf c (turned_to aim n i t)
turned_of k n i (Break looked) = plan_of k n looked
turned_of k n i (Continue seen) = follows_of (it_looks k)

-- A region is swept.

swept_of : (s n r k : ℕ) → ThenOf collect (swept_to s n r k)
swept_of s n r k = by_swept (ThenOf collect) s n r k collect_sweeps it_ends

sweep_of : (s n r k : ℕ) (v : Verdict) → PlanOf collect (sweep_plan s n r k v)
sweep_of s n r k Verdict.Stands = follows_of (swept_of s n (r + 1) k)
sweep_of s n r k Verdict.Erase = record { edits_of = collect_clears; next_of = swept_of s n (r + 1) (k + 1) }
sweep_of s n r k (Verdict.Bad f p) = follows_of it_ends

-- A service is done.

rest_of : {c : Call} {es : Edits} → EditsOf c es → EditsOf c (rest es)
rest_of none_left = none_left
rest_of append_lays = none_left
rest_of removal_kills = none_left
rest_of collect_clears = none_left
rest_of (initialise_clears {key} {i} {m}) = go (ltb i m)
  where
    go : (t : Bool) → EditsOf (initialise key) (cond t (Edits.Erases (i + 1) m) Edits.Nil)
    go true = initialise_clears
    go false = none_left
rest_of initialise_lays = none_left

next_of_call : {c : Call} (op : Op) (region : List ℕ) {t : Then} → ThenOf c t → PlanOf c (advance_next op region t)
next_of_call op region it_ends = follows_of it_ends
next_of_call op region (it_looks {aim = aim} {i = i} {seen = seen} k) =
    turned_of k op.n i (closes op.n i (turn_of seen op.key (need_of aim (value_lent op.lent)) (get_or (probes op.key op.n) i 0) region))
next_of_call op region (collect_sweeps {r} {k}) = sweep_of op.s op.n r k (verdict r region)
next_of_call op region get_gives = follows_of get_gives
next_of_call op region initialise_gives = follows_of initialise_gives

advance_of : {c : Call} (op : Op) (region : List ℕ) → PlanOf c op.plan → PlanOf c (advance op region)
advance_of {c} op region p = go (first op.plan.edits)
  where
    go : (f : Option Edit) → PlanOf c (advance_first op region f)
    go (Some e) = record { edits_of = rest_of p.edits_of; next_of = p.next_of }
    go None = next_of_call op region p.next_of

-- A value is given: initialise begins anew where it cannot be.
given_of : {c : Call} (n : ℕ) (lent : Lent) (region : List ℕ) (p : Plan) → PlanOf c p → PlanOf c (given n lent region p)
given_of n lent region p k = go p.next k.next_of k
  where
    again : (key : ℕ) (t : Bool) (answer : Answer) → PlanOf (initialise key) (cond t (anew n) (ends answer))
    again key true answer = anew_of key n
    again key false answer = follows_of it_ends

    go : {c : Call} (t : Then) → ThenOf c t → PlanOf c p → PlanOf c (given_by n lent region p t)
    go (Then.Ends answer) h k = k
    go (Then.Seek aim i seen) h k = k
    go (Then.Sweep r j) h k = k
    go (Then.Gives r x false) get_gives k = follows_of it_ends
    go (Then.Gives r x true) (initialise_gives {key}) k = let answer : Answer = read_answer region x (buffer_lent lent) in again key (starts_anew answer) answer

replied_of : {c : Call} (op : Op) (y : Reply) (region : List ℕ) → PlanOf c op.plan → PlanOf c (next_plan op y region)
replied_of op Reply.Begin region p = p
replied_of op Reply.Done region p = given_of op.n op.lent region (advance op region) (advance_of op region p)
replied_of op Reply.NotReady region p = p
replied_of op Reply.Failed region p = follows_of it_ends

-- An operation of a call, with its size of a region, its key and what is lent for it: a start hands out one, and every step leaves one.
record Of (c : Call) (s : ℕ) (op : Op) : Type 0 where
  same_s : op.s ≡ s
  same_key : op.key ≡ key_carried c
  same_lent : op.lent ≡ lent_of c
  plan_is : PlanOf c op.plan

start_of_lem : (c : Call) (s n : ℕ) (op : Op) → start_of c s n ≡ Ok op → Of c s op
start_of_lem c s n op h =
    subst (Of c s) (sym (start_runs c s n op h).is) (record { same_s = refl; same_key = refl; same_lent = refl; plan_is = follows_of (begins_of c) })

next_is_of : {c : Call} {s : ℕ} {op : Op} (y : Reply) (region : List ℕ) → Of c s op → Of c s (next_op op y region)
next_is_of {op = op} y region o =
    record { same_s = o.same_s; same_key = o.same_key; same_lent = o.same_lent; plan_is = replied_of op y region o.plan_is }

step_of : {c : Call} {s : ℕ} (op : Op) (g : Given) → Of c s op → Of c s (next op g)
unfolding stepped
step_of {c} {s} op g o = go (fits_here op g.reply g.region g.value g.buffer)
  where
    go : (t : Bool)
        → Of c s
        (cond {A = Stepped} t (record { op = next_op op g.reply g.region; request = request_of (next_op op g.reply g.region) })
        (record { op = op; request = Request.Answers (Err Refusal.BadCall) })).op
    go true = next_is_of g.reply g.region o
    go false = o

after_of : {c : Call} {s : ℕ} (op : Op) (gs : List Given) → Of c s op → Of c s (after op gs)
unfolding after
after_of op [] o = o
after_of op (g ∷ gs) o = after_of (next op g) gs (step_of op g o)

run_of : (c : Call) (s n : ℕ) (op : Op) → start_of c s n ≡ Ok op → (gs : List Given) → Of c s (after op gs)
run_of c s n op h gs = after_of op gs (start_of_lem c s n op h)

-- What it asks for.

next_asks : {c : Call} (s len key n : ℕ) (t : Then) → MayAsk s c (request_for s len (wait_next key n t))
next_asks {c} s len key n t = go (next_awaits key n t)
  where
    go : {w : Wait} → Awaits w → MayAsk s c (request_for s len w)
    go a_region = any_reads
    go no_more = any_answers

edits_ask : {c : Call} {es : Edits} (s key n : ℕ) (t : Then) → EditsOf c es → MayAsk s c (request_for s (value_lent (lent_of c)) (wait_first key n (first es) t))
edits_ask {c} s key n t none_left = next_asks s (value_lent (lent_of c)) key n t
edits_ask s key n t (append_lays {r = r} {o = o}) = append_writes r o
edits_ask s key n t (removal_kills {r = r} {x = x}) = removal_writes r x
edits_ask s key n t collect_clears = collect_erases
edits_ask s key n t (initialise_clears {key = main} {i = i} {m = m}) = go (ltb i m)
  where
    go : (b : Bool) → MayAsk s (initialise main) (request_for s 0 (wait_first key n (cond b (Some (Edit.Erase i)) None) t))
    go true = initialise_erases
    go false = next_asks s 0 key n t
edits_ask s key n t (initialise_lays {r = r} {o = o}) = initialise_writes r o

of_asks : {c : Call} {s : ℕ} {op : Op} → Of c s op → MayAsk s c (request_of op)
of_asks {c} {s} {op} o = rw (o.same_s, o.same_lent) (go op.fresh)
  where
    go : (t : Bool) → MayAsk s c (request_for s (value_lent (lent_of c)) (cond t Wait.Begin (wait_first op.key op.n (first op.plan.edits) op.plan.next)))
    go true = any_answers
    go false = edits_ask s op.key op.n op.plan.next o.plan_is.edits_of

-- An append writes its record, with the value that is lent.

append_edit : {key : ℕ} {named : List ℕ} {es : Edits} {d : Edit} (own : ℕ) (value : List ℕ) → EditsOf (append key named) es → first es ≡ Some d
    → bytes_of own value d ≡ record_bytes own value
append_edit own value none_left h = absurd (let z : ◌≡◌ {A = ℕ} 0 1 = cc in omega arith)
append_edit {d = d} own value (append_lays {r = r} {o = o}) h = ap (bytes_of own value) (let z : d ≡ Edit.Lay r o = cc in z)

append_leaves : {key s : ℕ} {named region value region' : List ℕ} {op : Op} {y : Reply} {a e : ℕ} → Of (append key named) s op → (y ≡ Reply.NotReady → ⊥)
    → Leaves op region value a e y region' → take (e - a) (drop a region') ≡ record_bytes key value
append_leaves o ready waits = absurd (ready refl)
append_leaves {value = value} {op = op} {y = y} o ready (lays w l) =
    l.there ∙ append_edit op.key (value_of op.lent value) (replied_of op y _ o.plan_is).edits_of w.is_first ∙ rw (o.same_key, o.same_lent)

-- So it is after any replies and any lent bytes.

pub call_asks : (c : Call) (s n : ℕ) (op : Op) → start_of c s n ≡ Ok op → (gs : List Given) (y : Reply) (region value buffer : List ℕ)
    → MayAsk s c (stepped (after op gs) y region value buffer).request
unfolding stepped
call_asks c s n op h gs y region value buffer = go (fits_here (after op gs) y region value buffer)
  where
    go : (t : Bool)
        → MayAsk s c
        (cond {A = Stepped} t (record { op = next_op (after op gs) y region; request = request_of (next_op (after op gs) y region) })
        (record { op = after op gs; request = Request.Answers (Err Refusal.BadCall) })).request
    go true = of_asks (next_is_of y region (run_of c s n op h gs))
    go false = any_answers

pub append_lays_lent : (key : ℕ) (named : List ℕ) (s n : ℕ) (op : Op) → start_of (append key named) s n ≡ Ok op → (gs : List Given)
    → (y : Reply) → (y ≡ Reply.NotReady → ⊥) → (region value buffer : List ℕ) {a e p : ℕ} → (stepped (after op gs) y region value buffer).request ≡ Request.Write a e p
    → take (e - a) (drop a (region_after (after op gs) y region value buffer)) ≡ record_bytes key value
append_lays_lent key named s n op h gs y ready region value buffer asked =
    append_leaves (run_of (append key named) s n op h gs) ready (steps_leave (steps (after op gs) y region value buffer) asked)
