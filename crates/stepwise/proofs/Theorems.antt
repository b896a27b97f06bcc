-- What a start and one step give, ask for and leave: of any running operation, any reply and any lent bytes, and with no image at hand. Then what any
-- host can count on, also one that lies: an operation asks for so many services, and ends. Whole runs against an honest host are in runs.
-- The arguments: Starts.antt and Begins.antt (starts), Misfits.antt and Exactly.antt (refusals 11 and 12), Lays.antt (what a step leaves in the
-- buffers), Asks.antt (what an operation of a call asks for), Falls.antt (services still to come).
-- Assumes nothing.
use Prim.Native.Nat.{ℕ, suc, ◌+◌, ◌-◌, ◌*◌, ◌≤◌}
use mathlib.Core.Path.{◌≡◌, refl, sym, ◌∙◌}
use mathlib.Core.Bool.{Bool, true, false, cond}
use mathlib.Core.List.{List}
use mathlib.Core.Logic.{◌⊎◌, ◌↔◌}
use lib.ListN.{length, take, drop}
use Rattle.std.specs.Prelude.{Result, Ok, Err}
use Rattle.chip.specs.Every.{Every}
use Rattle.format.specs.declared.Removal.{Removal}
use Rattle.format.specs.Layout.{record_bytes}
use Rattle.refusals.specs.declared.Refusal.{Refusal}
use Rattle.plans.specs.Writes.{refuses}
use Rattle.store.specs.Call.{Call, append}
use Rattle.running.specs.declared.Op.{Op}
use Rattle.running.specs.declared.Reply.{Reply}
use Rattle.running.specs.declared.Request.{Request}
use Rattle.running.specs.Starts.{get_started, append_started, remove_started, collect_started, initialise_started}
use Rattle.running.specs.Waits.{with_plan, request_of}
use Rattle.rule.specs.Rule.{rule, serves}
use Rattle.rule.proofs.Calls.{ruled, is_ruled, fits_ruled}
use Rattle.steps.specs.declared.Stepped.{Stepped}
use Rattle.steps.specs.Step.{next_op, fits_here, stepped, region_after, buffer_after}
use Rattle.steps.proofs.Keeps.{next_ruled}
use Rattle.stepwise.specs.Asked.{asks, request_refusal, Inside, MayAsk, GetReads}
use Rattle.stepwise.specs.Begins.{start_of, StartWhen, Allowed, fresh_of}
use Rattle.stepwise.specs.Misfit.{Misfit, LentRight}
use Rattle.stepwise.specs.Ahead.{Given, next, after, Fair, dones, taken, Answers, ahead, most}
use Rattle.stepwise.proofs.Starts.{start_ruled, inside}
use Rattle.stepwise.proofs.Begins.{refuses_when, runs_when}
use Rattle.stepwise.proofs.Exactly.{still_there}
use Rattle.stepwise.proofs.Misfits.{fits, fits_when, eleven_when, twelve_when}
use Rattle.stepwise.proofs.Lays.{steps, steps_inside, steps_alter, steps_leave, leaves_rest, steps_fill}
use Rattle.stepwise.proofs.Asks.{call_asks, append_lays_lent}
use Rattle.stepwise.proofs.Falls.{at_start, falls, rises_never, none_left, taken_at_most, says, ends_always}
use Rattle.plans.specs.Answers.{Answer}

-- Starts.

-- R7.2: a start refuses exactly where R6.1, R6.2 or R6.3 says so, in this order: of S, N, the key and the length of the value alone.
pub start_refuses_exactly_when : (c : Call) (s n : ℕ) (w : Refusal) → (start_of c s n ≡ Err w) ↔ StartWhen s n c w
start_refuses_exactly_when c s n w = refuses_when c s n w

-- R8.2: where none does, it hands out the fresh operation of the call, and only there.
pub start_runs_exactly_when : (c : Call) (s n : ℕ) (op : Op) → (start_of c s n ≡ Ok op) ↔ (Allowed s n c × (op ≡ fresh_of c s n))
start_runs_exactly_when c s n op = runs_when c s n op

-- The written rule.

-- R8.10: every operation that a start hands out keeps the written rule,
pub start_keeps : (c : Call) (s n : ℕ) (op : Op) → start_of c s n ≡ Ok op → rule op ≡ true
start_keeps c s n op h = is_ruled op (start_ruled c s n h)

-- R8.10: and so does what a step makes of one where the call fits,
pub next_keeps : (op : Op) (y : Reply) (region value buffer : List ℕ) → fits_here op y region value buffer ≡ true → rule (next_op op y region) ≡ true
next_keeps op y region value buffer h =
    let (k, long, _, _) = fits_ruled op y (length region) (length value) (length buffer) h in
    is_ruled _ (next_ruled op y region k long)

-- R8.10, R8.11: and every one that a step hands back, of one that keeps it.
pub step_keeps : (op : Op) (y : Reply) (region value buffer : List ℕ) → rule op ≡ true → rule (stepped op y region value buffer).op ≡ true
unfolding stepped
step_keeps op y region value buffer k = go (fits_here op y region value buffer) refl
  where
    go : (t : Bool) → fits_here op y region value buffer ≡ t
        → rule (cond {A = Stepped} t (record { op = next_op op y region; request = request_of (next_op op y region) }) (record { op = op; request = Request.Answers (Err Refusal.BadCall) })).op ≡ true
    go true h = next_keeps op y region value buffer h
    go false h = k

-- What is asked for.

-- R8.4: what a step asks for lies in the chip, of every operation, whether it keeps the written rule or not: BadCall asks for nothing.
pub step_inside : (op : Op) (y : Reply) (region value buffer : List ℕ) → Inside op.s op.n (stepped op y region value buffer).request
step_inside op y region value buffer = steps_inside (steps op y region value buffer)

-- R8.4: and what one that keeps the written rule waits for.
pub asks_inside : (op : Op) → rule op ≡ true → Inside op.s op.n (request_of op)
asks_inside op k = inside op (ruled op k)

-- R8.3: a step whose call fits says what the operation that it hands back waits for.
pub says_what_it_waits_for : (op : Op) (y : Reply) (region value buffer : List ℕ) → fits_here op y region value buffer ≡ true
    → (stepped op y region value buffer).request ≡ request_of (stepped op y region value buffer).op
says_what_it_waits_for op y region value buffer h = says op y region value buffer h

-- R9.1, R9.2, R9.3, R9.4, R9.5: which operations ask for a write, and which for an erase: what any step of a call's operation says, after any replies
-- and any lent bytes. Get, append and the removals never ask for an erase.
pub asks_only : (c : Call) (s n : ℕ) (op : Op) → start_of c s n ≡ Ok op → (gs : List Given) (y : Reply) (region value buffer : List ℕ)
    → MayAsk s c (stepped (after op gs) y region value buffer).request
asks_only c s n op h gs y region value buffer = call_asks c s n op h gs y region value buffer

-- What a step leaves in the lent buffers.

-- R8.6: the region buffer is altered by no step but the one that asks for a write.
pub region_altered_only : (op : Op) (y : Reply) (region value buffer : List ℕ)
    → (region_after op y region value buffer ≡ region)
    ⊎ ((a : ℕ) × (e : ℕ) × (p : ℕ) × ((stepped op y region value buffer).request ≡ Request.Write a e p))
region_altered_only op y region value buffer = steps_alter (steps op y region value buffer)

-- R8.6: and that step alters just the bytes that are to be written: the rest stays as it was.
pub rest_stays : (op : Op) (y : Reply) (region value buffer : List ℕ) {a e p : ℕ} → (stepped op y region value buffer).request ≡ Request.Write a e p
    → let region' = region_after op y region value buffer in
    (length region' ≡ length region) × (take a region' ≡ take a region) × (drop e region' ≡ drop e region)
rest_stays op y region value buffer h = leaves_rest (steps_leave (steps op y region value buffer) h)

-- R8.6: the value lent at the step that asks for the write is the one written: of an append, whatever value any earlier step was lent. A step with
-- "not ready" repeats the request, and lays nothing.
pub lent_is_written : (key : ℕ) (named : List ℕ) (s n : ℕ) (op : Op) → start_of (append key named) s n ≡ Ok op → (gs : List Given)
    → (y : Reply) → (y ≡ Reply.NotReady → ⊥) → (region value buffer : List ℕ) {a e p : ℕ} → (stepped (after op gs) y region value buffer).request ≡ Request.Write a e p
    → take (e - a) (drop a (region_after (after op gs) y region value buffer)) ≡ record_bytes key value
lent_is_written key named s n op h gs y w region value buffer asked = append_lays_lent key named s n op h gs y w region value buffer asked

-- R8.7: get's buffer is altered by no step but the one of a get that answers by the record which it found: Complete, BufferTooSmall or
-- InvalidCheckSum.
pub buffer_altered_only : (op : Op) (y : Reply) (region value buffer : List ℕ)
    → (buffer_after op y region value buffer ≡ buffer) ⊎ GetReads op (stepped op y region value buffer).request
buffer_altered_only op y region value buffer = steps_fill (steps op y region value buffer)

-- Replies.

-- R6.11: BadCall leaves the running operation as it was, and all buffers.
pub bad_call_lem : (op : Op) (y : Reply) (region value buffer : List ℕ) → fits_here op y region value buffer ≡ false
    → (stepped op y region value buffer ≡ record { op = op; request = Request.Answers (Err Refusal.BadCall) })
    × (region_after op y region value buffer ≡ region)
    × (buffer_after op y region value buffer ≡ buffer)
unfolding stepped region_after buffer_after
bad_call_lem op y region value buffer h = (rw h, rw h, rw h)

-- R8.5: "not ready": the step hands back the same operation and the same request, and alters nothing.
pub not_ready : (op : Op) (region value buffer : List ℕ) → fits_here op Reply.NotReady region value buffer ≡ true
    → (stepped op Reply.NotReady region value buffer ≡ record { op = op; request = request_of op })
    × (region_after op Reply.NotReady region value buffer ≡ region)
    × (buffer_after op Reply.NotReady region value buffer ≡ buffer)
unfolding stepped region_after buffer_after
not_ready op region value buffer h =
    let same : next_op op Reply.NotReady region ≡ op = still_there op (fits_ruled op Reply.NotReady (length region) (length value) (length buffer) h).3 in
    (rw h (λ i. record { op = same i; request = request_of (same i) }), rw h, rw h)

-- R6.12: FlashFailed ends the operation, and alters no buffer.
pub flash_failed : (op : Op) (region value buffer : List ℕ) → fits_here op Reply.Failed region value buffer ≡ true
    → (stepped op Reply.Failed region value buffer ≡ record { op = with_plan op (refuses Refusal.FlashFailed); request = Request.Answers (Err Refusal.FlashFailed) })
    × (region_after op Reply.Failed region value buffer ≡ region)
    × (buffer_after op Reply.Failed region value buffer ≡ buffer)
unfolding stepped region_after buffer_after
flash_failed op region value buffer h = (rw h, rw h, rw h)

-- R6.12: where a service is asked for, every reply that says how it went fits, with buffers of the right lengths and any bytes: a failed one too, which
-- is then FlashFailed and never BadCall.
pub reply_fits_lem : (op : Op) (y : Reply) (region value buffer : List ℕ) → rule op ≡ true → asks (request_of op) ≡ true → serves y ≡ true
    → length region ≡ op.s → LentRight op.lent value buffer → fits_here op y region value buffer ≡ true
reply_fits_lem op y region value buffer k a f l t = fits op y region value buffer k a f l t

-- Exactly when a step is refused.

-- R6.11: the test that a step makes of its call, `fits_here`, passes exactly when none of the rule's clauses speaks of the call.
pub fits_exactly_when : (op : Op) (y : Reply) (region value buffer : List ℕ) → (fits_here op y region value buffer ≡ true) ↔ (Misfit op y region value buffer → ⊥)
fits_exactly_when op y region value buffer = fits_when op y region value buffer

-- R6.11: BadCall, exactly when one of its clauses says so.
pub bad_call_exactly_when : (op : Op) (y : Reply) (region value buffer : List ℕ)
    → (request_refusal (stepped op y region value buffer).request ≡ 11) ↔ Misfit op y region value buffer
bad_call_exactly_when op y region value buffer = eleven_when op y region value buffer

-- R6.12: FlashFailed, exactly when the host says that the service failed, where no clause of R6.11 says BadCall: 11 comes before 12 (R7.2).
pub flash_failed_exactly_when : (op : Op) (y : Reply) (region value buffer : List ℕ)
    → (request_refusal (stepped op y region value buffer).request ≡ 12) ↔ ((Misfit op y region value buffer → ⊥) × (y ≡ Reply.Failed))
flash_failed_exactly_when op y region value buffer = twelve_when op y region value buffer

-- Nothing runs on, whatever the host: any bytes in the buffers at each step, and any replies.

-- R9.6: a number of services still to come. At the start it is get's n, append's and the removals' n + 1, collect's 2 n, initialise's 3 n + 1,
pub ahead_at_start : (c : Call) (s n : ℕ) (op : Op) → start_of c s n ≡ Ok op → (ahead op ≡ most c n) × (ahead op ≤ 3 * n + 1)
ahead_at_start c s n op h = at_start c s n op h

-- R9.6: it falls with every "done" that is not BadCall,
pub falls_with_done : (op : Op) (region value buffer : List ℕ) → fits_here op Reply.Done region value buffer ≡ true
    → suc (ahead (stepped op Reply.Done region value buffer).op) ≤ ahead op
falls_with_done op region value buffer h = falls op region value buffer h

-- R9.6: never rises,
pub never_rises : (op : Op) (g : Given) → ahead (next op g) ≤ ahead op
never_rises op g = rises_never op g

-- R9.6: and is 0 only when the operation has answered, and always then.
pub none_ahead : (op : Op) → rule op ≡ true → (ahead op ≡ 0) ↔ ((op.fresh ≡ false) × ((answer : Answer) × (request_of op ≡ Request.Answers answer)))
none_ahead op k = none_left op k

-- R9.6: so after any replies and any lent bytes at all, with mistakes among them, the services that were done and those still to come are no more than
-- at the start.
pub nothing_runs_on : (c : Call) (s n : ℕ) (op : Op) → start_of c s n ≡ Ok op → (gs : List Given) → taken op gs + ahead (after op gs) ≤ most c n
nothing_runs_on c s n op h gs = taken_at_most c s n op h gs

-- R13.3: and an operation ends, in the hands of a chip that lies about its reads, writes and erases too: begun, never told "begin" again, and lent
-- buffers of the right lengths with any bytes in them, it answers by the time that as many "done" were said as the number is at the start. (A host that
-- is never ready is asked for ever: that is the host's.)
pub ends_whatever_the_host : (c : Call) (s n : ℕ) (op : Op) → start_of c s n ≡ Ok op
    → (region value buffer : List ℕ) → length region ≡ s → LentRight op.lent value buffer
    → (gs : List Given) → Every (Fair op) gs → most c n ≤ dones gs → Answers (stepped op Reply.Begin region value buffer).op gs
ends_whatever_the_host c s n op h region value buffer long lent gs fair enough = ends_always c s n op h region value buffer long lent gs fair enough

-- For one input there is one result: a step's result, region buffer and buffer at exit, and what a start gives.

-- R8.3: what step's contract allows.
abbrev StepAllows : Op → Reply → List ℕ → List ℕ → List ℕ → Stepped → List ℕ → List ℕ → Type 0
StepAllows op y region value buffer t r b =
    (t ≡ stepped op y region value buffer) × (r ≡ region_after op y region value buffer) × (b ≡ buffer_after op y region value buffer)

-- R7.5: one result of a step.
pub step_only_one : (op : Op) (y : Reply) (region value buffer : List ℕ) {t t' : Stepped} {r r' b b' : List ℕ}
    → StepAllows op y region value buffer t r b
    → StepAllows op y region value buffer t' r' b'
    → (t ≡ t') × (r ≡ r') × (b ≡ b')
step_only_one op y region value buffer (p, q, u) (p', q', u') = (p ∙ sym p', q ∙ sym q', u ∙ sym u')

-- R7.5: one result of each start.
only_one : {start a a' : Result Op Refusal} → a ≡ start → a' ≡ start → a ≡ a'
only_one p p' = p ∙ sym p'

module _ (s n : ℕ) {a a' : Result Op Refusal} where
  pub start_get_only_one : (key capacity : ℕ) → a ≡ get_started s n key capacity → a' ≡ get_started s n key capacity → a ≡ a'
  start_get_only_one key capacity = only_one

  pub start_append_only_one : (key len : ℕ) → a ≡ append_started s n key len → a' ≡ append_started s n key len → a ≡ a'
  start_append_only_one key len = only_one

  pub start_invalidate_only_one : (key : ℕ) → a ≡ remove_started Removal.Invalidate s n key → a' ≡ remove_started Removal.Invalidate s n key → a ≡ a'
  start_invalidate_only_one key = only_one

  pub start_zeroise_only_one : (key : ℕ) → a ≡ remove_started Removal.Zeroise s n key → a' ≡ remove_started Removal.Zeroise s n key → a ≡ a'
  start_zeroise_only_one key = only_one

  pub start_collect_only_one : a ≡ collect_started s n → a' ≡ collect_started s n → a ≡ a'
  start_collect_only_one = only_one

  pub start_initialise_only_one : (key : ℕ) → a ≡ initialise_started s n key → a' ≡ initialise_started s n key → a ≡ a'
  start_initialise_only_one key = only_one
