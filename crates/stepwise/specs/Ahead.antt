-- Any host at all: it replies what it likes and lends any bytes, at every step other ones. How many services an operation then still asks for at most.
use Rattle.std.specs.Prelude.{ℕ, suc, ◌+◌, ◌-◌, ◌*◌, ◌≡◌, Bool, true, false, ◌&&◌, cond, List, [], ◌∷◌, length}
use Rattle.plans.specs.Answers.{refusal, Answer}
use Rattle.plans.specs.declared.Aim.{Aim}
use Rattle.plans.specs.declared.Then.{Then}
use Rattle.plans.specs.declared.Plan.{Plan}
use Rattle.plans.specs.Writes.{listed}
use Rattle.store.specs.Call.{Call, get, append, remove, collect, initialise}
use Rattle.running.specs.declared.Op.{Op}
use Rattle.running.specs.declared.Reply.{Reply}
use Rattle.running.specs.declared.Request.{Request}
use Rattle.rule.specs.Rule.{serves}
use Rattle.steps.specs.Step.{fits_here, stepped}
use Rattle.stepwise.specs.Misfit.{LentRight}

-- R8.3: what a host gives to a step: its reply, and what it lends.
pub record Given : Type 0 where
  pub reply : Reply
  pub region : List ℕ
  pub value : List ℕ
  pub buffer : List ℕ

-- R8.3: what a step makes of the operation.
abbrev pub next : Op → Given → Op
next op g = (stepped op g.reply g.region g.value g.buffer).op

-- R13.3: and steps, one after the other, whatever the host replies and lends.
unfoldable pub after : Op → List Given → Op
after op [] = op
after op (g ∷ gs) = after (next op g) gs

-- R6.11: what a host gives, with no mistake, to a step once a service was asked for: the lengths are right, and the reply says how that went. Which
-- bytes are lent, and which of the three replies it is, is open: told "done" as often as R9.6 says, an operation has then answered (R13.3).
pub record Fair (op : Op) (g : Given) : Type 0 where
  pub region_long : length g.region ≡ op.s
  pub lent_right : LentRight op.lent g.value g.buffer
  pub replies : serves g.reply ≡ true

-- R9.6: the host says that a service is done.
abbrev pub is_done : Reply → Bool
is_done Reply.Begin = false
is_done Reply.Done = true
is_done Reply.NotReady = false
is_done Reply.Failed = false

-- R9.6: in how many steps it says so.
unfoldable pub dones : List Given → ℕ
dones [] = 0
dones (g ∷ gs) = cond (is_done g.reply) (suc (dones gs)) (dones gs)

-- R9.6: in how many of these the step takes it, since the call fits and is no BadCall.
unfoldable pub taken : Op → List Given → ℕ
taken op [] = 0
taken op (g ∷ gs) =
    cond (is_done g.reply && fits_here op g.reply g.region g.value g.buffer) (suc (taken (next op g) gs)) (taken (next op g) gs)

-- R9.6: the operation has answered: one of the steps answers, and not BadCall.
pub data Answers : Op → List Given → Type 0 where
  now : {op : Op} {g : Given} {gs : List Given} {answer : Answer}
      → (stepped op g.reply g.region g.value g.buffer).request ≡ Request.Answers answer → (refusal answer ≡ 11 → ⊥) → Answers op (g ∷ gs)
  later : {op : Op} {g : Given} {gs : List Given} → Answers (next op g) gs → Answers op (g ∷ gs)

-- The services still to come, at most.

-- R9.2, R9.3, R9.5: behind a lookup's reads: one write of append's or a removal's; initialise's erases, and append's services then.
abbrev pub behind : Aim → ℕ → ℕ
behind Aim.Get n = 0
behind Aim.Append n = 1
behind (Aim.Remove how) n = 1
behind Aim.Initialise n = n + (n + 1)

-- R9.6: behind the edits: the regions that are left to read, a sweep's twice, since each may be erased too.
abbrev pub ahead_next : ℕ → Then → ℕ
ahead_next n (Then.Ends answer) = 0
ahead_next n (Then.Seek aim i seen) = n - i + behind aim n
ahead_next n (Then.Sweep r k) = 2 * (n - r)
ahead_next n (Then.Gives r x anew) = cond anew (behind Aim.Initialise n) 0

-- R9.6: the edits that are left, and what comes behind them.
abbrev pub ahead_plan : ℕ → Plan → ℕ
ahead_plan n p = length (listed p.edits) + ahead_next n p.next

-- R9.6: the same of an operation.
abbrev pub ahead : Op → ℕ
ahead op = ahead_plan op.n op.plan

-- R9.6: how many they are at the start: N for get, N + 1 for append and the removals, 2N for collect, 3N + 1 for initialise.
abbrev pub most : Call → ℕ → ℕ
most (get key buffer) n = n
most (append key value) n = n + 1
most (remove how key) n = n + 1
most collect n = 2 * n
most (initialise key) n = 3 * n + 1
