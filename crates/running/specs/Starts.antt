-- How a running operation is started.
use Rattle.std.specs.Prelude.{ℕ, true, Result, Ok, Err}
use Rattle.chip.specs.Geometry.{sized}
use Rattle.format.specs.declared.Removal.{Removal}
use Rattle.refusals.specs.Refusals.{refusal_under}
use Rattle.plans.specs.declared.Aim.{Aim}
use Rattle.plans.specs.declared.Lent.{Lent}
use Rattle.plans.specs.declared.Then.{Then}
use Rattle.plans.specs.declared.Plan.{Plan}
use Rattle.plans.specs.Writes.{value_lent, follows, look}
use Rattle.running.specs.declared.Op.{Op}
use Rattle.refusals.specs.declared.Refusal.{Refusal}

-- R8.2: a fresh operation, as a start hands it out.
abbrev pub started : ℕ → ℕ → ℕ → Lent → Plan → Op
started s n key lent plan = record { s = s; n = n; key = key; lent = lent; fresh = true; plan = plan }

-- R7.2: a start refuses by 1, then 2, then 3, with no image at hand. (The length is that of append's value, 0 for the others.)
unfoldable pub start_refusal : ℕ → ℕ → ℕ → ℕ → Result (Unit {0}) Refusal
start_refusal s n key len = refusal_under (sized s n) key len

-- R8.2: a start refuses and runs nothing, or hands out the operation.
abbrev pub started_or : Op → Result (Unit {0}) Refusal → Result Op Refusal
started_or op (Err w) = Err w
started_or op (Ok u) = Ok op

-- R8.2: the start of an operation that begins with the lookup of its key (R5.1).
abbrev pub look_started : Aim → ℕ → ℕ → ℕ → Lent → Result Op Refusal
look_started aim s n key lent = started_or (started s n key lent (follows (look aim))) (start_refusal s n key (value_lent lent))

-- R8.2: get's start names the length of its buffer.
abbrev pub get_started : ℕ → ℕ → ℕ → ℕ → Result Op Refusal
get_started s n key capacity = look_started Aim.Get s n key (Lent.Buffer capacity)

-- R8.2: append's start names the length of its value.
abbrev pub append_started : ℕ → ℕ → ℕ → ℕ → Result Op Refusal
append_started s n key len = look_started Aim.Append s n key (Lent.Value len)

-- R8.2: invalidate's and zeroise's start: nothing is lent.
abbrev pub remove_started : Removal → ℕ → ℕ → ℕ → Result Op Refusal
remove_started how s n key = look_started (Aim.Remove how) s n key Lent.Nothing

-- R8.2: initialise's start, with the main key (R5.9): nothing is lent.
abbrev pub initialise_started : ℕ → ℕ → ℕ → Result Op Refusal
initialise_started s n key = look_started Aim.Initialise s n key Lent.Nothing

-- R8.2: collect's start: region 0 comes first, and none is erased yet (R5.7). Collect has no key: the operation carries 1, which is one.
abbrev pub collect_started : ℕ → ℕ → Result Op Refusal
collect_started s n = started_or (started s n 1 Lent.Nothing (follows (Then.Sweep 0 0))) (start_refusal s n 1 0)
