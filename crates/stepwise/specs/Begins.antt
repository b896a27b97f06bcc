-- How a call is started in the stepped form: with the numbers that the host names, and with no image at hand.
use Rattle.std.specs.Prelude.{ℕ, ◌≤◌, ◌<◌, length, Result}
use Rattle.std.proofs.Math.Option.{Option, none, some}
use Rattle.chip.specs.Geometry.{Shape}
use Rattle.format.specs.Layout.{edition, largest_value}
use Rattle.refusals.specs.declared.Refusal.{Refusal}
use Rattle.plans.specs.declared.Aim.{Aim}
use Rattle.plans.specs.declared.Lent.{Lent}
use Rattle.plans.specs.declared.Then.{Then}
use Rattle.plans.specs.Writes.{follows, look}
use Rattle.store.specs.Call.{Call, get, append, remove, collect, initialise, value_of, aim_of}
use Rattle.pinned.specs.When.{BadKey}
use Rattle.running.specs.declared.Op.{Op}
use Rattle.running.specs.Starts.{started, get_started, append_started, remove_started, collect_started, initialise_started}

-- R8.2: any call's start: with the length of get's buffer, or of append's value.
abbrev pub start_of : Call → ℕ → ℕ → Result Op Refusal
start_of (get key buffer) s n = get_started s n key (length buffer)
start_of (append key value) s n = append_started s n key (length value)
start_of (remove how key) s n = remove_started how s n key
start_of collect s n = collect_started s n
start_of (initialise key) s n = initialise_started s n key

-- R7.2: the order of refusals at a start: 1, then 2, then 3, where no image is at hand.
pub data StartWhen (s n : ℕ) : Call → Refusal → Type 0 where
  -- R6.1: BadGeometry, S or N is not as R1.2 has it.
  bad_geometry : {c : Call} → (Shape s n → ⊥) → StartWhen s n c Refusal.BadGeometry
  -- R6.2: BadKey, the key is 0 or 2^64 - 1.
  bad_key : {c : Call} → Shape s n → BadKey c → StartWhen s n c Refusal.BadKey
  -- R6.3: ObjectTooLarge, append's value has more than 4,079 bytes.
  object_too_large : {c : Call} → Shape s n → (BadKey c → ⊥) → largest_value edition < length (value_of c) → StartWhen s n c Refusal.ObjectTooLarge

-- R8.2: a call that none of the three refuses.
pub record Allowed (s n : ℕ) (c : Call) : Type 0 where
  pub shape : Shape s n
  pub key_good : BadKey c → ⊥
  pub not_large : length (value_of c) ≤ largest_value edition

-- The running operation that its start hands out: fresh, with the call's key, what is lent for it, and what it begins with.

-- R8.2: the key. Collect has none: its operation carries 1.
abbrev pub key_carried : Call → ℕ
key_carried (get key buffer) = key
key_carried (append key value) = key
key_carried (remove how key) = key
key_carried collect = 1
key_carried (initialise key) = key

-- R8.2: what is lent: get's buffer, append's value, to the others nothing.
abbrev pub lent_of : Call → Lent
lent_of (get key buffer) = Lent.Buffer (length buffer)
lent_of (append key value) = Lent.Value (length value)
lent_of (remove how key) = Lent.Nothing
lent_of collect = Lent.Nothing
lent_of (initialise key) = Lent.Nothing

-- R5.1, R5.7: it begins with the lookup of its key, or with collect's region 0.
abbrev pub begins_with : Option Aim → Then
begins_with (some aim) = look aim
begins_with none = Then.Sweep 0 0

-- R5.1, R5.7: the same of a call.
abbrev pub first_of : Call → Then
first_of c = begins_with (aim_of c)

-- R8.2: the fresh operation of a call.
abbrev pub fresh_of : Call → ℕ → ℕ → Op
fresh_of c s n = started s n (key_carried c) (lent_of c) (follows (first_of c))
