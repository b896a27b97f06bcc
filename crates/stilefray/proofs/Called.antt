-- One step in numbers, by what the numbers stand for.
-- Assumes nothing.
use Prim.Native.Nat.{ℕ}
use mathlib.Core.Path.{◌≡◌, refl, sym, ap}
use mathlib.Core.Bool.{true, false}
use mathlib.Core.List.{List}
use Rattle.std.specs.Prelude.{Some, None}
use Rattle.running.specs.declared.Op.{Op}
use Rattle.running.specs.declared.Reply.{Reply}
use Rattle.running.specs.Waits.{with_plan, request_of}
use Rattle.steps.specs.Step.{fits_here, stepped, region_after, buffer_after}
use Rattle.operations.specs.declared.COperation.{COperation}
use Rattle.numbers.specs.declared.CStepped.{CStepped}
use Rattle.numbers.specs.Packs.{packed}
use Rattle.operations.specs.Unpacks.{KnownOp, unpacked, known_reply}
use Rattle.stilefray.specs.Stepped.{bad_call, packed_step, on_known, step_numbers, step_region, step_buffer}
use Rattle.numbers.proofs.Own.{own}

-- What a call hands back, and what it leaves in region and buffer.
abbrev pub Steps : COperation → ℕ → List ℕ → List ℕ → List ℕ → CStepped → List ℕ → List ℕ → Type 0
Steps o y region value buffer t region' buffer' =
    (step_numbers o y region value buffer ≡ t) × (step_region o y region value buffer ≡ region') × (step_buffer o y region value buffer ≡ buffer')

pub no_op : (o : COperation) (y : ℕ) (region value buffer : List ℕ) → unpacked o ≡ KnownOp.Unknown → Steps o y region value buffer (bad_call o) region buffer
unfolding step_numbers step_region step_buffer
no_op o y region value buffer e = rw e (refl, refl, refl)

-- nothing runs on no reply
other : {A : Type 0} (a : A) (f : Op → Reply → A) (k : KnownOp) → on_known a f k None ≡ a
other a f KnownOp.Unknown = refl
other a f (KnownOp.Known op) = refl

pub no_reply : (o : COperation) (y : ℕ) (region value buffer : List ℕ) → known_reply y ≡ None → Steps o y region value buffer (bad_call o) region buffer
unfolding step_numbers step_region step_buffer
no_reply o y region value buffer e = rw e (other _ _ (unpacked o), other _ _ (unpacked o), other _ _ (unpacked o))

-- Where the call does not fit, the operation stays, and its numbers are the ones that were given.
pub misfit : (o : COperation) (y : ℕ) (region value buffer : List ℕ) (op : Op) (said : Reply)
    → unpacked o ≡ KnownOp.Known op → known_reply y ≡ Some said → fits_here op said region value buffer ≡ false
    → Steps o y region value buffer (bad_call o) region buffer
unfolding step_numbers step_region step_buffer stepped region_after buffer_after
misfit o y region value buffer op said e f g = rw (e, f, g) (ap bad_call (sym (own o op e)), refl, refl)

pub fit : (o : COperation) (y : ℕ) (region value buffer : List ℕ) (op : Op) (said : Reply)
    → unpacked o ≡ KnownOp.Known op → known_reply y ≡ Some said
    → Steps o y region value buffer (packed_step (stepped op said region value buffer)) (region_after op said region value buffer) (buffer_after op said region value buffer)
unfolding step_numbers step_region step_buffer
fit o y region value buffer op said e f = rw (e, f) (refl, refl, refl)

-- Where steps alters nothing either, BadCall in numbers is its step.
pub misfits : (y : ℕ) (op : Op) (said : Reply) (region value buffer : List ℕ) → fits_here op said region value buffer ≡ false
    → Steps (packed op) y region value buffer (bad_call (packed op)) region buffer
    → Steps (packed op) y region value buffer (packed_step (stepped op said region value buffer)) (region_after op said region value buffer) (buffer_after op said region value buffer)
unfolding stepped region_after buffer_after
misfits y op said region value buffer g h = rw g h

-- "Not ready" repeats the request: the operation stays, but that it has begun, and nothing is done to the buffers.
pub waits : (o : COperation) (y : ℕ) (region value buffer : List ℕ) (op : Op)
    → unpacked o ≡ KnownOp.Known op → known_reply y ≡ Some Reply.NotReady → fits_here op Reply.NotReady region value buffer ≡ true
    → Steps o y region value buffer (packed_step (record { op = with_plan op op.plan; request = request_of (with_plan op op.plan) })) region buffer
unfolding step_numbers step_region step_buffer stepped region_after buffer_after
waits o y region value buffer op e f g = rw (e, f, g) (refl, refl, refl)
