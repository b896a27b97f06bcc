-- What a C or Rust caller can count on: of one step over any numbers and any bytes that it passes, and of the sixteen exports, that no two results
-- are allowed for one input. The arguments: Read.antt (what the numbers say), Called.antt (a step by what its numbers stand for), Numbers.antt (what is
-- true of the steps of operations is true of steps in numbers), Handed.antt (what a step hands back that is no BadCall).
-- Assumes nothing.
use Prim.Native.Nat.{ℕ}
use mathlib.Core.Path.{◌≡◌, sym, ◌∙◌}
use mathlib.Core.List.{List}
use mathlib.Core.Logic.{◌⊎◌, ◌↔◌}
use lib.ListN.{length, take, drop}
use Rattle.replies.specs.declared.CAnswer.{CAnswer}
use Rattle.operations.specs.declared.COperation.{COperation}
use Rattle.numbers.specs.declared.CStart.{CStart}
use Rattle.numbers.specs.declared.CStepped.{CStepped}
use Rattle.sights.specs.declared.CFound.{CFound}
use Rattle.sights.specs.declared.CEntry.{CEntry}
use Rattle.stilefray.specs.Stepped.{bad_call, step_numbers, step_region, step_buffer}
use Rattle.stilefray.specs.Allows.{GetKeyAllows, AppendKeyAllows, InvalidateKeyAllows, ZeroiseKeyAllows, GarbageCollectAllows, InitialiseAllows}
use Rattle.stilefray.specs.Allows.{StartGetAllows, StartAppendAllows, StartInvalidateAllows, StartZeroiseAllows, StartCollectAllows, StartInitialiseAllows}
use Rattle.stilefray.specs.Allows.{StepAllows, ChecksumAllows, FindValueAllows, RecordAtAllows}
use Rattle.exports.specs.Misfits.{Misfits}
use Rattle.exports.specs.Inside.{InsideNumbers, ReadsNumbers}
use Rattle.exports.proofs.Alone.{two_alone}
use Rattle.exports.proofs.Numbers.{bad_call_lem, flash_failed, inside, region_altered, buffer_altered, misfits_keep}
use Rattle.exports.proofs.Handed.{answers_6, rest_left, asked_again}

-- One step, over any numbers and any bytes.

-- R6.11: BadCall, exactly when one of its clauses says so.
pub bad_call_exactly_when : (o : COperation) (y : ℕ) (region value buffer : List ℕ)
    → ((step_numbers o y region value buffer).request.answer.refusal ≡ 11) ↔ Misfits o y region value buffer
bad_call_exactly_when o y region value buffer = bad_call_lem o y region value buffer

-- R6.12: FlashFailed, exactly when the host says that the service failed, by the reply 3, where no clause of R6.11 says BadCall: 11 comes before 12
-- (R7.2).
pub flash_failed_exactly_when : (o : COperation) (y : ℕ) (region value buffer : List ℕ)
    → ((step_numbers o y region value buffer).request.answer.refusal ≡ 12) ↔ ((Misfits o y region value buffer → ⊥) × (y ≡ 3))
flash_failed_exactly_when o y region value buffer = flash_failed o y region value buffer

-- R12.7: a step that answers, BadCall aside, hands back numbers that say so: 6,
pub ended_is_6 : (o : COperation) (y : ℕ) (region value buffer : List ℕ) → (Misfits o y region value buffer → ⊥)
    → (step_numbers o y region value buffer).request.kind ≡ 4 → (step_numbers o y region value buffer).op.next ≡ 6
ended_is_6 o y region value buffer fits e = answers_6 o y region value buffer fits e

-- R6.11: so that every further step on them is BadCall.
pub after_the_end_bad_call : (o : COperation) (y : ℕ) (region value buffer : List ℕ) → (Misfits o y region value buffer → ⊥)
    → (step_numbers o y region value buffer).request.kind ≡ 4
    → (y' : ℕ) (region' value' buffer' : List ℕ) → (step_numbers (step_numbers o y region value buffer).op y' region' value' buffer').request.answer.refusal ≡ 11
after_the_end_bad_call o y region value buffer fits e y' region' value' buffer' =
    (bad_call_exactly_when _ y' region' value' buffer').1 (Misfits.after_the_end (answers_6 o y region value buffer fits e))

-- R6.11: BadCall leaves the running operation as it was: all its numbers, and region and buffer too.
pub bad_call_keeps_all : (o : COperation) (y : ℕ) (region value buffer : List ℕ) → Misfits o y region value buffer
    → (step_numbers o y region value buffer ≡ bad_call o) × (step_region o y region value buffer ≡ region) × (step_buffer o y region value buffer ≡ buffer)
bad_call_keeps_all o y region value buffer m = misfits_keep o y region value buffer m

-- R8.4: what a step asks for lies in the chip that its numbers name, whatever they are: BadCall asks for nothing.
pub step_inside : (o : COperation) (y : ℕ) (region value buffer : List ℕ) → InsideNumbers o.s o.n (step_numbers o y region value buffer).request
step_inside o y region value buffer = inside o y region value buffer

-- R8.6: the region buffer is altered by no step but the one that asks for a write.
pub region_altered_only : (o : COperation) (y : ℕ) (region value buffer : List ℕ)
    → (step_region o y region value buffer ≡ region) ⊎ ((step_numbers o y region value buffer).request.kind ≡ 2)
region_altered_only o y region value buffer = region_altered o y region value buffer

-- R8.6: and that step alters just the bytes that are to be written: the rest stays as it was.
pub rest_stays : (o : COperation) (y : ℕ) (region value buffer : List ℕ) → (step_numbers o y region value buffer).request.kind ≡ 2
    → let q = (step_numbers o y region value buffer).request in
    let region' = step_region o y region value buffer in
    (length region' ≡ length region) × (take q.from region' ≡ take q.from region) × (drop q.to region' ≡ drop q.to region)
rest_stays o y region value buffer e = rest_left o y region value buffer e

-- R8.7: get's buffer is altered by no step but the one of a get's lookup that answers Complete, BufferTooSmall or InvalidCheckSum.
pub buffer_altered_only : (o : COperation) (y : ℕ) (region value buffer : List ℕ)
    → (step_buffer o y region value buffer ≡ buffer) ⊎ ((o.next ≡ 1) × (o.aim ≡ 1) × ReadsNumbers (step_numbers o y region value buffer).request)
buffer_altered_only o y region value buffer = buffer_altered o y region value buffer

-- R8.5: "not ready" repeats the request and alters nothing: where a step has asked for a service, one with the reply 2 on the numbers that it handed
-- back, with buffers of the right lengths and any bytes, hands back these numbers and that request again.
pub not_ready_repeats : (o : COperation) (y : ℕ) (region value buffer : List ℕ) → ((step_numbers o y region value buffer).request.kind ≡ 4 → ⊥)
    → (region' value' buffer' : List ℕ) → length region' ≡ o.s → (o.lent ≡ 1 → length value' ≡ o.len) → (o.lent ≡ 2 → length buffer' ≡ o.len)
    → let t = step_numbers o y region value buffer in
    (step_numbers t.op 2 region' value' buffer' ≡ t)
    × (step_region t.op 2 region' value' buffer' ≡ region')
    × (step_buffer t.op 2 region' value' buffer' ≡ buffer')
not_ready_repeats o y region value buffer asks region' value' buffer' long lends room =
    asked_again o y region value buffer region' value' buffer' long lends room asks

-- For one input there is one result: of each export, what it answers, and what it leaves in the bytes that it was lent to alter, as its contract
-- allows it (stilefray, Allows: the contracts cite these names).

-- R7.5: a contract that says what a result is allows no other.
only_one : {A : Type 0} {right a a' : A} → a ≡ right → a' ≡ right → a ≡ a'
only_one p p' = p ∙ sym p'

only_two : {answer a a' : CAnswer} {left b b' : List ℕ} → (a ≡ answer) × (b ≡ left) → (a' ≡ answer) × (b' ≡ left) → (a ≡ a') × (b ≡ b')
only_two = two_alone

-- R7.5: the one-call form: the answer, and get's buffer or the image at exit.
module _ (image : List ℕ) (s n : ℕ) {a a' : CAnswer} {b b' : List ℕ} where
  pub get_key_only_one : (key : ℕ) (buffer : List ℕ) → GetKeyAllows image s n key buffer a b → GetKeyAllows image s n key buffer a' b' → (a ≡ a') × (b ≡ b')
  get_key_only_one key buffer = two_alone

  pub append_key_only_one : (key : ℕ) (value : List ℕ) → AppendKeyAllows image s n key value a b → AppendKeyAllows image s n key value a' b' → (a ≡ a') × (b ≡ b')
  append_key_only_one key value = two_alone

  pub invalidate_key_only_one : (key : ℕ) → InvalidateKeyAllows image s n key a b → InvalidateKeyAllows image s n key a' b' → (a ≡ a') × (b ≡ b')
  invalidate_key_only_one key = two_alone

  pub zeroise_key_only_one : (key : ℕ) → ZeroiseKeyAllows image s n key a b → ZeroiseKeyAllows image s n key a' b' → (a ≡ a') × (b ≡ b')
  zeroise_key_only_one key = two_alone

  pub garbage_collect_only_one : GarbageCollectAllows image s n a b → GarbageCollectAllows image s n a' b' → (a ≡ a') × (b ≡ b')
  garbage_collect_only_one = two_alone

  pub initialise_only_one : (key : ℕ) → InitialiseAllows image s n key a b → InitialiseAllows image s n key a' b' → (a ≡ a') × (b ≡ b')
  initialise_only_one key = two_alone

-- R7.5: the stepped form's starts: a refusal's number and the numbers of a running operation.
module _ (s n : ℕ) {a a' : CStart} where
  pub start_get_only_one : (key capacity : ℕ) → StartGetAllows s n key capacity a → StartGetAllows s n key capacity a' → a ≡ a'
  start_get_only_one key capacity = only_one

  pub start_append_only_one : (key len : ℕ) → StartAppendAllows s n key len a → StartAppendAllows s n key len a' → a ≡ a'
  start_append_only_one key len = only_one

  pub start_invalidate_only_one : (key : ℕ) → StartInvalidateAllows s n key a → StartInvalidateAllows s n key a' → a ≡ a'
  start_invalidate_only_one key = only_one

  pub start_zeroise_only_one : (key : ℕ) → StartZeroiseAllows s n key a → StartZeroiseAllows s n key a' → a ≡ a'
  start_zeroise_only_one key = only_one

  pub start_collect_only_one : StartCollectAllows s n a → StartCollectAllows s n a' → a ≡ a'
  start_collect_only_one = only_one

  pub start_initialise_only_one : (key : ℕ) → StartInitialiseAllows s n key a → StartInitialiseAllows s n key a' → a ≡ a'
  start_initialise_only_one key = only_one

-- R7.5: a step: its numbers, and region buffer and buffer at exit.
pub step_only_one : (o : COperation) (y : ℕ) (region value buffer : List ℕ) {t t' : CStepped} {r r' b b' : List ℕ}
    → StepAllows o y region value buffer t r b
    → StepAllows o y region value buffer t' r' b'
    → (t ≡ t') × (r ≡ r') × (b ≡ b')
step_only_one o y region value buffer (p, q, u) (p', q', u') = (only_one p p', only_one q q', only_one u u')

-- R7.5: the checksum alone.
pub checksum_only_one : (bytes : List ℕ) {a a' : ℕ} → ChecksumAllows bytes a → ChecksumAllows bytes a' → a ≡ a'
checksum_only_one bytes = only_one

-- R7.5: looking into a chip: where a key's value lies, and what stands at a place.
pub find_value_only_one : (image : List ℕ) (s n key : ℕ) {a a' : CFound} → FindValueAllows image s n key a → FindValueAllows image s n key a' → a ≡ a'
find_value_only_one image s n key = only_one

pub record_at_only_one : (image : List ℕ) (s n region place : ℕ) {a a' : CEntry} → RecordAtAllows image s n region place a → RecordAtAllows image s n region place a' → a ≡ a'
record_at_only_one image s n region place = only_one
