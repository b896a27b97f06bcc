-- What a step says to the host: whether it asks for a service, which refusal it answers, and where in the chip the service lies.
use Rattle.std.specs.Prelude.{ℕ, ◌+◌, ◌*◌, ◌≤◌, ◌<◌, ◌≡◌, Bool, true, false, List, length, Ok, Err}
use Rattle.format.specs.declared.Record.{Record}
use Rattle.format.specs.declared.Removal.{Removal}
use Rattle.format.specs.Layout.{record_length, kill_place, kill_length}
use Rattle.refusals.specs.declared.Refusal.{Refusal}
use Rattle.lookup.specs.declared.Seen.{Seen}
use Rattle.plans.specs.declared.Success.TheVariants.{Complete}
use Rattle.plans.specs.declared.Aim.{Aim}
use Rattle.plans.specs.declared.Then.{Then}
use Rattle.plans.specs.Answers.{refusal, Answer}
use Rattle.store.specs.Call.{Call, append, remove, collect, initialise}
use Rattle.running.specs.declared.Op.{Op}
use Rattle.running.specs.declared.Request.{Request}

-- R8.4: a service is asked for: a read, a write or an erase.
abbrev pub asks : Request → Bool
asks (Request.Read r) = true
asks (Request.Write a e p) = true
asks (Request.Erase r) = true
asks (Request.Answers answer) = false

-- R6.11, R6.12: the number of the refusal that a step answers, 0 where it answers without one or asks for a service.
abbrev pub request_refusal : Request → ℕ
request_refusal (Request.Read r) = 0
request_refusal (Request.Write a e p) = 0
request_refusal (Request.Erase r) = 0
request_refusal (Request.Answers answer) = refusal answer

-- R8.4: a request lies in a chip of n regions of s bytes: a region that is read or erased is one of the n, and what is written are bytes of the
-- region buffer that go to their own place in one region.
pub data Inside (s n : ℕ) : Request → Type 0 where
  reads : {r : ℕ} → r < n → Inside s n (Request.Read r)
  writes : {a e : ℕ} (r : ℕ) → r < n → a ≤ e → e ≤ s → Inside s n (Request.Write a e (r * s + a))
  erases : {r : ℕ} → r < n → Inside s n (Request.Erase r)
  answers : {answer : Answer} → Inside s n (Request.Answers answer)

-- R9.1, R9.2, R9.3, R9.4, R9.5: what an operation of a call may ask for, or answer: reads; append and initialise the write of a record, a removal the
-- write that makes one dead, collect and initialise an erase. No other operation asks for an erase.
pub data MayAsk (s : ℕ) : Call → Request → Type 0 where
  any_reads : {c : Call} {r : ℕ} → MayAsk s c (Request.Read r)
  any_answers : {c : Call} {answer : Answer} → MayAsk s c (Request.Answers answer)
  append_writes : {key : ℕ} {value : List ℕ} (r o : ℕ) → MayAsk s (append key value) (Request.Write o (o + record_length (length value)) (r * s + o))
  removal_writes : {how : Removal} {key : ℕ} (r : ℕ) (x : Record)
      → MayAsk s (remove how key) (Request.Write (kill_place how x) (kill_place how x + kill_length how x) (r * s + kill_place how x))
  collect_erases : {r : ℕ} → MayAsk s collect (Request.Erase r)
  initialise_erases : {key r : ℕ} → MayAsk s (initialise key) (Request.Erase r)
  initialise_writes : {key : ℕ} (r o : ℕ) → MayAsk s (initialise key) (Request.Write o (o + record_length 0) (r * s + o))

-- R8.7: what get answers where it found a live record of its key: Complete, BufferTooSmall or InvalidCheckSum.
pub data Reads : Answer → Type 0 where
  complete : {len : ℕ} → Reads (Ok (Complete len))
  too_short : {len : ℕ} → Reads (Err (Refusal.BufferTooSmall len))
  wrong_sum : Reads (Err Refusal.InvalidCheckSum)

-- R8.7: a step of a get that answers so.
pub record GetReads (op : Op) (request : Request) : Type 0 where
  pub index : ℕ
  pub seen : Seen
  pub is_get : op.plan.next ≡ Then.Seek Aim.Get index seen
  pub answer : Answer
  pub read : Reads answer
  pub answers : request ≡ Request.Answers answer
