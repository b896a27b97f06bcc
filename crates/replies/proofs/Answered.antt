-- An answer and a request are read back from their numbers.
-- Assumes nothing.
use Prim.Native.Nat.{ℕ}
use mathlib.Core.Path.{◌≡◌, refl}
use mathlib.Core.Bool.{cond}
use lib.Dec.{eqb}
use lib.ListN.{get_or}
use Rattle.std.specs.Prelude.{Ok, Err}
use Rattle.refusals.specs.declared.Refusal.{Refusal}
use Rattle.refusals.specs.Refusals.{number, value_of}
use Rattle.plans.specs.declared.Success.TheVariants.{Complete, Written, Freed}
use Rattle.plans.specs.Answers.{Answer}
use Rattle.running.specs.declared.Request.{Request}
use Rattle.replies.specs.declared.CAnswer.{CAnswer}
use Rattle.replies.specs.declared.CRequest.{CRequest}
use Rattle.replies.specs.Answers.{answer_numbers, request_numbers}

abbrev refusal_in : ℕ → ℕ → Refusal
refusal_in k value =
    cond (eqb k 1) Refusal.BadGeometry
    (cond (eqb k 2) Refusal.BadKey
    (cond (eqb k 3) Refusal.ObjectTooLarge
    (cond (eqb k 4) Refusal.KeyNotFound
    (cond (eqb k 5) Refusal.KeyAlreadyExists
    (cond (eqb k 6) Refusal.FlashFull
    (cond (eqb k 7) Refusal.UnsupportedVersion
    (cond (eqb k 8) Refusal.CorruptData
    (cond (eqb k 9) (Refusal.BufferTooSmall value)
    (cond (eqb k 10) Refusal.InvalidCheckSum
    (cond (eqb k 11) Refusal.BadCall
    Refusal.FlashFailed))))))))))

refusal_back : (w : Refusal) → refusal_in (number w) (get_or (value_of w) 0 0) ≡ w
refusal_back Refusal.BadGeometry = refl
refusal_back Refusal.BadKey = refl
refusal_back Refusal.ObjectTooLarge = refl
refusal_back Refusal.KeyNotFound = refl
refusal_back Refusal.KeyAlreadyExists = refl
refusal_back Refusal.FlashFull = refl
refusal_back Refusal.UnsupportedVersion = refl
refusal_back Refusal.CorruptData = refl
refusal_back (Refusal.BufferTooSmall len) = refl
refusal_back Refusal.InvalidCheckSum = refl
refusal_back Refusal.BadCall = refl
refusal_back Refusal.FlashFailed = refl

abbrev pub answer_in : CAnswer → Answer
answer_in a =
    cond (eqb a.kind 1) (Ok (Complete a.value))
    (cond (eqb a.kind 2) (Ok Written)
    (cond (eqb a.kind 3) (Ok (Freed a.value))
    (Err (refusal_in a.refusal a.value))))

pub answer_back : (a : Answer) → answer_in (answer_numbers a) ≡ a
answer_back (Ok (Complete len)) = refl
answer_back (Ok Written) = refl
answer_back (Ok (Freed bytes)) = refl
answer_back (Err w) = λ i. Err (refusal_back w i)

abbrev pub request_in : CRequest → Request
request_in q =
    cond (eqb q.kind 1) (Request.Read q.region)
    (cond (eqb q.kind 2) (Request.Write q.from q.to q.place)
    (cond (eqb q.kind 3) (Request.Erase q.region)
    (Request.Answers (answer_in q.answer))))

pub request_back : (q : Request) → request_in (request_numbers q) ≡ q
request_back (Request.Read r) = refl
request_back (Request.Write from to place) = refl
request_back (Request.Erase r) = refl
request_back (Request.Answers answer) = λ i. Request.Answers (answer_back answer i)
