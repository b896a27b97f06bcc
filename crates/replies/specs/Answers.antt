-- Answers and requests in numbers, as C and Rust see them.
use Rattle.std.specs.Prelude.{ℕ, get_or, Ok, Err}
use Rattle.refusals.specs.Refusals.{number, value_of}
use Rattle.plans.specs.declared.Success.TheVariants.{Complete, Written, Freed}
use Rattle.plans.specs.Answers.{Answer}
use Rattle.running.specs.declared.Request.{Request}
use Rattle.replies.specs.declared.CAnswer.{CAnswer}
use Rattle.replies.specs.declared.CRequest.{CRequest}

-- R12.1: an answer: 0 refused, 1 Complete, 2 Written, 3 Freed; the refusal's number, 0 where none; what the answer carries, 0 where nothing.
abbrev pub answer_numbers : Answer → CAnswer
answer_numbers (Ok (Complete len)) = record { kind = 1; refusal = 0; value = len }
answer_numbers (Ok Written) = record { kind = 2; refusal = 0; value = 0 }
answer_numbers (Ok (Freed bytes)) = record { kind = 3; refusal = 0; value = bytes }
answer_numbers (Err w) = record { kind = 0; refusal = number w; value = get_or (value_of w) 0 0 }

-- R12.2: a request that is no answer: the answer's numbers are 0.
abbrev pub service_numbers : ℕ → ℕ → ℕ → ℕ → ℕ → CRequest
service_numbers kind region from to place =
    record { kind = kind; region = region; from = from; to = to; place = place; answer = record { kind = 0; refusal = 0; value = 0 } }

-- R12.2: a request: 1 reads a region, 2 writes from a place up to another to an image place, 3 erases a region, 4 answers; the rest is 0.
abbrev pub request_numbers : Request → CRequest
request_numbers (Request.Read r) = service_numbers 1 r 0 0 0
request_numbers (Request.Write from to place) = service_numbers 2 0 from to place
request_numbers (Request.Erase r) = service_numbers 3 r 0 0 0
request_numbers (Request.Answers answer) = record { kind = 4; region = 0; from = 0; to = 0; place = 0; answer = answer_numbers answer }
