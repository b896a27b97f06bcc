-- The answers of the store, by their numbers and what they carry.
use Rattle.std.specs.Prelude.{ℕ, Bool, ◌&&◌, ◌||◌, List, [], ◌∷◌, ◌++◌, eqb, leb, codes, decimal, Result, Ok, Err}
use Rattle.refusals.specs.Refusals.{number, value_of, text_of}
use Rattle.refusals.specs.declared.Refusal.{Refusal}
use Rattle.plans.specs.declared.Success.{Success}
use Rattle.plans.specs.declared.Success.TheVariants.{Complete, Written, Freed}

-- R7.1: what a call answers: its success, or why it is refused.
abbrev pub Answer : Type 0
Answer = Result Success Refusal

-- R12.1: the number of an answer's refusal, 0 where it is none.
abbrev pub refusal : Answer → ℕ
refusal (Ok (Complete len)) = 0
refusal (Ok Written) = 0
refusal (Ok (Freed bytes)) = 0
refusal (Err w) = number w

-- R7.1, R6.9: what an answer carries: Complete a length, Freed a number of bytes, BufferTooSmall the value's length.
abbrev pub values : Answer → List ℕ
values (Ok (Complete len)) = len ∷ []
values (Ok Written) = []
values (Ok (Freed bytes)) = bytes ∷ []
values (Err w) = value_of w

-- R5.9: refused by 4, 7, 8, 9 or 10, initialise erases every region.
abbrev pub number_starts_anew : ℕ → Bool
number_starts_anew k = eqb k 4 || (leb 7 k && leb k 10)

-- R5.9: whether initialise erases every region after this answer of its get.
abbrev pub starts_anew : Answer → Bool
starts_anew answer = number_starts_anew (refusal answer)

-- R7.1: an answer as it is printed: its name, and behind it what it carries; a refusal's number stands before its name.
abbrev pub text : Answer → List ℕ
text (Ok (Complete len)) = codes "complete " ++ decimal len
text (Ok Written) = codes "written"
text (Ok (Freed bytes)) = codes "freed " ++ decimal bytes
text (Err w) = codes "refused " ++ decimal (number w) ++ codes " " ++ text_of w
