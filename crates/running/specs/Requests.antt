-- The requests of an operation, in words.
use Rattle.std.specs.Prelude.{ℕ, List, ◌++◌, codes, decimal}
use Rattle.plans.specs.Answers as answers
use Rattle.running.specs.declared.Request.{Request}

-- R8.4: a request as it is printed: the service with its places, or the answer.
abbrev pub text : Request → List ℕ
text (Request.Read r) = codes "read " ++ decimal r
text (Request.Write a e p) = codes "write " ++ decimal a ++ codes ".." ++ decimal e ++ codes " at " ++ decimal p
text (Request.Erase r) = codes "erase " ++ decimal r
text (Request.Answers answer) = answers.text answer
