-- A contract that says what an answer and a list are allows no others: the argument of R7.5 in Theorems.antt for the one-call form.
-- Assumes nothing.
use Prim.Native.Nat.{ℕ}
use mathlib.Core.Path.{◌≡◌, sym, ◌∙◌}
use mathlib.Core.List.{List}
use Rattle.replies.specs.declared.CAnswer.{CAnswer}

pub two_alone : {answer a a' : CAnswer} {left b b' : List ℕ} → (a ≡ answer) × (b ≡ left) → (a' ≡ answer) × (b' ≡ left) → (a ≡ a') × (b ≡ b')
two_alone (p, q) (p', q') = (p ∙ sym p', q ∙ sym q')
