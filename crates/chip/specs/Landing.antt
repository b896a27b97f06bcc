-- How bytes land at their places: they are stored, or written as the chip writes.
use Rattle.std.specs.Prelude.{ℕ, suc, ◌≡◌, List, [], ◌∷◌, get_or, set, refl}
use Rattle.std.specs.Int.Bits.{bit_and}
use Rattle.std.proofs.lemmas.List.Edits.{sets}
use lib.Bits.{and_zero_r}
use Rattle.chip.specs.Chip.{written}

-- R1.4, R8.6: bytes land one after the other, from the place p on: `byte` makes the one that stands there then of the old one and the new one, and of a
-- new 0 it makes 0.
pub record Run (byte : ℕ → ℕ → ℕ) (landed : List ℕ → ℕ → List ℕ → List ℕ) : Type 0 where
  pub none : (l : List ℕ) (p : ℕ) → landed l p [] ≡ l
  pub one : (l : List ℕ) (p x : ℕ) (b : List ℕ) → landed l p (x ∷ b) ≡ landed (set l p (byte (get_or l p 0) x)) (suc p) b
  pub zero : (old : ℕ) → byte old 0 ≡ 0

-- R8.6: bytes that are laid into a region buffer are stored: the new byte is the one that stands there.
pub sets-run : Run (λ old new. new) sets
sets-run = record { none = λ l p. refl; one = λ l p x b. refl; zero = λ old. refl }

-- R1.4: bytes that are written to the chip: each becomes the AND of the old and the new one.
pub written_run : Run bit_and written
unfolding written
written_run = record { none = λ l p. refl; one = λ l p x b. refl; zero = and_zero_r }
