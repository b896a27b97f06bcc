-- Words of the theorems on a region: which record is the first of its kind, which records' bytes stay, and where a walk stopped.
use Rattle.std.specs.Prelude.{ℕ, ◌≡◌, Bool, true, false, List, ◌∷◌, ◌++◌}
use Rattle.chip.specs.Every.{Every}
use Rattle.format.specs.declared.Record.{Record}
use Rattle.region.specs.declared.Stop.{Stop}
use Rattle.region.specs.declared.Stop.TheVariants.{End, Bad}
use Rattle.region.specs.Walk.{bytes_in}

-- R4.8: no record of a list is one that is sought: none passes the test.
abbrev pub None : (Record → Bool) → List Record → Type 0
None test xs = Every (λ (x : Record). test x ≡ false) xs

-- R4.8: the first record that is sought: it passes the test, and none before it does.
pub record First (test : Record → Bool) (xs : List Record) (x : Record) : Type 0 where
  pub before : List Record
  pub after : List Record
  pub split : xs ≡ before ++ x ∷ after
  pub passes : test x ≡ true
  pub first : None test before

-- R11.2, R11.3: what a write leaves of the others: the bytes of these records are the same in both.
abbrev pub Kept : List ℕ → List ℕ → List Record → Type 0
Kept r' r xs = Every (λ (x : Record). bytes_in r' x ≡ bytes_in r x) xs

-- R4.7: where a walk stopped
abbrev pub place_of : Stop → ℕ
place_of (End o) = o
place_of (Bad f o) = o
