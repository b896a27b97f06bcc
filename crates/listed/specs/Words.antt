-- The words of the theorems about what the program reads and shows.
use Rattle.std.specs.Prelude.{ℕ, List, [], ◌∷◌, ◌++◌}
use Rattle.lines.specs.Text.{space, line_feed, field}

-- R16.7: the first line of an input: S, one space, N, one line feed, both in decimal without leading zeros
abbrev pub first_line : ℕ → ℕ → List ℕ
first_line s n = field s space ++ field n line_feed

-- R15.13: the line of R15.2's record: "1 0 live 0000000000000001 3"
abbrev pub the_line : List ℕ
the_line = 49 ∷ 32 ∷ 48 ∷ 32 ∷ 108 ∷ 105 ∷ 118 ∷ 101 ∷ 32 ∷ 48 ∷ 48 ∷ 48 ∷ 48 ∷ 48 ∷ 48 ∷ 48 ∷ 48 ∷ 48 ∷ 48 ∷ 48 ∷ 48 ∷ 48 ∷ 48 ∷ 48 ∷ 49 ∷ 32 ∷ 51 ∷ line_feed ∷ []
