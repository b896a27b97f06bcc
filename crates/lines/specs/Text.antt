-- The text that a chip's records are listed in: a line for each, in bytes, a number for each character.
use Rattle.std.specs.Prelude.{ℕ, zero, suc, ◌+◌, ◌/◌, ◌%◌, cond, List, [], ◌∷◌, ◌++◌, ltb}
use Rattle.io.specs.Digits.{last_digits}
use Rattle.format.specs.declared.Record.{Record}
use Rattle.format.specs.Layout.{live}
use Rattle.region.specs.Walk.{value_length}

-- R16.8: the byte between two fields of a line
abbrev pub space : ℕ
space = 32

-- R16.8: the byte that ends a line
abbrev pub line_feed : ℕ
line_feed = 10

-- R16.8: a number in decimal digits, the highest first and without leading zeros, in so many digits at most
unfoldable pub decimal_in : ℕ → ℕ → List ℕ
decimal_in zero n = []
decimal_in (suc k) n = cond (ltb n 10) ((48 + n) ∷ []) (decimal_in k (n / 10) ++ ((48 + n % 10) ∷ []))

-- R16.8: a number in decimal digits: it has no more of them than it counts, and one where it is 0.
abbrev pub decimal : ℕ → List ℕ
decimal n = decimal_in (suc n) n

-- R16.8: a number in decimal, and the byte behind it
abbrev pub field : ℕ → ℕ → List ℕ
field n end = decimal n ++ (end ∷ [])

-- R16.8: "live " or "dead "
abbrev pub state : Record → List ℕ
state x = cond (live x) (108 ∷ 105 ∷ 118 ∷ 101 ∷ space ∷ []) (100 ∷ 101 ∷ 97 ∷ 100 ∷ space ∷ [])

-- R16.8: a key in 16 hexadecimal digits, the highest first, in lower case, and a space
abbrev pub key_field : ℕ → List ℕ
key_field key = last_digits 16 16 key ++ (space ∷ [])

-- R16.8: the line of a record of region r: region, place within it, "live" or "dead", key, and the length of its value.
unfoldable pub line_of : ℕ → Record → List ℕ
line_of r x = field r space ++ (field x.at space ++ (state x ++ (key_field x.key ++ field (value_length x) line_feed)))

-- R16.9: the line of a bad place, which ends the list: "bad", region and place.
unfoldable pub bad_line : ℕ → ℕ → List ℕ
bad_line r o = (98 ∷ 97 ∷ 100 ∷ space ∷ []) ++ (field r space ++ field o line_feed)

-- R16.8: the first line: "region place state key bytes"
abbrev pub header_line : List ℕ
header_line = 114 ∷ 101 ∷ 103 ∷ 105 ∷ 111 ∷ 110 ∷ 32 ∷ 112 ∷ 108 ∷ 97 ∷ 99 ∷ 101 ∷ 32 ∷ 115 ∷ 116 ∷ 97 ∷ 116 ∷ 101 ∷ 32 ∷ 107 ∷ 101 ∷ 121 ∷ 32 ∷ 98 ∷ 121 ∷ 116 ∷ 101 ∷ 115 ∷ line_feed ∷ []

-- R16.7: the one line of an input that is none: "refused"
abbrev pub refused_line : List ℕ
refused_line = 114 ∷ 101 ∷ 102 ∷ 117 ∷ 115 ∷ 101 ∷ 100 ∷ line_feed ∷ []
