-- The program's input: the first line says S and N, and the image is what stands behind it. For any bytes.
use Rattle.std.specs.Prelude.{ℕ, ◌+◌, ◌-◌, ◌*◌, Bool, ◌&&◌, cond, List, [], ◌∷◌, leb, eqb, get_or, drop, Option, Some, None}
use Rattle.chip.specs.Geometry.{geometry}
use Rattle.intake.specs.declared.Chip.{Chip}

-- R16.7: the image has 65,536 bytes at most.
abbrev pub most_image : ℕ
most_image = 65536

-- R16.7: a decimal digit, `0` to `9`
abbrev pub is_digit : ℕ → Bool
is_digit b = leb 48 b && leb b 57

-- R16.7: no leading zeros: a number begins with `1` to `9`
abbrev pub leads : ℕ → Bool
leads b = leb 49 b && leb b 57

-- R16.7: a number, and the place behind its last digit
pub record Number : Type 0 where
  pub value : ℕ
  pub end : ℕ

-- R16.7: a number goes on as long as digits come. These bytes begin at place o; the digits before them made up v
unfoldable pub number_in : List ℕ → ℕ → ℕ → Number
number_in [] v o = record { value = v; end = o }
number_in (b ∷ bytes) v o = cond (is_digit b) (number_in bytes (v * 10 + (b - 48)) (o + 1)) (record { value = v; end = o })

-- R16.7: the number in decimal that begins at place o. Where none does it is 0, which neither S nor N can be.
unfoldable pub number_at : List ℕ → ℕ → Number
number_at input o = cond (leads (get_or input o 0)) (number_in (drop o input) 0 o) (record { value = 0; end = o })

-- R16.7: S begins at the first byte,
abbrev pub size_in : List ℕ → Number
size_in input = number_at input 0

-- R16.7: N behind the byte behind it,
abbrev pub count_in : List ℕ → Number
count_in input = number_at input ((size_in input).end + 1)

-- R16.7: and the image behind the byte behind that.
abbrev pub image_start : List ℕ → ℕ
image_start input = (count_in input).end + 1

-- R16.7: S and N are numbers in decimal, a space stands between them and a line feed behind them, the image has 65,536 bytes at most, and it is
-- one of N regions of S bytes (R1.2): not a byte less and none more.
unfoldable pub accepted : List ℕ → Bool
accepted input =
    eqb (get_or input (size_in input).end 0) 32
    && eqb (get_or input (count_in input).end 0) 10
    && leb ((count_in input).value * (size_in input).value) most_image
    && geometry (drop (image_start input) input) (size_in input).value (count_in input).value

-- R16.7: S, N and the place where the image begins; every other input is refused.
unfoldable pub intake_of : List ℕ → Option Chip
intake_of input = cond (accepted input) (Some (record { s = (size_in input).value; n = (count_in input).value; start = image_start input })) None
