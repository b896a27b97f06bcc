-- What the program writes, for any bytes that it reads.
use Rattle.std.specs.Prelude.{ℕ, cond, List, [], ◌∷◌, ◌++◌, leb, length, drop, Option, Some, None}
use Rattle.std.proofs.lemmas.List.Edits.{sets}
use Rattle.entries.specs.Inventory.{Item, Last, through, bad, refused, Inventory, inventory}
use Rattle.intake.specs.declared.Chip.{Chip}
use Rattle.intake.specs.Intake.{intake_of}
use Rattle.lines.specs.Text.{line_of, bad_line, header_line, refused_line}

-- R16.8: a line for each record, in their order
unfoldable pub lines_of : List Item → List ℕ
lines_of [] = []
lines_of (x ∷ xs) = line_of x.region x.rec ++ lines_of xs

-- R16.9: a bad place has the last line. A chip that is through has none. (No chip's image comes here: intake refused it.)
abbrev pub last_line : Last → List ℕ
last_line through = []
last_line (bad r o f) = bad_line r o
last_line (refused w) = []

-- R16.8, R16.9: the lines of a chip's records, and what ends them
abbrev pub text_of : Inventory → List ℕ
text_of v = lines_of v.items ++ last_line v.last

-- R16.7, R16.8: the header line and the lines of the chip, or the one line of a refused input
abbrev pub listing_by : List ℕ → Option Chip → List ℕ
listing_by input None = refused_line
listing_by input (Some chip) = header_line ++ text_of (inventory (drop chip.start input) chip.s chip.n)

-- R16.7, R16.8, R16.9: all that the program writes, for any input.
unfoldable pub listing : List ℕ → List ℕ
listing input = listing_by input (intake_of input)

-- R16.7: so many bytes of an input are read at most: more than any has that is listed
abbrev pub most_read : ℕ
most_read = 65600

-- R16.10: the longest text of any input has fewer bytes than this.
abbrev pub most_text : ℕ
most_text = 180224

-- R16.10: what a buffer holds then: the text from its first byte on. One that is too short for some input's text is left as it was, for every input.
unfoldable pub filled : List ℕ → List ℕ → List ℕ
filled input out = cond (leb most_text (length out)) (sets out 0 (listing input)) out

-- R16.10: how many of its bytes are text: none of a buffer that is too short
unfoldable pub text_length : List ℕ → List ℕ → ℕ
text_length input out = cond (leb most_text (length out)) (length (listing input)) 0
