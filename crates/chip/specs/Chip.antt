-- What the chip does to its bytes. A list of numbers stands for an image or a part of one, a number for each byte.
use Rattle.std.specs.Prelude.{ℕ, suc, ◌<◌, Bool, true, ◌&&◌, List, [], ◌∷◌, eqb, get_or, set, replicate}
use Rattle.std.specs.Int.Bits.{bit_and}

-- R1.1: an image is made of bytes: each number of the list is below 256
abbrev pub Bytes : List ℕ → Type 0
Bytes part = (k : ℕ) → get_or part k 0 < 256

-- R1.4: each byte becomes the bitwise AND of the old and the new one; the new bytes go to the places from `at` on.
unfoldable pub written : List ℕ → ℕ → List ℕ → List ℕ
written image at [] = image
written image at (b ∷ new) = written (set image at (bit_and (get_or image at 0) b)) (suc at) new

-- R1.3: an erase makes every byte of one region 255: what it leaves of a region of so many bytes
abbrev pub erased : ℕ → List ℕ
erased size = replicate size 255

-- R1.6: blank is what has 255 in all of its bytes
unfoldable pub is_blank : List ℕ → Bool
is_blank [] = true
is_blank (b ∷ part) = eqb b 255 && is_blank part
