-- How many regions of how many bytes a chip has, and a region as a part of its image.
use Rattle.std.specs.Prelude.{ℕ, zero, suc, ◌+◌, ◌*◌, ◌≤◌, ◌≡◌, Bool, ◌&&◌, List, [], ◌∷◌, leb, eqb, length, take, drop}
use Rattle.std.proofs.lemmas.List.Edits.{sets}
use Rattle.chip.specs.Chip.{erased}

-- R1.2: S is 64 to 4,096: the least.
abbrev pub least_size : ℕ
least_size = 64

-- R1.2: S is 64 to 4,096: the largest.
abbrev pub largest_size : ℕ
largest_size = 4096

-- R1.2: N is 1 to 64: the most. One region is the least.
abbrev pub most_regions : ℕ
most_regions = 64

-- R1.2: S is 64 to 4,096 and N is 1 to 64: whether a chip may have n regions of s bytes.
unfoldable pub sized : ℕ → ℕ → Bool
sized s n = leb least_size s && leb s largest_size && leb 1 n && leb n most_regions

-- R1.2: an image has exactly N times S bytes: whether the image is one of such a chip. Where it is not, the refusal is R6.1.
unfoldable pub geometry : List ℕ → ℕ → ℕ → Bool
geometry image s n = sized s n && eqb (length image) (n * s)

-- R1.2: S is 64 to 4,096 and N is 1 to 64, as facts.
pub record Shape (s n : ℕ) : Type 0 where
  pub s_least : least_size ≤ s
  pub s_most : s ≤ largest_size
  pub n_least : 1 ≤ n
  pub n_most : n ≤ most_regions

-- R1.2: an image has exactly N times S bytes, as a fact.
pub record Fits (image : List ℕ) (s n : ℕ) : Type 0 where
  pub shape : Shape s n
  pub size : length image ≡ n * s

-- R1.1: region r is the s bytes of the image from place r * s on.
abbrev pub region_of : ℕ → List ℕ → ℕ → List ℕ
region_of s image r = take s (drop (r * s) image)

-- R1.3: every byte of region r of the image becomes 255, and no other byte is altered.
abbrev pub erase_region : ℕ → ℕ → List ℕ → List ℕ
erase_region s r image = sets image (r * s) (erased s)

-- R5.7: regions in number order: r, r + 1 and so on, so many.
unfoldable pub numbers : ℕ → ℕ → List ℕ
numbers r zero = []
numbers r (suc k) = r ∷ numbers (r + 1) k
