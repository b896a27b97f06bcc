-- Well-formed images, and their bindings.
use Rattle.std.specs.Prelude.{ℕ, ◌≤◌, ◌<◌, ◌≡◌, true, ◌⊎◌, drop}
use mathlib.Core.List.{List, Memᴰ}
use Rattle.chip.specs.Chip.{Bytes, is_blank}
use Rattle.chip.specs.Geometry.{Fits, region_of}
use Rattle.probe.specs.Probe.{allowed_key}
use Rattle.format.specs.declared.Record.{Record}
use Rattle.region.specs.declared.Stop.{Stop}
use Rattle.format.specs.Layout.{largest_length, check_sum_fits, live}
use Rattle.region.specs.Walk.{records, ending, bytes_in, value_in}

-- R10.1: x is one of the records that the walk of region r of the image meets
pub record Stored (s n : ℕ) (image : List ℕ) (r : ℕ) (x : Record) : Type 0 where
  pub number : r < n
  pub member : Memᴰ x (records (region_of s image r))

-- R10.1: and x is live
pub record Live (s n : ℕ) (image : List ℕ) (r : ℕ) (x : Record) : Type 0 where
  pub stored : Stored s n image r x
  pub alive : live x ≡ true

-- R11.9: a region that may be erased with every binding left: r is one of the n, and no record of it is live
pub record Lifeless (s n : ℕ) (image : List ℕ) (r : ℕ) : Type 0 where
  pub number : r < n
  pub none_live : (x : Record) → Live s n image r x → ⊥

-- R10.1: the walk of a region ends at o, and meets no bad place
abbrev pub EndsAt : List ℕ → ℕ → Type 0
EndsAt region o = ending region ≡ Stop.End o

-- R10.1: an image is well-formed if all of these hold:
pub record WellFormed (s n : ℕ) (image : List ℕ) : Type 0 where
  -- R10.1: it is an image of N regions of S bytes (R1.2);
  pub fits : Fits image s n
  -- R1.1: it is made of bytes;
  pub bytes : Bytes image
  -- R10.1: no walk of a region meets a bad place;
  pub no_bad : (r : ℕ) → r < n → (o : ℕ) × EndsAt (region_of s image r) o
  -- R10.1: the flags of every record are 8 or 0;
  pub flags : (r : ℕ) (x : Record) → Stored s n image r x → (x.flags ≡ 8) ⊎ (x.flags ≡ 0)
  -- R10.1: no record is longer than 4,094;
  pub lengths : (r : ℕ) (x : Record) → Stored s n image r x → x.len ≤ largest_length
  -- R10.1: every byte from the place where a region's walk ends is 255;
  pub tails : (r o : ℕ) → r < n → EndsAt (region_of s image r) o → is_blank (drop o (region_of s image r)) ≡ true
  -- R10.1: every live record's checksum is right,
  pub sums : (r : ℕ) (x : Record) → Live s n image r x → check_sum_fits (bytes_in (region_of s image r) x) ≡ true
  -- R10.1: and its key is one that R2.1 allows;
  pub keys : (r : ℕ) (x : Record) → Live s n image r x → allowed_key x.key ≡ true
  -- R10.1: no key has two live records.
  pub once : (r q : ℕ) (x y : Record) → Live s n image r x → Live s n image q y → x.key ≡ y.key → (r ≡ q) × (x ≡ y)

-- R10.2: a key is bound to a value if a live record of the key has that value.
pub record Bound (s n : ℕ) (image : List ℕ) (key : ℕ) (value : List ℕ) : Type 0 where
  pub region : ℕ
  pub rec : Record
  pub held : Live s n image region rec
  pub key_is : rec.key ≡ key
  pub value_is : value_in (region_of s image region) rec ≡ value
