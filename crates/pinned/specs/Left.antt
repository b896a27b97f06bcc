-- What a call leaves of the image, where it is refused and where it is not.
use Rattle.lookup.specs.Gather.{some_room}
use Rattle.std.specs.Prelude.{ℕ, ◌+◌, ◌*◌, ◌≡◌, true, false, cond, length, take, drop, None}
use mathlib.Core.List.{List, [], ◌∷◌, ◌++◌, Memᴰ}
use Rattle.chip.specs.Chip.{written, erased, is_blank}
use Rattle.chip.specs.Geometry.{geometry, region_of, erase_region, numbers}
use Rattle.probe.specs.Probe.{probes}
use Rattle.format.specs.declared.Record.{Record}
use Rattle.region.specs.declared.Stop.{Stop}
use Rattle.format.specs.declared.Removal.{Removal}
use Rattle.format.specs.Layout.{record_length, record_bytes, kill_place, kill_bytes, live}
use Rattle.region.specs.Walk.{walk_from, records, ending, dead}
use Rattle.lookup.specs.declared.Looked.{Looked}
use Rattle.lookup.specs.Words.{first_room}
use Rattle.lookup.specs.Turns.{lookup_in}
use Rattle.sweeping.specs.declared.Verdict.{Verdict}
use Rattle.sweeping.specs.Sweeps.{verdict}
use Rattle.store.specs.Call.{Call, get, append, remove, collect, initialise}

-- What collect erases.

-- R5.7: a region with at least one record, no live one and no bad place, which is erased.
pub record Dead (region : List ℕ) : Type 0 where
  pub some : records region ≡ [] → ⊥
  pub none_live : (x : Record) → Memᴰ x (records region) → live x ≡ false
  pub place : ℕ
  pub no_bad : ending region ≡ Stop.End place

-- R5.7, R5.8: region r, if it is erased, before those that are erased after it. Behind a bad place none is.
abbrev pub erased_on : Verdict → ℕ → List ℕ → List ℕ
erased_on Verdict.Stands r rest = rest
erased_on Verdict.Erase r rest = r ∷ rest
erased_on (Verdict.Bad f p) r rest = []

-- R5.7, R5.8: the regions of a list that collect erases, in its order, by the image as it is at first: the dead ones before the first bad place.
unfoldable pub erased_in : ℕ → List ℕ → List ℕ → List ℕ
erased_in s image [] = []
erased_in s image (r ∷ rs) = erased_on (verdict r (region_of s image r)) r (erased_in s image rs)

-- R5.7: the regions that collect erases, of 0 to N - 1 in number order. With a bad geometry it erases none.
abbrev pub erased_by : List ℕ → ℕ → ℕ → List ℕ
erased_by image s n = cond (geometry image s n) (erased_in s image (numbers 0 n)) []

-- R1.3: the image with the regions of a list erased
unfoldable pub erase_all : ℕ → List ℕ → List ℕ → List ℕ
erase_all s [] image = image
erase_all s (r ∷ rs) image = erase_all s rs (erase_region s r image)

-- R5.7: a region that collect came by, and what it then is: erased where it was dead, and else it stands.
pub data Collected (s : ℕ) (region region' : List ℕ) : Type 0 where
  erased_one : Dead region → region' ≡ erased s → Collected s region region'
  stood : (Dead region → ⊥) → region' ≡ region → Collected s region region'

-- R7.3, R5.8: what a refused call leaves of the image: all of it, but for the regions that collect erased before.
abbrev pub left_by : Call → List ℕ → ℕ → ℕ → List ℕ
left_by (get key buffer) image s n = image
left_by (append key value) image s n = image
left_by (remove how key) image s n = image
left_by collect image s n = erase_all s (erased_by image s n) image
left_by (initialise key) image s n = image

-- What a call that answers Written did.

-- R5.4: the record goes to the first region in probe order that has room. One write, over a blank place, which then holds the record;
-- the other regions stand, and the image is not what it was.
pub record Appended (image : List ℕ) (s n key : ℕ) (value image' : List ℕ) : Type 0 where
  pub region : ℕ
  pub place : ℕ
  pub first : first_room (record_length (length value)) s image (probes key n) ≡ some_room region place true
  pub one_write : image' ≡ written image (region * s + place) (record_bytes key value)
  pub was_blank : is_blank (take (record_length (length value)) (drop place (region_of s image region))) ≡ true
  pub stands_there : take (record_length (length value)) (drop place (region_of s image' region)) ≡ record_bytes key value
  pub others : (q : ℕ) → (q ≡ region → ⊥) → region_of s image' q ≡ region_of s image q
  pub changed : image' ≡ image → ⊥

-- R5.5, R5.6: the record that decides is made dead by its one write. The others of its region are left; the other regions stand,
-- and the image is not what it was.
pub record Removed (how : Removal) (image : List ℕ) (s n key : ℕ) (image' : List ℕ) : Type 0 where
  pub region : ℕ
  pub rec : Record
  pub found : lookup_in key None s image (probes key n) ≡ Looked.Live region rec
  pub one_write : image' ≡ written image (region * s + kill_place how rec) (kill_bytes how rec)
  pub before : List Record
  pub after : List Record
  pub was_there : records (region_of s image region) ≡ before ++ rec ∷ after
  pub was_live : live rec ≡ true
  pub of_key : rec.key ≡ key
  pub now_dead : walk_from (region_of s image' region) 0 ≡ record { recs = before ++ dead rec ∷ after; stop = ending (region_of s image region) }
  pub others : (q : ℕ) → (q ≡ region → ⊥) → region_of s image' q ≡ region_of s image q
  pub changed : image' ≡ image → ⊥
