-- The ends of a lookup and the first room, said of the regions of a list in its order.
use Rattle.std.specs.Prelude.{ℕ, ◌+◌, ◌≤◌, ◌≡◌, length}
use mathlib.Core.List.{List, ◌∷◌, ◌++◌, Memᴰ}
use Rattle.chip.specs.Geometry.{region_of}
use Rattle.region.specs.declared.Stop.{Stop}
use Rattle.region.specs.declared.Want.{Want}
use Rattle.region.specs.declared.Event.{Event}
use Rattle.region.specs.Walk.{ending, event_in}
use Rattle.lookup.specs.Words.{Passed}

-- R5.1: the first region whose walk meets a live record of the key or a bad place decides: region r, with this event, and no region before it.
pub record Decides (image : List ℕ) (s key : ℕ) (order : List ℕ) (r : ℕ) (event : Event) : Type 0 where
  pub before : List ℕ
  pub after : List ℕ
  pub split : order ≡ before ++ r ∷ after
  pub passed : (q : ℕ) → Memᴰ q before → Passed image s key q
  pub here : event_in (region_of s image r) (Want.Key key) ≡ event

-- R5.4: a region has room where its walk ended at o, and o plus the record's length is at most S. A region with a bad place has none.
pub record HasRoom (image : List ℕ) (s len r o : ℕ) : Type 0 where
  pub ends : ending (region_of s image r) ≡ Stop.End o
  pub enough : o + len ≤ length (region_of s image r)

-- R5.4: the first region in probe order that has room.
pub record FirstRoom (image : List ℕ) (s len : ℕ) (order : List ℕ) (r o : ℕ) : Type 0 where
  pub before : List ℕ
  pub after : List ℕ
  pub split : order ≡ before ++ r ∷ after
  pub passed : (q p : ℕ) → Memᴰ q before → HasRoom image s len q p → ⊥
  pub here : HasRoom image s len r o
