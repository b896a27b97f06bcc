-- The records of a chip in region and place order, up to the first bad place: what the parsed views of its regions say, one behind the other.
use Rattle.std.specs.Prelude.{ℕ, Bool, cond, List, [], ◌∷◌, ◌++◌}
use Rattle.chip.specs.Geometry.{geometry, region_of, numbers}
use Rattle.format.specs.declared.Record.{Record}
use Rattle.format.specs.declared.Fault.{Fault}
use Rattle.region.specs.declared.Stop.{Stop}
use Rattle.region.specs.declared.Stop.TheVariants.{End, Bad}
use Rattle.region.specs.Walk.{records, ending}
use Rattle.refusals.specs.declared.Refusal.{Refusal}
use Rattle.entries.specs.Entries.{sound_in}

-- R16.6: a record of a chip: its region, what its header says, and whether its checksum is right
pub record Item : Type 0 where
  pub region : ℕ
  pub rec : Record
  pub sound : Bool

-- R16.6: how the records of a chip come to an end: no region is left, the first bad place, or it is no chip
pub data Last : Type 0 where
  through : Last
  bad : (region : ℕ) (at : ℕ) (fault : Fault) → Last
  refused : Refusal → Last

-- R16.6: the records in their order, and how they come to an end
pub record Inventory : Type 0 where
  pub items : List Item
  pub last : Last

-- R16.6: the records of a region's view, as those of region r
unfoldable pub items_in : ℕ → List ℕ → List Record → List Item
items_in r region [] = []
items_in r region (x ∷ xs) = record { region = r; rec = x; sound = sound_in region x } ∷ items_in r region xs

-- R16.6: where a region's walk ended the regions behind it follow. Where it met a bad place nothing does.
abbrev pub behind : ℕ → Stop → Inventory → Inventory
behind r (End o) rest = rest
behind r (Bad f o) rest = record { items = []; last = bad r o f }

-- R16.6: records, and then what follows them
abbrev pub before : List Item → Inventory → Inventory
before xs rest = record { items = xs ++ rest.items; last = rest.last }

-- R16.6: the regions of a list, in its order
unfoldable pub inventory_of : ℕ → List ℕ → List ℕ → Inventory
inventory_of s image [] = record { items = []; last = through }
inventory_of s image (r ∷ rs) =
    before (items_in r (region_of s image r) (records (region_of s image r))) (behind r (ending (region_of s image r)) (inventory_of s image rs))

-- R16.6: a chip's records, in region and place order, up to the first bad place.
unfoldable pub inventory : List ℕ → ℕ → ℕ → Inventory
inventory image s n = cond (geometry image s n) (inventory_of s image (numbers 0 n)) (record { items = []; last = refused Refusal.BadGeometry })
