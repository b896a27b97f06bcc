-- On a chip without a bad place every record of every region is listed.
-- Assumes nothing.
use Prim.Native.Nat.{ℕ, zero, suc, ◌+◌, ◌≤◌, ◌<◌}
use native.Mathlib.Omega.{arith}
use mathlib.Core.Path.{◌≡◌, refl, sym, ◌∙◌, ap, subst}
use mathlib.Core.Bool.{Bool, true, false}
use mathlib.Core.Logic.{◌⊎◌, inl, inr}
use mathlib.Core.List.Memᴰ
use mathlib.Core.List.{List, [], ◌∷◌, ◌++◌, Memᴰ}
use lib.Dec.{eqb}
use borrow.Author.Tests.{eqb-true, eqb-false}
use Rattle.chip.specs.Geometry.{region_of, numbers}
use Rattle.chip.proofs.Image.{fits_geometry}
use Rattle.format.specs.declared.Record.{Record}
use Rattle.format.specs.Layout.{check_sum_fits}
use Rattle.region.specs.Walk.{records, bytes_in}
use Rattle.entries.specs.Inventory.{Item, through, Inventory, items_in, behind, before, inventory_of, inventory}
use Rattle.bindings.specs.WellFormed.{WellFormed, Stored, Live, EndsAt}

abbrev item_of : ℕ → List ℕ → Record → Item
item_of r region x = record { region = r; rec = x; sound = check_sum_fits (bytes_in region x) }

in_region_lem : (r : ℕ) (region : List ℕ) (xs : List Record) (x : Record) → Memᴰ x xs → Memᴰ (item_of r region x) (items_in r region xs)
unfolding items_in
in_region_lem r region [] x m = elim m [ ]
in_region_lem r region (y ∷ ys) x (Memᴰ.head e) = Memᴰ.head (ap (item_of r region) e)
in_region_lem r region (y ∷ ys) x (Memᴰ.tail m) = Memᴰ.tail (in_region_lem r region ys x m)

module _ (s : ℕ) (image : List ℕ) where
  -- a region whose walk ends, and those behind it
  ends_first : (r : ℕ) (rs : List ℕ) (o : ℕ) → EndsAt (region_of s image r) o
      → inventory_of s image (r ∷ rs) ≡ before (items_in r (region_of s image r) (records (region_of s image r))) (inventory_of s image rs)
  unfolding inventory_of
  ends_first r rs o e = ap (λ t. before (items_in r (region_of s image r) (records (region_of s image r))) (behind r t (inventory_of s image rs))) e

  -- of k regions from a on, none of which has a bad place
  all_through : (a k : ℕ) → ((r : ℕ) → r < a + k → (o : ℕ) × EndsAt (region_of s image r) o) → (inventory_of s image (numbers a k)).last ≡ through
  unfolding numbers inventory_of
  all_through a zero h = refl
  all_through a (suc k) h =
      let (o, e) = h a (omega arith) in
      ap (λ (v : Inventory). v.last) (ends_first a (numbers (a + 1) k) o e) ∙ all_through (a + 1) k (λ r l. h r (omega arith))

  all_listed : (a k r : ℕ) (x : Record) → ((q : ℕ) → q < a + k → (o : ℕ) × EndsAt (region_of s image q) o) → a ≤ r → r < a + k
      → Memᴰ x (records (region_of s image r)) → Memᴰ (item_of r (region_of s image r) x) (inventory_of s image (numbers a k)).items
  unfolding numbers
  all_listed a zero r x h l m p = absurd (omega arith)
  all_listed a (suc k) r x h l m p =
      let (o, e) = h a (omega arith) in
      subst (λ (v : Inventory). Memᴰ (item_of r (region_of s image r) x) v.items) (sym (ends_first a (numbers (a + 1) k) o e)) (go (all_listed (a + 1) k r x (λ q j. h q (omega arith))) (split (eqb a r) refl))
    where
      split : (b : Bool) → eqb a r ≡ b → (a ≡ r) ⊎ (a + 1 ≤ r)
      split true t = inl (eqb-true _ _ t)
      split false t = inr (omega (arith, eqb-false a r t))

      go : (a + 1 ≤ r → r < a + 1 + k → Memᴰ x (records (region_of s image r)) → Memᴰ (item_of r (region_of s image r) x) (inventory_of s image (numbers (a + 1) k)).items)
          → (a ≡ r) ⊎ (a + 1 ≤ r)
          → Memᴰ (item_of r (region_of s image r) x) (items_in a (region_of s image a) (records (region_of s image a)) ++ (inventory_of s image (numbers (a + 1) k)).items)
      go ih (inl e) = Memᴰ.append_left _ (subst (λ q. Memᴰ (item_of r (region_of s image r) x) (items_in q (region_of s image q) (records (region_of s image q)))) (sym e) (in_region_lem r (region_of s image r) _ x p))
      go ih (inr j) = Memᴰ.append_right (items_in a (region_of s image a) (records (region_of s image a))) (ih j (omega arith) p)

pub well_formed_through : {s n : ℕ} {image : List ℕ} → WellFormed s n image → (inventory image s n).last ≡ through
unfolding inventory
well_formed_through {s} {n} {image} w = rw (fits_geometry w.fits) (all_through s image 0 n (λ r l. w.no_bad r (omega arith)))

stored_listed : {s n : ℕ} {image : List ℕ} → WellFormed s n image → (r : ℕ) (x : Record) → Stored s n image r x
    → Memᴰ (item_of r (region_of s image r) x) (inventory image s n).items
unfolding inventory
stored_listed {s} {n} {image} w r x t =
    rw (fits_geometry w.fits) (all_listed s image 0 n r x (λ q l. w.no_bad q (omega arith)) (omega arith) (omega (arith, t.number)) t.member)

-- a live record's checksum is right
pub live_listed : {s n : ℕ} {image : List ℕ} → WellFormed s n image → (r : ℕ) (x : Record) → Live s n image r x
    → Memᴰ (record { region = r; rec = x; sound = true }) (inventory image s n).items
live_listed {s} {n} {image} w r x l =
    subst (λ b. Memᴰ (record { region = r; rec = x; sound = b }) (inventory image s n).items) (w.sums r x l) (stored_listed w r x l.stored)
