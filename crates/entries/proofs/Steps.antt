-- A chip's records from a place on, one call at a time: what each kind of entry makes of them.
-- Assumes nothing.
use Prim.Native.Nat.{ℕ, suc, ◌+◌, ◌-◌, ◌≤◌, ◌<◌}
use native.Mathlib.Omega.{arith}
use mathlib.Core.Path.{◌≡◌, refl, sym, ◌∙◌, ap}
use mathlib.Core.Bool.{Bool, true, false, cond}
use mathlib.Core.List.{List, [], ◌∷◌}
use mathlib.Core.Logic.{◌⊎◌, inl, inr, ⊎_elim}
use lib.Dec.{ltb}
use borrow.Author.Tests.{ltb-true, ltb-false, lt-ltb, le-ltb}
use Rattle.chip.specs.Geometry.{geometry, region_of, numbers, Fits}
use Rattle.chip.proofs.Image.{geometry_fits, fits_geometry, region-length}
use Rattle.format.specs.declared.Record.{Record}
use Rattle.format.specs.declared.Fault.{Fault}
use Rattle.std.specs.Prelude.{Result, Ok, Err}
use Rattle.region.specs.declared.Stop.{Stop}
use Rattle.region.specs.declared.Stop.TheVariants.{End, Bad}
use Rattle.region.specs.Walk.{View, stopped, met_at, walk_from}
use Rattle.region.proofs.Steps.{walk_stop, walk_found, stop_place}
use Rattle.refusals.specs.declared.Refusal.{Refusal}
use Rattle.entries.specs.declared.Entry.{Entry}
use Rattle.entries.specs.Entries.{entry_of, entry_in, entry_at, shown}
use Rattle.entries.specs.Inventory.{through, bad, Inventory, items_in, behind, before, inventory_of, inventory}
use Rattle.entries.proofs.Looks.{Stood, stood}

-- the rest of a region's view, and the regions behind it
abbrev onward : ℕ → List ℕ → View → Inventory → Inventory
onward r region v rest = before (items_in r region v.recs) (behind r v.stop rest)

-- from place o of region r on: none where there is no such region
abbrev pub inventory_from : List ℕ → ℕ → ℕ → ℕ → ℕ → Inventory
inventory_from image s n r o =
    cond (ltb r n) (onward r (region_of s image r) (walk_from (region_of s image r) o) (inventory_of s image (numbers (r + 1) (n - (r + 1))))) (record { items = []; last = through })

-- the first record of a region's rest, and then the others
pub onward_found : (r : ℕ) (region : List ℕ) (o : ℕ) (x : Record) (sound : Bool) (rest : Inventory) → Stood region o x sound
    → onward r region (walk_from region o) rest ≡ before (record { region = r; rec = x; sound = sound } ∷ []) (onward r region (walk_from region (o + x.len)) rest)
unfolding items_in
onward_found r region o x sound rest t = ap (λ (v : View). onward r region v rest) (walk_found region o x t.met) ∙ rw t.sum

-- Where a place is none of a record: its region's walk ends there, or the place is bad.
ended : (region : List ℕ) (o : ℕ) → entry_in region o ≡ Entry.Ends → walk_from region o ≡ stopped (End o)
ended region o h = go (met_at region o) refl h
  where
    go : (m : Result Record Stop) → met_at region o ≡ m → entry_of region m ≡ Entry.Ends → walk_from region o ≡ stopped (End o)
    go (Ok y) e q = absurd (let z : ◌≡◌ {A = ℕ} 0 1 = cc in omega arith)
    go (Err (End p)) e q = walk_stop region o (End p) e ∙ ap (λ k. stopped (End k)) (sym (stop_place _ _ _ e))
    go (Err (Bad f p)) e q = absurd (let z : ◌≡◌ {A = ℕ} 0 1 = cc in omega arith)

badly : (region : List ℕ) (o : ℕ) (f : Fault) → entry_in region o ≡ Entry.Bad f → walk_from region o ≡ stopped (Bad f o)
badly region o f h = go (met_at region o) refl h
  where
    go : (m : Result Record Stop) → met_at region o ≡ m → entry_of region m ≡ Entry.Bad f → walk_from region o ≡ stopped (Bad f o)
    go (Ok y) e q = absurd (let z : ◌≡◌ {A = ℕ} 0 1 = cc in omega arith)
    go (Err (End p)) e q = absurd (let z : ◌≡◌ {A = ℕ} 0 1 = cc in omega arith)
    go (Err (Bad g p)) e q =
        let d : g ≡ f = cc in
        walk_stop region o (Bad g p) e ∙ (λ i. stopped (Bad (d i) (sym (stop_place _ _ _ e) i)))

-- in a region it is one of the other three
not_over : (region : List ℕ) (o : ℕ) → entry_in region o ≡ Entry.Over → ⊥
not_over region o h = go (met_at region o) h
  where
    go : (m : Result Record Stop) → entry_of region m ≡ Entry.Over → ⊥
    go (Ok y) q = let z : ◌≡◌ {A = ℕ} 0 1 = cc in omega arith
    go (Err (End p)) q = let z : ◌≡◌ {A = ℕ} 0 1 = cc in omega arith
    go (Err (Bad g p)) q = let z : ◌≡◌ {A = ℕ} 0 1 = cc in omega arith

refuses_not : (region : List ℕ) (o : ℕ) (w : Refusal) → entry_in region o ≡ Entry.Refused w → ⊥
refuses_not region o w h = go (met_at region o) h
  where
    go : (m : Result Record Stop) → entry_of region m ≡ Entry.Refused w → ⊥
    go (Ok y) q = let z : ◌≡◌ {A = ℕ} 0 1 = cc in omega arith
    go (Err (End p)) q = let z : ◌≡◌ {A = ℕ} 0 1 = cc in omega arith
    go (Err (Bad g p)) q = let z : ◌≡◌ {A = ℕ} 0 1 = cc in omega arith

-- where a record stands the image is a chip's
pub stands_chip : (image : List ℕ) (s n r o : ℕ) (x : Record) (sound : Bool) → entry_at image s n r o ≡ Entry.Stands x sound → Fits image s n
unfolding entry_at
stands_chip image s n r o x sound h = go (geometry image s n) refl h
  where
    go : (b : Bool) → geometry image s n ≡ b → cond b (cond (ltb r n) (entry_in (region_of s image r) o) Entry.Over) (Entry.Refused Refusal.BadGeometry) ≡ Entry.Stands x sound → Fits image s n
    go true g q = geometry_fits g
    go false g q = absurd (let z : ◌≡◌ {A = ℕ} 0 1 = cc in omega arith)

-- what is shown of a place is what stands there
pub shown_entry : (r o : ℕ) (e : Entry) → (shown r o e).entry ≡ e
shown_entry r o (Entry.Stands x sound) = refl
shown_entry r o Entry.Ends = refl
shown_entry r o (Entry.Bad f) = refl
shown_entry r o Entry.Over = refl
shown_entry r o (Entry.Refused w) = refl

module _ {image : List ℕ} {s n : ℕ} (f : Fits image s n) where
  -- what stands at a place of the chip stands in a region of it, or there is no such region
  pub located : (r o : ℕ) (e : Entry) → entry_at image s n r o ≡ e → ((r < n) × (entry_in (region_of s image r) o ≡ e)) ⊎ ((n ≤ r) × (e ≡ Entry.Over))
  unfolding entry_at
  located r o e h = go (ltb r n) refl (sym (rw (fits_geometry f)) ∙ h)
    where
      go : (b : Bool) → ltb r n ≡ b → cond b (entry_in (region_of s image r) o) Entry.Over ≡ e → ((r < n) × (entry_in (region_of s image r) o ≡ e)) ⊎ ((n ≤ r) × (e ≡ Entry.Over))
      go true t q = inl (ltb-true _ _ t, q)
      go false t q = inr (ltb-false _ _ t, sym q)

  -- a record stands at a place: it lies in its region, and is the first of what is left
  pub record Here (r o : ℕ) (x : Record) (sound : Bool) : Type 0 where
    pub number : r < n
    pub least : 15 ≤ x.len
    pub inside : o + x.len ≤ s
    pub place : o ≡ x.at
    pub rest : inventory_from image s n r o ≡ before (record { region = r; rec = x; sound = sound } ∷ []) (inventory_from image s n r (o + x.len))

  pub here : (r o : ℕ) (x : Record) (sound : Bool) → entry_at image s n r o ≡ Entry.Stands x sound → Here r o x sound
  here r o x sound h = ⊎_elim (λ p. lies p.0 (stood _ o x sound p.1)) (λ p. absurd (let e : Entry.Stands x sound ≡ Entry.Over = p.1 in let z : ◌≡◌ {A = ℕ} 0 1 = cc in omega arith)) (located r o _ h)
    where
      lies : r < n → Stood (region_of s image r) o x sound → Here r o x sound
      lies l t =
          record {
            number = l;
            least = t.least;
            inside = rw (region-length f l) at t.inside;
            place = t.place;
            rest = rw (lt-ltb r n l) (onward_found r (region_of s image r) o x sound _ t);
          }

  -- the rest from the start of a region on is that region and those behind it
  pub from_start : (r : ℕ) → inventory_from image s n r 0 ≡ inventory_of s image (numbers r (n - r))
  unfolding inventory_of numbers
  from_start r = go (ltb r n) refl
    where
      go : (b : Bool) → ltb r n ≡ b → inventory_from image s n r 0 ≡ inventory_of s image (numbers r (n - r))
      go true t =
          let l : r < n = ltb-true _ _ t in
          let e : n - r ≡ suc (n - (r + 1)) = omega arith in
          rw (t, e)
      go false t =
          let l : n ≤ r = ltb-false _ _ t in
          let e : n - r ≡ 0 = omega arith in
          rw (t, e)

  -- a region ends: the next one is next
  pub from_ends : (r o : ℕ) → entry_at image s n r o ≡ Entry.Ends → (r < n) × (inventory_from image s n r o ≡ inventory_from image s n (r + 1) 0)
  unfolding items_in
  from_ends r o h = ⊎_elim (λ p. (p.0, goes p.0 p.1)) (λ p. absurd (let e : Entry.Ends ≡ Entry.Over = p.1 in let z : ◌≡◌ {A = ℕ} 0 1 = cc in omega arith)) (located r o _ h)
    where
      goes : r < n → entry_in (region_of s image r) o ≡ Entry.Ends → inventory_from image s n r o ≡ inventory_from image s n (r + 1) 0
      goes l e = rw (lt-ltb r n l, ended (region_of s image r) o e) (sym (from_start (r + 1)))

  -- a bad place: nothing is behind it
  pub from_bad : (r o : ℕ) (g : Fault) → entry_at image s n r o ≡ Entry.Bad g → (r < n) × (inventory_from image s n r o ≡ record { items = []; last = bad r o g })
  unfolding items_in
  from_bad r o g h = ⊎_elim (λ p. (p.0, goes p.0 p.1)) (λ p. absurd (let e : Entry.Bad g ≡ Entry.Over = p.1 in let z : ◌≡◌ {A = ℕ} 0 1 = cc in omega arith)) (located r o _ h)
    where
      goes : r < n → entry_in (region_of s image r) o ≡ Entry.Bad g → inventory_from image s n r o ≡ record { items = []; last = bad r o g }
      goes l e = rw (lt-ltb r n l, badly (region_of s image r) o g e)

  -- no region is left
  pub from_over : (r o : ℕ) → entry_at image s n r o ≡ Entry.Over → (n ≤ r) × (inventory_from image s n r o ≡ record { items = []; last = through })
  from_over r o h = ⊎_elim (λ p. absurd (not_over (region_of s image r) o p.1)) (λ p. (p.0, rw (le-ltb r n p.0))) (located r o _ h)

  -- a chip's image is refused nowhere
  pub not_refused : (r o : ℕ) (w : Refusal) → entry_at image s n r o ≡ Entry.Refused w → ⊥
  not_refused r o w h = ⊎_elim (λ p. refuses_not (region_of s image r) o w p.1) (λ p. let e : Entry.Refused w ≡ Entry.Over = p.1 in let z : ◌≡◌ {A = ℕ} 0 1 = cc in omega arith) (located r o _ h)

  -- all of a chip
  pub from_first : inventory image s n ≡ inventory_from image s n 0 0
  unfolding inventory
  from_first = let e : n ≡ n - 0 = omega arith in rw (fits_geometry f) (ap (λ k. inventory_of s image (numbers 0 k)) e ∙ sym (from_start 0))
