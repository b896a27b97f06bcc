-- A pass over a chip: each entry leaves less to be looked at, and what is put for it leaves the rest to be put.
-- Assumes nothing.
use Prim.Native.Nat.{ℕ, ◌+◌, ◌-◌, ◌*◌, ◌≤◌, ◌<◌}
use native.Mathlib.Nat.{zero-mul}
use native.Mathlib.Omega.{arith}
use mathlib.Core.Bool.{Bool, true, false, cond}
use mathlib.Core.Path.{◌≡◌, refl, sym, ◌∙◌, ap, subst}
use mathlib.Core.Logic.{◌⊎◌, inl, inr}
use mathlib.Core.List.{List}
use lib.Dec.{ltb}
use lib.ListN.{length}
use Rattle.std.specs.Prelude.{Option, Some, None}
use Rattle.chip.specs.Geometry.{geometry, region_of, Fits}
use Rattle.chip.specs.declared.regions.Chip.{Chip}
use Rattle.chip.proofs.Image.{geometry_fits}
use Rattle.format.specs.declared.Record.{Record}
use Rattle.format.specs.declared.Fault.{Fault}
use Rattle.refusals.specs.declared.Refusal.{Refusal}
use Rattle.entries.specs.declared.Place.{Place}
use Rattle.entries.specs.declared.Entry.{Entry}
use Rattle.entries.specs.declared.Shown.{Shown}
use Rattle.entries.specs.Entries.{entry_in, entry_at, shown_at}
use Rattle.entries.specs.Inventory.{inventory}
use Rattle.entries.proofs.Steps.{here as stands, stands_chip, from_ends, from_bad}
use Rattle.intake.specs.Intake.{most_image}
use Rattle.lines.specs.declared.Page.{Page}
use Rattle.lines.specs.Pages.{HasRoom, Puts}
use Rattle.lines.specs.Text.{line_of, bad_line}
use Rattle.listing.specs.declared.Entries.{Entries}
use Rattle.listing.specs.Passing.{item_at, goes_to, shown_here, Passes, ahead}
use Rattle.listing.specs.Listing.{text_of, most_text}
use Rattle.listing.proofs.Listed.{Left, told, ahead_region, left_first, room_line, left_stands, left_ends, room_bad, left_bad, left_over}

-- Whatever the image: where an entry is given it is a chip's, and the rest is less.

of_chip : (image : List ℕ) (s n r o : ℕ) (e : Entry) → entry_at image s n r o ≡ e → (e ≡ Entry.Refused Refusal.BadGeometry → ⊥) → Fits image s n
unfolding entry_at
of_chip image s n r o e h k = go (geometry image s n) refl h
  where
    go : (b : Bool) → geometry image s n ≡ b → cond b (cond (ltb r n) (entry_in (region_of s image r) o) Entry.Over) (Entry.Refused Refusal.BadGeometry) ≡ e → Fits image s n
    go true g q = geometry_fits g
    go false g q = absurd (k (sym q))

module _ (image : List ℕ) (s n : ℕ) (here : Place) (h : Shown) (p : h ≡ shown_at image s n here.region here.at) where
  fits_by : (e : Entry) → h.entry ≡ e → (e ≡ Entry.Refused Refusal.BadGeometry → ⊥) → Fits image s n
  fits_by e q k = of_chip image s n here.region here.at e (told image s n here.region here.at h e p q).0 k

  pub falls_on : ((x : Record) × (b : Bool) × (h.entry ≡ Entry.Stands x b)) ⊎ (h.entry ≡ Entry.Ends) → ahead s n h.next.region h.next.at < ahead s n here.region here.at
  falls_on (inl (x, b, q)) =
      let t = told image s n here.region here.at h (Entry.Stands x b) p q in
      let y = stands (stands_chip image s n here.region here.at x b t.0) here.region here.at x b t.0 in
      subst (λ (z : Shown). ahead s n z.next.region z.next.at < ahead s n here.region here.at) (sym t.1) (omega (arith, y.inside, y.least))
  falls_on (inr q) =
      let t = told image s n here.region here.at h Entry.Ends p q in
      let f = fits_by Entry.Ends q (λ e. let z : ◌≡◌ {A = ℕ} 0 1 = cc in omega arith) in
      let y = from_ends f here.region here.at t.0 in
      subst (λ (z : Shown). ahead s n z.next.region z.next.at < ahead s n here.region here.at) (sym t.1) (omega (arith, ahead_region s n here.region y.0))

  pub falls_bad : (g : Fault) → h.entry ≡ Entry.Bad g → ahead s n n 0 < ahead s n here.region here.at
  falls_bad g q =
      let t = told image s n here.region here.at h (Entry.Bad g) p q in
      let f = fits_by (Entry.Bad g) q (λ e. let z : ◌≡◌ {A = ℕ} 0 1 = cc in omega arith) in
      let y = from_bad f here.region here.at g t.0 in
      let z : (n - n) * (s + 1) ≡ 0 = let d : n - n ≡ 0 = omega arith in rw d (zero-mul (s + 1)) in
      omega (arith, ahead_region s n here.region y.0)

-- What a pass gives is what stands at its place.

item_is : (here : Place) (e : Entry) (place : Place) (entry : Entry) → Some (place, entry) ≡ item_at here e → (place ≡ here) × (entry ≡ e)
item_is here (Entry.Stands x b) place entry q = let t : ◌≡◌ {A = Place × Entry} (place, entry) (here, Entry.Stands x b) = cc in (ap (λ (z : Place × Entry). z.0) t, ap (λ (z : Place × Entry). z.1) t)
item_is here Entry.Ends place entry q = let t : ◌≡◌ {A = Place × Entry} (place, entry) (here, Entry.Ends) = cc in (ap (λ (z : Place × Entry). z.0) t, ap (λ (z : Place × Entry). z.1) t)
item_is here (Entry.Bad g) place entry q = let t : ◌≡◌ {A = Place × Entry} (place, entry) (here, Entry.Bad g) = cc in (ap (λ (z : Place × Entry). z.0) t, ap (λ (z : Place × Entry). z.1) t)
item_is here Entry.Over place entry q = absurd (let z : ◌≡◌ {A = ℕ} 0 1 = cc in omega arith)
item_is here (Entry.Refused w) place entry q = absurd (let z : ◌≡◌ {A = ℕ} 0 1 = cc in omega arith)

none_is : (here : Place) (e : Entry) → None ≡ item_at here e → (e ≡ Entry.Over) ⊎ ((w : Refusal) × (e ≡ Entry.Refused w))
none_is here (Entry.Stands x b) q = absurd (let z : ◌≡◌ {A = ℕ} 0 1 = cc in omega arith)
none_is here Entry.Ends q = absurd (let z : ◌≡◌ {A = ℕ} 0 1 = cc in omega arith)
none_is here (Entry.Bad g) q = absurd (let z : ◌≡◌ {A = ℕ} 0 1 = cc in omega arith)
none_is here Entry.Over q = inl refl
none_is here (Entry.Refused w) q = inr (w, refl)

-- All lines are put but those from the pass's place on, and it is a pass over the chip.
pub record On (chip : Chip) (first page : Page) (i : Entries) : Type 0 where
  pub left : Left chip.image.now chip.s chip.n first page i.here
  pub chip_is : i.chip ≡ chip

module _ {chip : Chip} (f : Fits chip.image.now chip.s chip.n) where
  -- a pass from a chip's first place on
  pub on_first : (page : Page) (i : Entries) → i.chip ≡ chip → i.here ≡ record { region = 0; at = 0 } → On chip page page i
  on_first page i e h = record { left = subst (Left chip.image.now chip.s chip.n page page) (sym h) (left_first f page); chip_is = e }

  module _ {first page : Page} {i : Entries} (on : On chip first page i) where
    abbrev h : Shown
    h = shown_at chip.image.now chip.s chip.n i.here.region i.here.at

    h_is : shown_here i ≡ h
    h_is = λ j. shown_at (on.chip_is j).image.now (on.chip_is j).s (on.chip_is j).n i.here.region i.here.at

    -- an entry is given
    module _ (i' : Entries) {place : Place} {entry : Entry} (u : Passes i (Some (place, entry)) i') where
      item : (place ≡ i.here) × (entry ≡ h.entry)
      item = item_is i.here h.entry place entry (u.0 ∙ ap (λ (t : Shown). item_at i.here t.entry) h_is)

      to : i'.here ≡ goes_to chip.n h.entry h.next
      to = u.1 ∙ (λ j. goes_to (on.chip_is j).n (h_is j).entry (h_is j).next)

      still : (page' : Page) → Left chip.image.now chip.s chip.n first page' i'.here → On chip first page' i'
      still page' l = record { left = l; chip_is = u.2 ∙ on.chip_is }

      module _ (x : Record) (b : Bool) (q : entry ≡ Entry.Stands x b) where
        stands_here : h.entry ≡ Entry.Stands x b
        stands_here = sym item.1 ∙ q

        pub line_room : chip.n * chip.s ≤ most_image → first.at ≤ 29 → most_text ≤ length first.out.now
            → (place.region < 100000) × (x.at < 100000) × (15 ≤ x.len) × (x.len < 100000) × HasRoom page 40
        line_room m a t =
            subst (λ (z : Place). (z.region < 100000) × (x.at < 100000) × (15 ≤ x.len) × (x.len < 100000) × HasRoom page 40) (sym item.0)
            (room_line f on.left h x b refl stands_here m a t)

        pub line_put : (page' : Page) → Puts page (line_of place.region x) page' → On chip first page' i'
        line_put page' v =
            let l = left_stands f on.left h x b refl stands_here page' (subst (λ (z : Place). Puts page (line_of z.region x) page') item.0 v) in
            still page' (subst (λ (z : Place). Left chip.image.now chip.s chip.n first page' z) (sym (to ∙ ap (λ (e : Entry). goes_to chip.n e h.next) stands_here)) l)

      module _ (g : Fault) (q : entry ≡ Entry.Bad g) where
        bad_here : h.entry ≡ Entry.Bad g
        bad_here = sym item.1 ∙ q

        pub bad_room : chip.n * chip.s ≤ most_image → first.at ≤ 29 → most_text ≤ length first.out.now → (place.region < 100000) × (place.at < 100000) × HasRoom page 16
        bad_room m a t =
            subst (λ (z : Place). (z.region < 100000) × (z.at < 100000) × HasRoom page 16) (sym item.0) (room_bad f on.left h g refl bad_here m a t)

        pub bad_put : (page' : Page) → Puts page (bad_line place.region place.at) page' → On chip first page' i'
        bad_put page' v =
            let l = left_bad f on.left h g refl bad_here page' (subst (λ (z : Place). Puts page (bad_line z.region z.at) page') item.0 v) in
            still page' (subst (λ (z : Place). Left chip.image.now chip.s chip.n first page' z) (sym (to ∙ ap (λ (e : Entry). goes_to chip.n e h.next) bad_here)) l)

      -- no other is put: where a region ends the next one follows
      pub none_put : ((x : Record) (b : Bool) → entry ≡ Entry.Stands x b → ⊥) → ((g : Fault) → entry ≡ Entry.Bad g → ⊥) → On chip first page i'
      none_put k m = go h.entry refl
        where
          go : (e : Entry) → h.entry ≡ e → On chip first page i'
          go (Entry.Stands x b) q = absurd (k x b (item.1 ∙ q))
          go Entry.Ends q =
              still page (subst (λ (z : Place). Left chip.image.now chip.s chip.n first page z) (sym (to ∙ ap (λ (e : Entry). goes_to chip.n e h.next) q)) (left_ends f on.left h refl q))
          go (Entry.Bad g) q = absurd (m g (item.1 ∙ q))
          go Entry.Over q =
              absurd (let z : ◌≡◌ {A = Option (Place × Entry)} (Some (place, entry)) None = u.0 ∙ ap (λ (t : Shown). item_at i.here t.entry) h_is ∙ ap (item_at i.here) q in let y : ◌≡◌ {A = ℕ} 0 1 = cc in omega arith)
          go (Entry.Refused w) q =
              absurd (let z : ◌≡◌ {A = Option (Place × Entry)} (Some (place, entry)) None = u.0 ∙ ap (λ (t : Shown). item_at i.here t.entry) h_is ∙ ap (item_at i.here) q in let y : ◌≡◌ {A = ℕ} 0 1 = cc in omega arith)

    -- the pass is through
    pub all_put : (i' : Entries) → Passes i None i' → Puts first (text_of (inventory chip.image.now chip.s chip.n)) page
    all_put i' u = left_over f on.left h refl (none_is i.here h.entry (u.0 ∙ ap (λ (t : Shown). item_at i.here t.entry) h_is))
