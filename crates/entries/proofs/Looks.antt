-- What stands at a place of a region or of a chip, by the tests of the code.
-- Assumes nothing.
use Prim.Native.Nat.{ℕ, ◌+◌, ◌^◌, ◌≤◌, ◌<◌}
use native.Mathlib.Omega.{arith}
use mathlib.Core.Path.{◌≡◌, refl, sym, ◌∙◌, ap}
use mathlib.Core.Bool.{Bool, true, false}
use mathlib.Core.List.{List}
use mathlib.Core.Logic.{◌⊎◌, ⊎_elim}
use lib.ListN.{length}
use borrow.Author.Tests.{lt-ltb, le-ltb}
use Rattle.chip.specs.Geometry.{geometry, region_of, Fits}
use Rattle.chip.proofs.Image.{fits_geometry, region-length, region_small}
use Rattle.format.specs.declared.Record.{Record}
use Rattle.format.specs.Layout.{check_sum_fits}
use Rattle.std.specs.Prelude.{Result, Ok, Err}
use Rattle.region.specs.declared.Stop.{Stop}
use Rattle.format.specs.declared.Fault.{Fault}
use Rattle.region.specs.declared.Stop.TheVariants.{End, Bad}
use Rattle.region.specs.Walk.{met_at, bytes_in}
use Rattle.region.proofs.Steps.{found_fits, found_at, end_short}
use Rattle.refusals.specs.declared.Refusal.{Refusal}
use Rattle.entries.specs.declared.Entry.{Entry}
use Rattle.entries.specs.Entries.{entry_of, entry_in, entry_at, staying, going_on, shown, shown_at}

-- In a region.

pub past_ends : (region : List ℕ) (o : ℕ) → length region < o → Entry.Ends ≡ entry_in region o
past_ends region o h = ap (entry_of region) (sym (end_short region o (omega arith)))

pub met_is : (region : List ℕ) (o : ℕ) (m met : Result Record Stop) → met ≡ met_at region o → met ≡ m → entry_of region m ≡ entry_in region o
met_is region o m met e g = ap (entry_of region) (sym g ∙ e)

-- a record that is met lies in the region
pub met_lies : (region : List ℕ) (o : ℕ) (x : Record) (met : Result Record Stop) → met ≡ met_at region o → met ≡ Ok x → (15 ≤ x.len) × (x.at + x.len ≤ length region)
met_lies region o x met e g =
    let q : met_at region o ≡ Ok x = sym e ∙ g in
    let f = found_fits region o x q in
    let a : o ≡ x.at = found_at region o x q in
    (f.0, omega (arith, f.1, a))

-- In a chip.

pub no_chip : (image : List ℕ) (s n r o : ℕ) → geometry image s n ≡ false → staying (Entry.Refused Refusal.BadGeometry) r o ≡ shown_at image s n r o
unfolding entry_at
no_chip image s n r o g = rw g

pub no_region : (image : List ℕ) (s n r o : ℕ) → geometry image s n ≡ true → n ≤ r → staying Entry.Over r o ≡ shown_at image s n r o
unfolding entry_at
no_region image s n r o g h = rw (g, le-ltb r n h)

-- what a region's place says is what the chip's does
pub in_region_lem : (image : List ℕ) (s n r o : ℕ) → geometry image s n ≡ true → r < n → entry_at image s n r o ≡ entry_in (region_of s image r) o
unfolding entry_at
in_region_lem image s n r o g h = rw (g, lt-ltb r n h)

-- where a region ends or is bad the next one follows
pub goes_on : (r o : ℕ) (e : Entry) → (e ≡ Entry.Ends) ⊎ ((f : Fault) × (e ≡ Entry.Bad f)) → going_on e r ≡ shown r o e
goes_on r o e h = ⊎_elim (λ p. rw p) (λ p. rw p.1) h

-- where there is no such region, or no chip, the place is the same
pub stays : (r o : ℕ) (e : Entry) → (e ≡ Entry.Over) ⊎ ((w : Refusal) × (e ≡ Entry.Refused w)) → staying e r o ≡ shown r o e
stays r o e h = ⊎_elim (λ p. rw p) (λ p. rw p.1) h

-- What a record that stands at a place says of the place.
pub record Stood (region : List ℕ) (o : ℕ) (x : Record) (sound : Bool) : Type 0 where
  pub met : met_at region o ≡ Ok x
  pub sum : check_sum_fits (bytes_in region x) ≡ sound
  pub least : 15 ≤ x.len
  pub inside : o + x.len ≤ length region
  pub place : o ≡ x.at

pub stood : (region : List ℕ) (o : ℕ) (x : Record) (sound : Bool) → entry_in region o ≡ Entry.Stands x sound → Stood region o x sound
stood region o x sound h = go (met_at region o) refl h
  where
    is : (y : Record) → met_at region o ≡ Ok y → y ≡ x → check_sum_fits (bytes_in region y) ≡ sound → Stood region o x sound
    is y e p q =
        let m : met_at region o ≡ Ok x = e ∙ ap Ok p in
        let f = found_fits region o x m in
        record { met = m; sum = sym (ap (λ (z : Record). check_sum_fits (bytes_in region z)) p) ∙ q; least = f.0; inside = f.1; place = found_at region o x m }

    go : (m : Result Record Stop) → met_at region o ≡ m → entry_of region m ≡ Entry.Stands x sound → Stood region o x sound
    go (Ok y) e q =
        let p : y ≡ x = cc in
        let b : check_sum_fits (bytes_in region y) ≡ sound = cc in
        is y e p b
    go (Err (End p)) e q = absurd (let z : ◌≡◌ {A = ℕ} 0 1 = cc in omega arith)
    go (Err (Bad f p)) e q = absurd (let z : ◌≡◌ {A = ℕ} 0 1 = cc in omega arith)

module _ {image : List ℕ} {s n : ℕ} (f : Fits image s n) where
  pub regions_few : n ≤ 65536
  regions_few = omega (arith, f.shape.n_most)

  pub stands_small : (r o : ℕ) {x : Record} {sound : Bool} → r < n → entry_at image s n r o ≡ Entry.Stands x sound → o + x.len < 2 ^ 32
  stands_small r o {x} {sound} h e =
      let t = stood (region_of s image r) o x sound (sym (in_region_lem image s n r o (fits_geometry f) h) ∙ e) in
      omega (arith, t.inside, region-length f h, region_small f h)
