-- A value that is lent lies in the image.
-- Assumes nothing.
use Prim.Native.Nat.{ℕ, ◌+◌, ◌-◌, ◌*◌, ◌^◌, ◌≤◌, ◌<◌}
use native.Mathlib.Omega.{arith}
use mathlib.Core.Path.{◌≡◌, refl, sym, ap}
use mathlib.Core.Bool.{Bool, true, false, cond}
use mathlib.Core.List.{List}
use lib.ListN.{length}
use Rattle.std.specs.Prelude.{Result, Err, Ok}
use Rattle.chip.specs.Geometry.{region_of}
use Rattle.format.specs.declared.Record.{Record}
use Rattle.region.specs.Walk.{value_length}
use Rattle.refusals.specs.declared.Refusal.{Refusal}
use Rattle.lookup.specs.declared.Hit.{Hit}
use Rattle.lookup.specs.Turns.{hit_of, hits}
use Rattle.lookup.proofs.Ends.{Held, held}
use Rattle.plans.specs.declared.Success.TheVariants.{Complete}
use Rattle.entries.specs.Entries.{sound_in}
use Rattle.lending.specs.declared.Part.{Part}
use Rattle.lending.specs.Lending.{located_in, located_by, located_of, answer_of, place_of, companion_of}

-- The test of the code is the definition's.
pub wrong_sum : (region : List ℕ) (start : ℕ) (x : Record) → sound_in region x ≡ false → Err Refusal.InvalidCheckSum ≡ located_in region start x
wrong_sum region start x e = rw e

pub right_sum : (region : List ℕ) (start : ℕ) (x : Record) → sound_in region x ≡ true
    → Ok (record { place = start + x.at + 11; len = x.len - 15 }) ≡ located_in region start x
right_sum region start x e = rw e

-- What a value that is lent says: its record is the key's, with a right checksum, and where it lies.
pub record Lent (image : List ℕ) (s n key len : ℕ) : Type 0 where
  pub region : ℕ
  pub rec : Record
  pub hit : hit_of image s n key ≡ hits region rec
  pub held : Held image s n key region rec
  pub right : sound_in (region_of s image region) rec ≡ true
  pub len_is : value_length rec ≡ len
  pub place_is : place_of (located_of image s n key) ≡ region * s + rec.at + 11
  pub inside : place_of (located_of image s n key) + len ≤ length image
  pub small : length image < 2 ^ 32

refuses : (w : Refusal) (len : ℕ) → Err w ≡ Ok (Complete len) → ⊥
refuses w len q = let z : ◌≡◌ {A = ℕ} 0 1 = cc in omega arith

pub lent : (image : List ℕ) (s n key len : ℕ) → companion_of image s n key ≡ Ok (Complete len) → Lent image s n key len
unfolding located_of
lent image s n key len q = go (hit_of image s n key) refl q
  where
    found : (r : ℕ) (x : Record) → hit_of image s n key ≡ hits r x → (b : Bool) → sound_in (region_of s image r) x ≡ b
        → answer_of (cond b (Ok (record { place = r * s + x.at + 11; len = value_length x })) (Err Refusal.InvalidCheckSum)) ≡ Ok (Complete len) → Lent image s n key len
    found r x e false t q = absurd (refuses _ _ q)
    found r x e true t q =
        let h = held image s n key r x e in
        let l : x.len - 15 ≡ len = cc in
        let p : place_of (located_of image s n key) ≡ r * s + x.at + 11 = rw (e, t) in
        record {
          region = r;
          rec = x;
          hit = e;
          held = h;
          right = t;
          len_is = l;
          place_is = p;
          inside = omega (arith, p, l, h.inside, h.size, h.found.least, h.found.fits);
          small = h.small;
        }

    go : (hit : Result Hit Refusal) → hit_of image s n key ≡ hit → answer_of (located_by s image hit) ≡ Ok (Complete len) → Lent image s n key len
    go (Err w) e q = absurd (refuses _ _ q)
    go (Ok h) e q = found h.region h.rec e (sound_in (region_of s image h.region) h.rec) refl q

-- the part that is found lies in the image
pub part_inside : (image : List ℕ) (s n key : ℕ) {part : Part} → Ok part ≡ located_of image s n key → (part.place + part.len ≤ length image) × (length image < 2 ^ 32)
part_inside image s n key e =
    let l = lent image s n key _ (sym (ap answer_of e)) in
    (rw (sym (ap place_of e)) at l.inside, l.small)

-- where it refuses the place is 0
pub refused_place : (image : List ℕ) (s n key : ℕ) (w : Refusal) → companion_of image s n key ≡ Err w → place_of (located_of image s n key) ≡ 0
unfolding located_of
refused_place image s n key w q = go (hit_of image s n key) q
  where
    found : (r : ℕ) (x : Record) (b : Bool) → answer_of (cond b (Ok (record { place = r * s + x.at + 11; len = value_length x })) (Err Refusal.InvalidCheckSum)) ≡ Err w
        → place_of (cond b (Ok (record { place = r * s + x.at + 11; len = value_length x })) (Err Refusal.InvalidCheckSum)) ≡ 0
    found r x true q = absurd (refuses _ _ (sym q))
    found r x false q = refl

    go : (hit : Result Hit Refusal) → answer_of (located_by s image hit) ≡ Err w → place_of (located_by s image hit) ≡ 0
    go (Err v) q = refl
    go (Ok h) q = found h.region h.rec (sound_in (region_of s image h.region) h.rec) q
