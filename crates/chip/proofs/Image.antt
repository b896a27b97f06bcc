-- The regions of an image: where they lie, what a store or an erase in one of them does to each, and that they make up the image.
-- The limits on a chip's size are used by name; only `all_small` looks at the numbers. Assumes nothing.
use Prim.Native.Nat.{ℕ, zero, suc, ◌+◌, ◌-◌, ◌*◌, ◌^◌, ◌≤◌, ◌<◌}
use native.Mathlib.Nat.{mul-le-mul, mul-le-mul_right, add-sub_cancel_left, zero-mul, suc-mul}
use native.Mathlib.Numerals.{add-one}
use native.Mathlib.Decide.{dec_lt}
use native.Mathlib.Omega.{arith}
use mathlib.Core.Path.{◌≡◌, refl, sym, ◌∙◌, ap}
use mathlib.Core.Bool.{Bool, true, false, ◌&&◌}
use mathlib.Core.List.{List, ◌++◌}
use lib.ListN.{length, take, drop, length-take, length-drop, length-replicate, replicate-append-replicate}
use lib.Seq.{sets, length-sets, length-take-le, take_all, take-add}
use borrow.Author.Tests.{leb-true, eqb-true, le-leb, eq-eqb}
use borrow.Rule.Slice.PartMut.{put_mid}
use Rattle.chip.specs.Chip.{written, erased}
use Rattle.chip.specs.Geometry.{least_size, largest_size, most_regions, sized, geometry, Shape, Fits, region_of, erase_region}
use Rattle.chip.proofs.Lists.{part_before, part_after, part_middle, part_put, sets_parts}
use Rattle.chip.proofs.Laws.{length-written}
use Rattle.chip.proofs.Runs.{Run, sets-run, written_run, Within, run_within, run_part, run_back}

-- The tests and the facts say the same.

-- both halves of a test
pub both : (t u : Bool) → (t && u) ≡ true → (t ≡ true) × (u ≡ true)
both true u e = (refl, e)
both false u e = (e, cc)

pub sized_shape : {s n : ℕ} → sized s n ≡ true → Shape s n
unfolding sized
sized_shape {s} {n} e =
    let c = both _ _ e in
    let b = both _ _ c.0 in
    let a = both _ _ b.0 in
    record { s_least = leb-true _ _ a.0; s_most = leb-true _ _ a.1; n_least = leb-true _ _ b.1; n_most = leb-true _ _ c.1 }

pub shape_sized : {s n : ℕ} → Shape s n → sized s n ≡ true
unfolding sized
shape_sized {s} {n} h = rw (le-leb least_size s h.s_least, le-leb s largest_size h.s_most, le-leb 1 n h.n_least, le-leb n most_regions h.n_most)

pub geometry_fits : {image : List ℕ} {s n : ℕ} → geometry image s n ≡ true → Fits image s n
unfolding geometry
geometry_fits e = let b = both _ _ e in record { shape = sized_shape b.0; size = eqb-true _ _ b.1 }

pub fits_geometry : {image : List ℕ} {s n : ℕ} → Fits image s n → geometry image s n ≡ true
unfolding geometry
fits_geometry f = rw (shape_sized f.shape) (eq-eqb _ _ f.size)

-- Places are small, and a region that there is lies in the image.

pub all_small : {s n : ℕ} → Shape s n → n * s < 2 ^ 32
all_small h = omega (arith, mul-le-mul h.n_most h.s_most)

pub place_small : {image : List ℕ} {s n : ℕ} → Fits image s n → length image < 2 ^ 32
place_small f = omega (arith, all_small f.shape)

pub region_inside : {image : List ℕ} {s n r : ℕ} → Fits image s n → r < n → r * s + s ≤ length image
region_inside {image} {s} f h = omega (arith, mul-le-mul_right s h)

pub region_small : {image : List ℕ} {s n r : ℕ} → Fits image s n → r < n → r * s + s < 2 ^ 32
region_small f h = omega (arith, place_small f, region_inside f h)

pub region-length : {image : List ℕ} {s n r : ℕ} → Fits image s n → r < n → length (region_of s image r) ≡ s
region-length f h = simp (length-take, length-drop) (omega (arith, region_inside f h))

-- A part as code takes it, by its start and its end.
pub part_region : (s : ℕ) (image : List ℕ) (r : ℕ) → take (r * s + s - r * s) (drop (r * s) image) ≡ region_of s image r
part_region s image r = rw add-sub_cancel_left

-- What a run of stores in region r does to the regions.

-- Two regions have no byte in common.
pub others_same : (s : ℕ) {image' image : List ℕ} (r : ℕ) → Within image' image (r * s) s → (q : ℕ) → (q ≡ r → ⊥) → region_of s image' q ≡ region_of s image q
others_same s {image'} {image} r w q d = go (dec_lt q r)
  where
    go : Dec (q < r) → region_of s image' q ≡ region_of s image q
    go (yes l) = part_before image' image (r * s) (q * s) s w.before (omega (arith, mul-le-mul_right s l))
    go (no l) = let m : suc r ≤ q = omega arith in part_after image' image (r * s + s) (q * s) s w.after (omega (arith, mul-le-mul_right s m))

module _ {byte : ℕ → ℕ → ℕ} {g : List ℕ → ℕ → List ℕ → List ℕ} (run : Run byte g) (s r : ℕ) (image : List ℕ) (o : ℕ) (b : List ℕ) (h : o + length b ≤ s) where
  region_run_same : region_of s (g image (r * s + o) b) r ≡ g (region_of s image r) o b
  region_run_same = run_part run image (r * s) s o b h

  region_run_other : (q : ℕ) → (q ≡ r → ⊥) → region_of s (g image (r * s + o) b) q ≡ region_of s image q
  region_run_other = others_same s r (run_within run image (r * s + o) b (r * s) s (omega arith) (omega arith))

module _ (s r : ℕ) (image : List ℕ) (o : ℕ) (b : List ℕ) (h : o + length b ≤ s) where
  pub region_sets_same : region_of s (sets image (r * s + o) b) r ≡ sets (region_of s image r) o b
  region_sets_same = region_run_same sets-run s r image o b h

  pub region_sets_other : (q : ℕ) → (q ≡ r → ⊥) → region_of s (sets image (r * s + o) b) q ≡ region_of s image q
  region_sets_other = region_run_other sets-run s r image o b h

  pub region_written_same : region_of s (written image (r * s + o) b) r ≡ written (region_of s image r) o b
  region_written_same = region_run_same written_run s r image o b h

  pub region_written_other : (q : ℕ) → (q ≡ r → ⊥) → region_of s (written image (r * s + o) b) q ≡ region_of s image q
  region_written_other = region_run_other written_run s r image o b h

  -- Region r is lent, and comes back with the bytes stored in it.
  pub sets_in_region : put_mid (r * s) s image (sets (region_of s image r) o b) ≡ sets image (r * s + o) b
  sets_in_region = run_back sets-run image (r * s) s o b h

  -- the same, of the part as code takes it
  pub sets_in_part : put_mid (r * s) (r * s + s - r * s) image (sets (take (r * s + s - r * s) (drop (r * s) image)) o b) ≡ sets image (r * s + o) b
  sets_in_part = rw add-sub_cancel_left sets_in_region

-- What an erase of region r does to the regions.

pub length-erased : (m : ℕ) → length (erased m) ≡ m
length-erased m = length-replicate m 255

pub erase_within : (s r : ℕ) (image : List ℕ) → Within (erase_region s r image) image (r * s) s
erase_within s r image = run_within sets-run image (r * s) (erased s) (r * s) s (omega arith) (omega (arith, length-erased s))

pub region_erased_other : (s r : ℕ) (image : List ℕ) (q : ℕ) → (q ≡ r → ⊥) → region_of s (erase_region s r image) q ≡ region_of s image q
region_erased_other s r image = others_same s r (erase_within s r image)

module _ {image : List ℕ} {s n r : ℕ} (f : Fits image s n) (h : r < n) where
  pub region_erased_same : region_of s (erase_region s r image) r ≡ erased s
  region_erased_same =
      let l = length-erased s in
      let i = region_inside f h in
      ap (λ (x : List ℕ). region_of s x r) (sets_parts image (r * s) (erased s) (omega arith))
      ∙ part_middle (take (r * s) image) (erased s) _ (r * s) s (length-take-le (r * s) image (omega arith)) l

  -- Region r is lent, and comes back erased.
  pub erased_in_region : put_mid (r * s) s image (erased s) ≡ erase_region s r image
  erased_in_region = part_put image (erased s) (r * s) s (length-erased s) (region_inside f h)

  -- the same, of the part as code takes it
  pub erased_in_part : put_mid (r * s) (r * s + s - r * s) image (erased (length (take (r * s + s - r * s) (drop (r * s) image)))) ≡ erase_region s r image
  erased_in_part = rw (add-sub_cancel_left (r * s) s, region-length f h) erased_in_region

-- An image keeps its geometry.

fits_kept : {image' image : List ℕ} {s n : ℕ} → length image' ≡ length image → Fits image s n → Fits image' s n
fits_kept e f = record { shape = f.shape; size = e ∙ f.size }

pub fits_sets : {image : List ℕ} {s n : ℕ} → Fits image s n → (at : ℕ) (b : List ℕ) → Fits (sets image at b) s n
fits_sets {image} f at b = fits_kept (length-sets image at b) f

pub fits_written : {image : List ℕ} {s n : ℕ} → Fits image s n → (at : ℕ) (b : List ℕ) → Fits (written image at b) s n
fits_written {image} f at b = fits_kept (length-written image at b) f

pub fits_erased : {image : List ℕ} {s n : ℕ} → Fits image s n → (r : ℕ) → Fits (erase_region s r image) s n
fits_erased {s = s} f r = fits_sets f (r * s) (erased s)

pub fits_blank : {s n : ℕ} → Shape s n → Fits (erased (n * s)) s n
fits_blank {s} {n} h = record { shape = h; size = length-erased (n * s) }

-- An image is its regions, one after the other.

front_next : (s : ℕ) (image : List ℕ) (i : ℕ) → take (suc i * s) image ≡ take (i * s) image ++ region_of s image i
front_next s image i = rw suc-mul (take-add (i * s) s image)

whole : {image : List ℕ} {s n : ℕ} → Fits image s n → take (n * s) image ≡ image
whole {image} {s} {n} f = take_all (n * s) image (omega arith)

pub regions_same : {a b : List ℕ} {s n : ℕ} → Fits a s n → Fits b s n → ((r : ℕ) → r < n → region_of s a r ≡ region_of s b r) → a ≡ b
regions_same {a} {b} {s} {n} f g h = sym (whole f) ∙ fronts n h ∙ whole g
  where
    fronts : (i : ℕ) → ((r : ℕ) → r < i → region_of s a r ≡ region_of s b r) → take (i * s) a ≡ take (i * s) b
    fronts zero h = rw zero-mul
    fronts (suc i) h = front_next s a i ∙ (λ j. fronts i (λ r l. h r (omega arith)) j ++ h i (omega arith) j) ∙ sym (front_next s b i)

-- A blank image: each of its regions is blank, and erasing regions 0 to n - 1 one after the other leaves it.

erased_add : (m k : ℕ) → erased m ++ erased k ≡ erased (m + k)
erased_add m k = replicate-append-replicate m k 255

pub erased_regions : (s : ℕ) {n r : ℕ} → r < n → region_of s (erased (n * s)) r ≡ erased s
erased_regions s {n} {r} h = ap (λ (m : ℕ). region_of s (erased m) r) e ∙ go (n * s - (r * s + s))
  where
    e : n * s ≡ r * s + (s + (n * s - (r * s + s)))
    e = omega (arith, mul-le-mul_right s h)

    go : (k : ℕ) → region_of s (erased (r * s + (s + k))) r ≡ erased s
    go k =
        rw (← erased_add (r * s) (s + k), ← erased_add s k)
        (part_middle (erased (r * s)) (erased s) (erased k) (r * s) s (length-erased (r * s)) (length-erased s))

pub erase_start : {image : List ℕ} {s n : ℕ} → Fits image s n → take (0 * s) image ≡ erased (0 * s)
erase_start f = rw zero-mul

pub erase_next : {image : List ℕ} {s n i : ℕ} → Fits image s n → i < n → take (i * s) image ≡ erased (i * s)
    → take ((i + 1) * s) (erase_region s i image) ≡ erased ((i + 1) * s)
erase_next {image} {s} {i = i} f h e =
    rw (add-one i)
    (front_next s (erase_region s i image) i
    ∙ (λ j. ((erase_within s i image).before ∙ e) j ++ region_erased_same f h j)
    ∙ erased_add (i * s) s
    ∙ ap erased (sym (suc-mul i s)))

pub erase_end : {image : List ℕ} {s n : ℕ} → Fits image s n → take (n * s) image ≡ erased (n * s) → image ≡ erased (n * s)
erase_end f e = sym (whole f) ∙ e
