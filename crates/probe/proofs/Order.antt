-- Each region has a place in the probe order that is counted from the region alone, and the order lists the regions by their places.
-- From that: the order's length, that each region comes once and no other number does, and what stands at a place.
-- Below, h is the home region, so h regions lie below it, and w lie above it.
use Prim.Native.Nat.{ℕ, zero, suc, ◌+◌, ◌-◌, ◌≤◌, ◌<◌, min}
use mathlib.Core.Path.{◌≡◌, refl, sym}
use mathlib.Core.List.{List, [], ◌∷◌, ◌++◌, append_assoc, Memᴰ}
use mathlib.Core.Logic.{◌↔◌}
use mathlib.Core.Bool.{Bool, true, false}
use lib.Dec.{ltb}
use lib.ListN.{length, get_or}
use borrow.Author.Tests.{ltb-true, ltb-false, leb-true, leb-false}
use native.Mathlib.Nat.{zero-add}
use native.Mathlib.Omega.{arith}
use Rattle.probe.specs.Probe.{keep, around, outward, probe, Distinct, none, one}

-- Region r stands at place i. At home + d + 1 it comes after home, the d nearer ones above, and d below or all of them.
-- At home - d it comes after d from home downwards, and d above or all of them.
pub data At (h w i r : ℕ) : Type 0 where
  up : (d : ℕ) → d < w → r ≡ h + suc d → i ≡ suc (d + min d h) → At h w i r
  down : (d : ℕ) → r + d ≡ h → i ≡ d + min d w → At h w i r

-- The same by the numbers alone, with the distance as a difference.
pub above : {h w i r : ℕ} → h < r → r ≤ h + w → i ≡ r - h + min (r - h - 1) h → At h w i r
above {h} {w} {i} {r} p q e = up (r - h - 1) (omega arith) (omega arith) (omega arith)

pub below : {h w i r : ℕ} → r ≤ h → i ≡ h - r + min (h - r) w → At h w i r
below {h} {w} {i} {r} p e = down (h - r) (omega arith) e

-- Regions and places are below the number of regions, and each has one of the other.
at_lt : {h w i r : ℕ} → At h w i r → r < suc (h + w)
at_lt (up d p e f) = omega arith
at_lt (down d e f) = omega arith

place_lt : {h w i r : ℕ} → At h w i r → i < suc (h + w)
place_lt (up d p e f) = omega arith
place_lt (down d e f) = omega arith

one_region : {h w i r q : ℕ} → At h w i r → At h w i q → r ≡ q
one_region (up d p e f) (up d' p' e' f') = omega arith
one_region (up d p e f) (down d' e' f') = omega arith
one_region (down d e f) (up d' p' e' f') = omega arith
one_region (down d e f) (down d' e' f') = omega arith

one_place : {h w i j r : ℕ} → At h w i r → At h w j r → i ≡ j
one_place (up d p e f) (up d' p' e' f') = omega arith
one_place (up d p e f) (down d' e' f') = omega arith
one_place (down d e f) (up d' p' e' f') = omega arith
one_place (down d e f) (down d' e' f') = omega arith

-- The regions of the list stand at the places s, s + 1 and so on to the last.
data Placed (h w : ℕ) : ℕ → List ℕ → Type 0 where
  end : {s : ℕ} → s ≡ suc (h + w) → Placed h w s []
  next : {s r : ℕ} {l : List ℕ} → At h w s r → Placed h w (suc s) l → Placed h w s (r ∷ l)

-- What is kept takes a place, and what is left out takes none.
kept : {h w t : ℕ} {l : List ℕ} (s x : ℕ) (b : Bool) → (b ≡ true → At h w s x × (t ≡ suc s)) → (b ≡ false → t ≡ s) → Placed h w t l
    → Placed h w s (keep b x ++ l)
unfolding keep
kept s x true f g m = next (f refl).0 (rw (f refl).1 at m)
kept s x false f g m = rw (g refl) at m

-- From the distance d + 1 on, after home and the d nearest on either side, or all of them.
from : (n h w k d s : ℕ) → n ≡ suc (h + w) → n ≤ suc d + k → s ≡ suc (min d w + min d h) → Placed h w s (outward n h (suc d) k)
unfolding outward around
from n h w zero d s e m p = end {s = s} (omega arith)
from n h w (suc k) d s e m p =
    rw append_assoc
    (kept _ _ _
    (λ t. let q : d < w = omega (arith, ltb-true) in (up d q (omega arith) (omega arith), omega arith))
    (λ t. let q : w ≤ d = omega (arith, ltb-false) in omega arith)
    (kept (suc (min (suc d) w + min d h)) _ _
    (λ t. let q : d < h = omega (arith, leb-true) in (down (suc d) (omega arith) (omega arith), omega arith))
    (λ t. let q : h ≤ d = omega (arith, leb-false) in omega arith)
    (from n h w k (suc d) (suc (min (suc d) w + min (suc d) h)) e (omega arith) refl)))

placed : (n h w : ℕ) → n ≡ suc (h + w) → Placed h w 0 (probe n h)
unfolding probe
placed n h w e = next {s = 0} {r = h} (down 0 (omega arith) (omega arith)) (from n h w n 0 1 e (omega arith) (omega arith))

-- What follows for any list of regions by their places.
placed_length : {h w s : ℕ} {l : List ℕ} → Placed h w s l → s + length l ≡ suc (h + w)
placed_length (end e) = omega arith
placed_length (next v m) = omega (arith, placed_length m)

placed_at : {h w s : ℕ} {l : List ℕ} → Placed h w s l → (i : ℕ) → i < length l → At h w (s + i) (get_or l i 0)
placed_at (end e) i p = absurd (omega arith)
placed_at {s = s} (next v m) zero p =
    let e : s + 0 ≡ s = omega arith in
    rw e v
placed_at {s = s} (next v m) (suc i) p =
    let e : s + suc i ≡ suc s + i = omega arith in
    rw e (placed_at m i (omega arith))

placed_member : {h w s i r : ℕ} {l : List ℕ} → Placed h w s l → At h w i r → s ≤ i → Memᴰ r l
placed_member (end e) v p = absurd (omega (arith, place_lt v))
placed_member {s = s} {i = i} {r = r} (next {r = q} {l = l} u m) v p = go (ltb s i) refl (placed_member m v)
  where
    go : (b : Bool) → ltb s i ≡ b → (suc s ≤ i → Memᴰ r l) → Memᴰ r (q ∷ l)
    go true e later = Memᴰ.tail (later (omega (arith, ltb-true)))
    go false e later =
        let same : i ≡ s = omega (arith, ltb-false) in
        Memᴰ.head (one_region (rw same at v) u)

placed_of : {h w s r : ℕ} {l : List ℕ} → Placed h w s l → Memᴰ r l → (i : ℕ) × (s ≤ i) × At h w i r
placed_of {h = h} {w = w} {r = r} (end {s = s} _) m = elim m [ ]
placed_of {s = s} (next v m) (Memᴰ.head e) = (s, omega arith, rw e v)
placed_of (next v m) (Memᴰ.tail t) =
    let (i, p, u) = placed_of m t in
    (i, omega arith, u)

placed_distinct : {h w s : ℕ} {l : List ℕ} → Placed h w s l → Distinct l
placed_distinct (end e) = none
placed_distinct {h} {w} {s} (next {r = r} v m) = one (λ t. twice (placed_of m t)) (placed_distinct m)
  where
    twice : ((i : ℕ) × (suc s ≤ i) × At h w i r) → ⊥
    twice (i, p, u) = omega (arith, one_place v u)

-- Every region has a place.
somewhere : (h w r : ℕ) → r < suc (h + w) → (i : ℕ) × At h w i r
somewhere h w r p = go (ltb h r) refl
  where
    go : (b : Bool) → ltb h r ≡ b → (i : ℕ) × At h w i r
    go true e = (r - h + min (r - h - 1) h, above (ltb-true _ _ e) (omega arith) refl)
    go false e = (h - r + min (h - r) w, below (ltb-false _ _ e) refl)

-- The laws of the order of n regions, of which n - 1 - h lie above home.
module _ (n h : ℕ) (p : h < n) where
  whole : Placed h (n - 1 - h) 0 (probe n h)
  whole = placed n h (n - 1 - h) (omega arith)

  pub probe-length : length (probe n h) ≡ n
  probe-length = omega (arith, placed_length whole)

  probe_view : (i : ℕ) → i < n → At h (n - 1 - h) i (get_or (probe n h) i 0)
  probe_view i q = rw zero-add at (placed_at whole i (omega (arith, probe-length)))

  pub probe_at : {i r : ℕ} → At h (n - 1 - h) i r → get_or (probe n h) i 0 ≡ r
  probe_at {i} {r} v = one_region (probe_view i (omega (arith, place_lt v))) v

  -- What the code promises of the region that it gives for the place i.
  pub probe_found : {i r : ℕ} → At h (n - 1 - h) i r → (r ≡ get_or (probe n h) i 0) × (r < n)
  probe_found v = (sym (probe_at v), omega (arith, at_lt v))

  pub probe_lt : (i : ℕ) → i < n → get_or (probe n h) i 0 < n
  probe_lt i q = omega (arith, at_lt (probe_view i q))

  pub probe_has : (r : ℕ) → r < n → (i : ℕ) × (i < n) × (get_or (probe n h) i 0 ≡ r)
  probe_has r q =
      let (i, v) = somewhere h (n - 1 - h) r (omega arith) in
      (i, omega (arith, place_lt v), probe_at v)

  pub probe_once : (i j : ℕ) → i < n → j < n → get_or (probe n h) i 0 ≡ get_or (probe n h) j 0 → i ≡ j
  probe_once i j a b e = one_place (rw e at (probe_view i a)) (probe_view j b)

  pub probe_member : (r : ℕ) → (r < n) ↔ Memᴰ r (probe n h)
  probe_member r = (
    λ q. let (i, v) = somewhere h (n - 1 - h) r (omega arith) in placed_member whole v (omega arith),
    λ m. omega (arith, at_lt (placed_of whole m).2),
  )

  pub probe_distinct : Distinct (probe n h)
  probe_distinct = placed_distinct whole
