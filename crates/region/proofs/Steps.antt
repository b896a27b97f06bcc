-- What stands at a place, and the walk a step at a time.
-- Assumes nothing.
use Prim.Native.Nat.{ℕ, zero, suc, ◌+◌, ◌-◌, ◌≤◌, ◌<◌}
use native.Mathlib.Omega.{arith}
use mathlib.Core.Path.{◌≡◌, refl, sym, ◌∙◌, ap}
use mathlib.Core.Bool.{Bool, true, false, not, ◌||◌, cond}
use mathlib.Core.List.{List}
use lib.Dec.{ltb, eqb}
use lib.ListN.{length}
use borrow.Author.Tests.{ltb-true, ltb-false, eqb-true, eqb-false, le-ltb, lt-ltb, ne_eqb}
use Rattle.format.specs.declared.Record.{Record}
use Rattle.format.specs.declared.Fault.TheVariants.{UnsupportedVersion, CorruptData}
use Rattle.region.specs.declared.Stop.{Stop}
use Rattle.region.specs.declared.Stop.TheVariants.{End, Bad}
use Rattle.std.specs.Prelude.{Result, Ok, Err}
use Rattle.region.specs.Walk.{length_at, record_at, met_of, met_at, stopped, passed, walk_in, walk_from}
pub use Rattle.region.specs.Words.{place_of}

-- The cases of a step, each with what its tests say.
pub data Stands (left : ℕ) (x : Record) : Result Record Stop → Type 0 where
  short : left < 15 → Stands left x (Err (End x.at))
  free : 15 ≤ left → x.version ≡ 255 → Stands left x (Err (End x.at))
  version : 15 ≤ left → (x.version ≡ 255 → ⊥) → (x.version ≡ 1 → ⊥) → Stands left x (Err (Bad UnsupportedVersion x.at))
  corrupt : 15 ≤ left → x.version ≡ 1 → (15 ≤ x.len → left < x.len) → Stands left x (Err (Bad CorruptData x.at))
  sound : 15 ≤ left → x.version ≡ 1 → 15 ≤ x.len → x.len ≤ left → Stands left x (Ok x)

pub stands : (left : ℕ) (x : Record) → Stands left x (met_of left x)
unfolding met_of
stands left x = one (ltb left 15) refl
  where
    four : (b c : Bool) → ltb x.len 15 ≡ b → ltb left x.len ≡ c → 15 ≤ left → x.version ≡ 1
        → Stands left x (cond (b || c) (Err (Bad CorruptData x.at)) (Ok x))
    four true c p q l e = corrupt l e (λ h. absurd (omega (arith, ltb-true x.len 15 p)))
    four false true p q l e = corrupt l e (λ h. ltb-true _ _ q)
    four false false p q l e = sound l e (ltb-false _ _ p) (ltb-false _ _ q)

    three : (b : Bool) → eqb x.version 1 ≡ b → 15 ≤ left → (x.version ≡ 255 → ⊥)
        → Stands left x (cond (not b) (Err (Bad UnsupportedVersion x.at)) (cond (ltb x.len 15 || ltb left x.len) (Err (Bad CorruptData x.at)) (Ok x)))
    three true p l n = four (ltb x.len 15) (ltb left x.len) refl refl l (eqb-true _ _ p)
    three false p l n = version l n (eqb-false _ _ p)

    two : (b : Bool) → eqb x.version 255 ≡ b → 15 ≤ left
        → Stands left x (cond b (Err (End x.at)) (cond (not (eqb x.version 1)) (Err (Bad UnsupportedVersion x.at)) (cond (ltb x.len 15 || ltb left x.len) (Err (Bad CorruptData x.at)) (Ok x))))
    two true p l = free l (eqb-true _ _ p)
    two false p l = three (eqb x.version 1) refl l (eqb-false _ _ p)

    one : (b : Bool) → ltb left 15 ≡ b
        → Stands left x (cond b (Err (End x.at)) (cond (eqb x.version 255) (Err (End x.at)) (cond (not (eqb x.version 1)) (Err (Bad UnsupportedVersion x.at)) (cond (ltb x.len 15 || ltb left x.len) (Err (Bad CorruptData x.at)) (Ok x)))))
    one true p = short (ltb-true _ _ p)
    one false p = two (eqb x.version 255) refl (ltb-false _ _ p)

-- the cases exclude one another: what the tests say is what stands there
pub stands_is : (left : ℕ) (x : Record) (s : Result Record Stop) → Stands left x s → met_of left x ≡ s
unfolding met_of
stands_is left x s (short l) = rw (lt-ltb left 15 l)
stands_is left x s (free l e) = simp (le-ltb left 15 l, e)
stands_is left x s (version l n m) = simp (le-ltb left 15 l, ne_eqb x.version 255 n, ne_eqb x.version 1 m)
stands_is left x s (corrupt l e f) = go (ltb x.len 15) refl
  where
    go : (b : Bool) → ltb x.len 15 ≡ b → met_of left x ≡ Err (Bad CorruptData x.at)
    go true p = simp (le-ltb left 15 l, e, p)
    go false p = simp (le-ltb left 15 l, e, p, lt-ltb left x.len (f (ltb-false _ _ p)))
stands_is left x s (sound l e f g) = simp (le-ltb left 15 l, e, le-ltb x.len 15 f, le-ltb left x.len g)

-- What a record that is found says, and what a stop says.
pub record Found (left : ℕ) (x y : Record) : Type 0 where
  pub space : 15 ≤ left
  pub version_is : x.version ≡ 1
  pub least : 15 ≤ x.len
  pub fits : x.len ≤ left
  pub same : x ≡ y

pub found : (left : ℕ) (x y : Record) → met_of left x ≡ Ok y → Found left x y
found left x y h = go (met_of left x) (stands left x) h
  where
    go : (s : Result Record Stop) → Stands left x s → s ≡ Ok y → Found left x y
    go s (short l) q = absurd (let z : ◌≡◌ {A = ℕ} 0 1 = cc in omega arith)
    go s (free l e) q = absurd (let z : ◌≡◌ {A = ℕ} 0 1 = cc in omega arith)
    go s (version l n m) q = absurd (let z : ◌≡◌ {A = ℕ} 0 1 = cc in omega arith)
    go s (corrupt l e f) q = absurd (let z : ◌≡◌ {A = ℕ} 0 1 = cc in omega arith)
    go s (sound l e f g) q = record { space = l; version_is = e; least = f; fits = g; same = cc }

pub is_found : (left : ℕ) (x y : Record) → Found left x y → met_of left x ≡ Ok y
is_found left x y f = stands_is left x (Ok x) (sound f.space f.version_is f.least f.fits) ∙ ap Ok f.same

pub stop_place : (left : ℕ) (x : Record) (s : Stop) → met_of left x ≡ Err s → x.at ≡ place_of s
stop_place left x s h = go (met_of left x) (stands left x) h
  where
    go : (t : Result Record Stop) → Stands left x t → t ≡ Err s → x.at ≡ place_of s
    go t (short l) q = ap place_of (let e : End x.at ≡ s = cc in e)
    go t (free l e) q = ap place_of (let e : End x.at ≡ s = cc in e)
    go t (version l n m) q = ap place_of (let e : Bad UnsupportedVersion x.at ≡ s = cc in e)
    go t (corrupt l e f) q = ap place_of (let e : Bad CorruptData x.at ≡ s = cc in e)
    go t (sound l e f g) q = absurd (let z : ◌≡◌ {A = ℕ} 0 1 = cc in omega arith)

-- a record that is found lies in the region, at the place that was looked at
pub found_fits : (r : List ℕ) (o : ℕ) (x : Record) → met_at r o ≡ Ok x → (15 ≤ x.len) × (o + x.len ≤ length r)
found_fits r o x q =
    let f = found (length r - o) (record_at r o) x q in
    let l : x.len ≡ length_at r o = ap (λ (y : Record). y.len) (sym f.same) in
    omega arith

pub found_at : (r : List ℕ) (o : ℕ) (x : Record) → met_at r o ≡ Ok x → o ≡ x.at
found_at r o x h = ap (λ (y : Record). y.at) (found _ _ _ h).same

pub end_short : (r : List ℕ) (o : ℕ) → length r - o < 15 → met_at r o ≡ Err (End o)
end_short r o h = stands_is _ _ _ (short h)

-- The walk, a step at a time.

in_stop : (n : ℕ) (r : List ℕ) (o : ℕ) (s : Stop) → met_at r o ≡ Err s → walk_in (suc n) r o ≡ stopped s
unfolding walk_in
in_stop n r o s h = rw (h, walk_in)

in_found : (n : ℕ) (r : List ℕ) (o : ℕ) (x : Record) → met_at r o ≡ Ok x → walk_in (suc n) r o ≡ passed x (walk_in n r (o + x.len))
unfolding walk_in
in_found n r o x h = rw (h, walk_in)

in_end : (n : ℕ) (r : List ℕ) (o : ℕ) → length r - o ≤ 0 → walk_in n r o ≡ stopped (End o)
unfolding walk_in
in_end zero r o h = refl
in_end (suc n) r o h = in_stop n r o (End o) (end_short r o (omega arith))

-- as many steps as bytes left are enough
enough : (r : List ℕ) (n m o : ℕ) → length r - o ≤ n → length r - o ≤ m → walk_in n r o ≡ walk_in m r o
enough r zero m o h k = in_end zero r o h ∙ sym (in_end m r o h)
enough r (suc n) zero o h k = in_end (suc n) r o k ∙ sym (in_end zero r o k)
enough r (suc n) (suc m) o h k = go (enough r n m) (met_at r o) refl
  where
    go : ((p : ℕ) → length r - p ≤ n → length r - p ≤ m → walk_in n r p ≡ walk_in m r p) → (s : Result Record Stop) → met_at r o ≡ s → walk_in (suc n) r o ≡ walk_in (suc m) r o
    go ih (Err s) q = in_stop n r o s q ∙ sym (in_stop m r o s q)
    go ih (Ok x) q =
        let f = found_fits r o x q in
        in_found n r o x q ∙ ap (passed x) (ih (o + x.len) (omega arith) (omega arith)) ∙ sym (in_found m r o x q)

pub walk_stop : (r : List ℕ) (o : ℕ) (s : Stop) → met_at r o ≡ Err s → walk_from r o ≡ stopped s
unfolding walk_from
walk_stop r o s h = enough r (length r - o) (suc (length r - o)) o (omega arith) (omega arith) ∙ in_stop (length r - o) r o s h

pub walk_found : (r : List ℕ) (o : ℕ) (x : Record) → met_at r o ≡ Ok x → walk_from r o ≡ passed x (walk_from r (o + x.len))
unfolding walk_from
walk_found r o x h =
    enough r (length r - o) (suc (length r - o)) o (omega arith) (omega arith)
    ∙ in_found (length r - o) r o x h
    ∙ ap (passed x) (enough r (length r - o) (length r - (o + x.len)) (o + x.len) (omega arith) (omega arith))
