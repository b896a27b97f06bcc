-- Refusals 1, 2 and 3: which of them a call is given before anything is read, and that each hands the image back.
-- Assumes nothing.
use Prim.Native.Nat.{ℕ, ◌-◌, ◌^◌, ◌≤◌, ◌<◌}
use native.Mathlib.Omega.{arith}
use mathlib.Core.Path.{◌≡◌, refl, sym, ◌∙◌, ap, subst}
use mathlib.Core.Bool.{Bool, true, false, not, cond, ◌&&◌}
use mathlib.Core.List.{List, []}
use mathlib.Core.Option.{Option, none, some}
use mathlib.Core.Logic.{inl, inr, ⊎_elim}
use lib.Dec.{ltb, eqb}
use lib.ListN.{length}
use borrow.Author.Tests.{ltb-true, ltb-false, eqb-true, eqb-false}
use Rattle.std.specs.Prelude.{Result, Ok, Err}
use Rattle.chip.specs.Geometry.{Fits, geometry, numbers}
use Rattle.chip.proofs.Image.{geometry_fits, fits_geometry}
use Rattle.probe.specs.Probe.{allowed_key}
use Rattle.format.specs.Layout.{edition, largest_value}
use Rattle.refusals.specs.declared.Refusal.{Refusal}
use Rattle.refusals.specs.Refusals.{first_refusal}
use Rattle.lookup.specs.Turns.{hit_after, hit_of}
use Rattle.plans.specs.Answers.{starts_anew}
use Rattle.plans.specs.Writes.{applied}
use Rattle.store.specs.Write.{Done, refused, append_after, append_of, remove_by, remove_of, initialise_by, initialise_of}
use Rattle.store.specs.Read.{got_by, get_of}
use Rattle.store.specs.Collect.{collect_in, collect_of}
use Rattle.store.specs.Call.{Call, get, append, remove, collect, initialise, key_of, value_of, outcome}
use Rattle.pinned.specs.When.{Barred, BadKey, Reads}

-- a test, and what it says
abbrev pub Says : Bool → Type 0 → Type 0
Says true P = P
Says false P = P → ⊥

pub says_true : {P : Type 0} (b : Bool) → Says b P → P → b ≡ true
says_true true h p = refl
says_true false h p = absurd (h p)

pub says_false : {P : Type 0} (b : Bool) → Says b P → (P → ⊥) → b ≡ false
says_false true h p = absurd (p h)
says_false false h p = refl

geometry_says : (image : List ℕ) (s n : ℕ) → Says (geometry image s n) (Fits image s n)
geometry_says image s n = go (geometry image s n) refl
  where
    go : (b : Bool) → geometry image s n ≡ b → Says b (Fits image s n)
    go true e = geometry_fits e
    go false e = λ f. let z : true ≡ false = sym (fits_geometry f) ∙ e in let y : ◌≡◌ {A = ℕ} 0 1 = cc in omega arith

pub no_geometry : (image : List ℕ) (s n : ℕ) → (Fits image s n → ⊥) → geometry image s n ≡ false
no_geometry image s n h = says_false (geometry image s n) (geometry_says image s n) h

barred_says : (key : ℕ) → Says (not (allowed_key key)) (Barred key)
barred_says key = go (eqb key 0) refl (eqb key (2 ^ 64 - 1)) refl
  where
    go : (a : Bool) → eqb key 0 ≡ a → (b : Bool) → eqb key (2 ^ 64 - 1) ≡ b → Says (not (not a && not b)) (Barred key)
    go true e b f = inl (eqb-true key 0 e)
    go false e true f = inr (eqb-true key (2 ^ 64 - 1) f)
    go false e false f = ⊎_elim (eqb-false key 0 e) (eqb-false key (2 ^ 64 - 1) f)

-- whether a call's key is refused
abbrev pub barred : Option ℕ → Bool
barred none = false
barred (some key) = not (allowed_key key)

pub key_says : (k : Option ℕ) → Says (barred k) ((key : ℕ) × (k ≡ some key) × Barred key)
key_says none = λ (key, e, b). let z : ◌≡◌ {A = ℕ} 0 1 = cc in omega arith
key_says (some key) = go (not (allowed_key key)) (barred_says key)
  where
    go : (b : Bool) → Says b (Barred key) → Says b ((k : ℕ) × (some key ≡ some k) × Barred k)
    go true h = (key, refl, h)
    go false h = λ (k, e, b). let same : k ≡ key = cc in h (subst Barred same b)

-- collect has no key
pub keyless : BadKey collect → ⊥
keyless = key_says none

pub size_says : (m : ℕ) → Says (ltb (largest_value edition) m) (largest_value edition < m)
size_says m = go (ltb (largest_value edition) m) refl
  where
    go : (b : Bool) → ltb (largest_value edition) m ≡ b → Says b (largest_value edition < m)
    go true e = ltb-true _ m e
    go false e = λ l. let g : m ≤ largest_value edition = ltb-false _ m e in omega arith

-- What a call is given before it reads.
abbrev pub early : Call → List ℕ → ℕ → ℕ → Result (Unit {0}) Refusal
early c image s n =
    cond (not (geometry image s n)) (Err Refusal.BadGeometry)
    (cond (barred (key_of c)) (Err Refusal.BadKey)
    (cond (ltb (largest_value edition) (length (value_of c))) (Err Refusal.ObjectTooLarge)
    (Ok tt)))

-- The three tests, and what each says.
pub data Early (image : List ℕ) (s n : ℕ) (c : Call) : Result (Unit {0}) Refusal → Type 0 where
  geometry_bad : (Fits image s n → ⊥) → Early image s n c (Err Refusal.BadGeometry)
  key_bad : Fits image s n → BadKey c → Early image s n c (Err Refusal.BadKey)
  too_large : Fits image s n → (BadKey c → ⊥) → largest_value edition < length (value_of c) → Early image s n c (Err Refusal.ObjectTooLarge)
  fine : Reads image s n c → Early image s n c (Ok tt)

pub early_view : (image : List ℕ) (s n : ℕ) (c : Call) → Early image s n c (early c image s n)
early_view image s n c = go (geometry image s n) (geometry_says image s n) (barred (key_of c)) (key_says (key_of c)) (ltb (largest_value edition) (length (value_of c))) (size_says (length (value_of c)))
  where
    go : (a : Bool) → Says a (Fits image s n) → (b : Bool) → Says b (BadKey c) → (d : Bool) → Says d (largest_value edition < length (value_of c))
        → Early image s n c (cond (not a) (Err Refusal.BadGeometry) (cond b (Err Refusal.BadKey) (cond d (Err Refusal.ObjectTooLarge) (Ok tt))))
    go false p b q d t = geometry_bad p
    go true p true q d t = key_bad p q
    go true p false q true t = too_large p q t
    go true p false q false t = fine (record { fits = p; key_good = q; not_large = omega arith })

pub early_is : {image : List ℕ} {s n : ℕ} {c : Call} {check : Result (Unit {0}) Refusal} → Early image s n c check → early c image s n ≡ check
early_is {image} {s} {n} {c} (geometry_bad p) = rw (no_geometry image s n p)
early_is {image} {s} {n} {c} (key_bad p q) = rw (fits_geometry p, says_true (barred (key_of c)) (key_says (key_of c)) q)
early_is {image} {s} {n} {c} (too_large p q t) = rw (fits_geometry p, says_false (barred (key_of c)) (key_says (key_of c)) q, says_true (ltb (largest_value edition) (length (value_of c))) (size_says (length (value_of c))) t)
early_is {image} {s} {n} {c} (fine r) = rw (fits_geometry r.fits, says_false (barred (key_of c)) (key_says (key_of c)) r.key_good, says_false (ltb (largest_value edition) (length (value_of c))) (size_says (length (value_of c))) (λ t. let l = r.not_large in omega arith))

-- A call by what it is given before it reads.
abbrev pub after : Call → List ℕ → ℕ → ℕ → Result (Unit {0}) Refusal → Done
after (get key buffer) image s n check = record { answer = (got_by s image buffer (hit_after image s n key check)).answer; image = image }
after (append key value) image s n check = append_after image s n key value check
after (remove how key) image s n check = remove_by how s image key (hit_after image s n key check)
after collect image s n (Err w) = refused w image
after collect image s n (Ok u) = collect_in s image 0 (numbers 0 n)
after (initialise key) image s n check = initialise_by image s n key (got_by s image [] (hit_after image s n key check)).answer

outcome_after : (image : List ℕ) (s n : ℕ) (c : Call) → outcome c image s n ≡ after c image s n (early c image s n)
unfolding get_of append_of remove_of collect_of initialise_of hit_of first_refusal
outcome_after image s n (get key buffer) = refl
outcome_after image s n (append key value) = refl
outcome_after image s n (remove how key) = refl
outcome_after image s n collect = go (geometry image s n)
  where
    go : (b : Bool) → cond b (collect_in s image 0 (numbers 0 n)) (refused Refusal.BadGeometry image)
        ≡ after collect image s n (cond (not b) (Err Refusal.BadGeometry) (Ok tt))
    go true = refl
    go false = refl
outcome_after image s n (initialise key) = refl

pub outcome_is : {image : List ℕ} {s n : ℕ} {c : Call} {check : Result (Unit {0}) Refusal} → Early image s n c check → outcome c image s n ≡ after c image s n check
outcome_is {image} {s} {n} {c} e = outcome_after image s n c ∙ ap (after c image s n) (early_is e)

-- Each of the three hands the image back, initialise's too.
handed_back : (image : List ℕ) (s n : ℕ) (c : Call) (w : Refusal) → starts_anew (Err w) ≡ false → after c image s n (Err w) ≡ refused w image
unfolding applied
handed_back image s n (get key buffer) w h = refl
handed_back image s n (append key value) w h = refl
handed_back image s n (remove how key) w h = refl
handed_back image s n collect w h = refl
handed_back image s n (initialise key) w h = rw h

kept : {image : List ℕ} {s n : ℕ} {c : Call} {w : Refusal} → Early image s n c (Err w) → starts_anew (Err w) ≡ false
kept (geometry_bad p) = refl
kept (key_bad p q) = refl
kept (too_large p q t) = refl

pub early_refuses : {image : List ℕ} {s n : ℕ} {c : Call} {w : Refusal} → Early image s n c (Err w) → outcome c image s n ≡ refused w image
early_refuses {image} {s} {n} {c} {w} e = outcome_is e ∙ handed_back image s n c w (kept e)
