-- The value that is lent is the one that get copies.
-- Assumes nothing.
use Prim.Native.Nat.{ℕ, ◌+◌, ◌-◌, ◌*◌, ◌≤◌, ◌<◌}
use native.Mathlib.Omega.{arith}
use mathlib.Core.Path.{◌≡◌, refl, sym, ◌∙◌, ap}
use mathlib.Core.Bool.{Bool, true, false, not, cond}
use mathlib.Core.Logic.{◌⊎◌, inl, inr}
use mathlib.Core.List.{List, [], ◌∷◌, ◌++◌}
use lib.Dec.{ltb}
use lib.ListN.{length, take, drop, length-drop}
use lib.Seq.{take-take, drop-drop, length-take-le}
use borrow.Author.Tests.{ltb-true, le-ltb}
use Rattle.std.specs.Prelude.{Result, Ok, Err, None}
use Rattle.chip.specs.Geometry.{geometry, region_of}
use Rattle.probe.specs.Probe.{allowed_key, probes}
use Rattle.chip.proofs.Lists.{drop-take}
use Rattle.format.specs.declared.Record.{Record}
use Rattle.format.specs.declared.Fault.{Fault}
use Rattle.format.specs.declared.Fault.TheVariants.{UnsupportedVersion, CorruptData}
use Rattle.region.specs.Walk.{value_length, value_in}
use Rattle.refusals.specs.declared.Refusal.{Refusal}
use Rattle.refusals.specs.Refusals.{value_of as carried, refusal_of, first_refusal}
use Rattle.lookup.specs.declared.Looked.{Looked}
use Rattle.lookup.specs.declared.Hit.{Hit}
use Rattle.lookup.specs.Turns.{lookup_in, hit_by, hit_after, hit_of, hits}
use Rattle.lookup.proofs.Ends.{held}
use Rattle.plans.specs.declared.Success.TheVariants.{Complete, Written, Freed}
use Rattle.plans.specs.Answers.{Answer}
use Rattle.values.specs.Values.{read_answer}
use Rattle.store.specs.Read.{got_by, get_of}
use Rattle.entries.specs.Entries.{sound_in}
use Rattle.lending.specs.Lending.{located_by, located_of, answer_of, place_of, companion_of, part_at, value_of}
use Rattle.lending.proofs.Lies.{Lent, lent}

-- a record's value, where it lies in the image
value_place : (image : List ℕ) (s r : ℕ) (x : Record) → 15 ≤ x.len → x.at + x.len ≤ s
    → value_in (region_of s image r) x ≡ take (value_length x) (drop (r * s + x.at + 11) image)
value_place image s r x least fits =
    let region = region_of s image r in
    let v = value_length x in
    ap (take v) (drop-take 11 x.len (drop x.at region) ∙ ap (take (x.len - 11)) (drop-drop 11 x.at region))
    ∙ take-take v (x.len - 11) (drop (x.at + 11) region) (omega arith)
    ∙ ap (take v) (drop-take (x.at + 11) s (drop (r * s) image))
    ∙ take-take v (s - (x.at + 11)) (drop (x.at + 11) (drop (r * s) image)) (omega arith)
    ∙ ap (take v) (drop-drop (x.at + 11) (r * s) image)
    ∙ ap (λ k. take v (drop k image)) (let e : r * s + (x.at + 11) ≡ r * s + x.at + 11 = omega arith in e)

module _ (image : List ℕ) (s n key : ℕ) {len : ℕ} (q : companion_of image s n key ≡ Ok (Complete len)) where
  l : Lent image s n key len
  l = lent image s n key len q

  pub lent_is : value_of image s n key ≡ take len (drop (place_of (located_of image s n key)) image)
  lent_is = ap (part_at image (place_of (located_of image s n key))) q

  -- it is the value of the record that get finds
  lent_value : value_of image s n key ≡ value_in (region_of s image l.region) l.rec
  lent_value =
      lent_is
      ∙ (λ i. take (sym l.len_is i) (drop (l.place_is i) image))
      ∙ sym (value_place image s l.region l.rec l.held.found.least l.held.found.fits)

  pub lent_length : length (value_of image s n key) ≡ len
  lent_length = ap length lent_is ∙ length-take-le len (drop (place_of (located_of image s n key)) image) (omega (arith, l.inside, length-drop (place_of (located_of image s n key)) image))

  -- it is what get copies into a buffer long enough
  pub lent_got : (buffer : List ℕ) → len ≤ length buffer → get_of image s n key buffer ≡ record { answer = Ok (Complete len); buffer = value_of image s n key ++ drop len buffer }
  unfolding get_of
  lent_got buffer h =
      let e : value_length l.rec ≤ length buffer = omega (arith, l.len_is, h) in
      rw (l.hit, le-ltb (length buffer) (value_length l.rec) e, l.right)
      (λ i. record { answer = Ok (Complete (l.len_is i)); buffer = sym lent_value i ++ drop (l.len_is i) buffer })

-- What get answers is what the companion does, but for a buffer that is too short.
pub got_answer : (image : List ℕ) (s n key : ℕ) (buffer : List ℕ)
    → ((get_of image s n key buffer).answer ≡ companion_of image s n key) ⊎ ((len : ℕ) × (((get_of image s n key buffer).answer ≡ Err (Refusal.BufferTooSmall len)) × (length buffer < len) × (len ≤ 4080)))
unfolding get_of located_of
got_answer image s n key buffer = go (hit_of image s n key) refl
  where
    short : (r : ℕ) (x : Record) → x.len ≤ 4095 → (b : Bool) → ltb (length buffer) (value_length x) ≡ b
        → (read_answer (region_of s image r) x (length buffer) ≡ answer_of (located_by s image (hits r x))) ⊎ ((len : ℕ) × ((read_answer (region_of s image r) x (length buffer) ≡ Err (Refusal.BufferTooSmall len)) × (length buffer < len) × (len ≤ 4080)))
    short r x m true t = inr (value_length x, (rw t, ltb-true _ _ t, omega arith))
    short r x m false t = inl (rw t (by_sum (sound_in (region_of s image r) x) refl))
      where
        by_sum : (b : Bool) → sound_in (region_of s image r) x ≡ b → cond (sound_in (region_of s image r) x) (Ok (Complete (value_length x))) (Err Refusal.InvalidCheckSum) ≡ answer_of (located_by s image (hits r x))
        by_sum true e = rw e
        by_sum false e = rw e

    go : (hit : Result Hit Refusal) → hit_of image s n key ≡ hit
        → ((got_by s image buffer (hit_of image s n key)).answer ≡ answer_of (located_by s image (hit_of image s n key))) ⊎ ((len : ℕ) × (((got_by s image buffer (hit_of image s n key)).answer ≡ Err (Refusal.BufferTooSmall len)) × (length buffer < len) × (len ≤ 4080)))
    go (Err w) e = inl (rw e)
    go (Ok h) e = rw e (short h.region h.rec (held image s n key h.region h.rec e).found.short (ltb (length buffer) (value_length h.rec)) refl)

-- No lookup ends with BufferTooSmall, the one refusal that carries something. Nothing is odd about Complete, and about a refusal that carries
-- nothing.
abbrev odd : Answer → List ℕ
odd (Ok (Complete len)) = []
odd (Ok Written) = 0 ∷ []
odd (Ok (Freed bytes)) = 0 ∷ []
odd (Err w) = carried w

not_odd_fault : (f : Fault) → odd (Err (refusal_of f)) ≡ []
not_odd_fault UnsupportedVersion = refl
not_odd_fault CorruptData = refl

not_odd_looked : (s : ℕ) (image : List ℕ) (looked : Looked) → odd (answer_of (located_by s image (hit_by looked))) ≡ []
not_odd_looked s image (Looked.Live r x) = go (sound_in (region_of s image r) x) refl
  where
    go : (b : Bool) → sound_in (region_of s image r) x ≡ b → odd (answer_of (located_by s image (hits r x))) ≡ []
    go true e = rw e
    go false e = rw e
not_odd_looked s image (Looked.Bad f p) = not_odd_fault f
not_odd_looked s image (Looked.Through seen) = refl

not_odd_after : (image : List ℕ) (s n key : ℕ) (a b c : Bool)
    → odd (answer_of (located_by s image (hit_after image s n key (cond (not a) (Err Refusal.BadGeometry) (cond (not b) (Err Refusal.BadKey) (cond c (Err Refusal.ObjectTooLarge) (Ok (tt {0})))))))) ≡ []
not_odd_after image s n key false b c = refl
not_odd_after image s n key true false c = refl
not_odd_after image s n key true true true = refl
not_odd_after image s n key true true false = not_odd_looked s image (lookup_in key None s image (probes key n))

companion_not_odd : (image : List ℕ) (s n key : ℕ) → odd (companion_of image s n key) ≡ []
unfolding located_of hit_of first_refusal
companion_not_odd image s n key = not_odd_after image s n key (geometry image s n) (allowed_key key) (ltb 4079 0)

-- The companion completes or refuses, and what it refuses by is no BufferTooSmall.
pub completes_or_refuses : (image : List ℕ) (s n key : ℕ)
    → ((len : ℕ) × (companion_of image s n key ≡ Ok (Complete len))) ⊎ ((w : Refusal) × (companion_of image s n key ≡ Err w) × ((len : ℕ) → w ≡ Refusal.BufferTooSmall len → ⊥))
completes_or_refuses image s n key = go (companion_of image s n key) refl (companion_not_odd image s n key)
  where
    short : (w : Refusal) → carried w ≡ [] → (len : ℕ) → w ≡ Refusal.BufferTooSmall len → ⊥
    short w p len e = let z : ◌≡◌ {A = ℕ} 0 1 = sym (ap length p) ∙ ap (λ v. length (carried v)) e in omega arith

    go : (a : Answer) → companion_of image s n key ≡ a → odd a ≡ []
        → ((len : ℕ) × (companion_of image s n key ≡ Ok (Complete len))) ⊎ ((w : Refusal) × (companion_of image s n key ≡ Err w) × ((len : ℕ) → w ≡ Refusal.BufferTooSmall len → ⊥))
    go (Ok (Complete len)) e p = inl (len, e)
    go (Ok Written) e p = absurd (let z : ◌≡◌ {A = ℕ} 1 0 = ap length p in omega arith)
    go (Ok (Freed bytes)) e p = absurd (let z : ◌≡◌ {A = ℕ} 1 0 = ap length p in omega arith)
    go (Err w) e p = inr (w, e, short w p)
