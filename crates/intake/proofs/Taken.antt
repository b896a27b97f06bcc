-- What is taken in: an image that fits its chip, of 65,536 bytes at most. Numbers that are held decide as the numbers do.
-- Assumes nothing.
use Prim.Native.Nat.{ℕ, ◌+◌, ◌-◌, ◌*◌, ◌≤◌, ◌<◌}
use native.Mathlib.Nat.{add-zero, mul-le-mul_left, mul-le-mul_right}
use native.Mathlib.Decide.{dec_le}
use native.Mathlib.Omega.{arith}
use mathlib.Core.Path.{◌≡◌, refl, sym, ◌∙◌, ap}
use mathlib.Core.Bool.{Bool, true, false, cond, ◌&&◌}
use mathlib.Core.Logic.{◌⊎◌, inl, inr, ⊎_elim}
use mathlib.Core.List.{List, [], ◌∷◌}
use lib.Dec.{leb, eqb}
use lib.ListN.{length, get_or, take, drop, get_or-eq_default}
use lib.Seq.{get_or-drop, drop-drop}
use lib.Pointwise.{pointwise}
use Rattle.std.proofs.Common.{length-drop}
use Rattle.std.specs.Prelude.{nat_eq, Option, Some, None}
use borrow.Author.Tests.{leb-true, eqb-true, eq-eqb, ne_eqb}
use Rattle.chip.specs.Geometry.{geometry, Fits}
use Rattle.chip.proofs.Image.{both, geometry_fits}
use Rattle.intake.specs.declared.Chip.{Chip}
use Rattle.intake.specs.Intake.{most_image, number_at, size_in, count_in, image_start, accepted, intake_of}
use Rattle.intake.proofs.Digits.{held, from_place}

-- a test and one more, of which the second is known
and_true : (t u : Bool) → u ≡ true → (t && u) ≡ t
and_true true u e = e
and_true false u e = refl

and_false : (t u : Bool) → u ≡ false → (t && u) ≡ false
and_false true u e = e
and_false false u e = refl

left_false : (t u : Bool) → t ≡ false → (t && u) ≡ false
left_false t u e = rw e

and_assoc : (t u w : Bool) → (t && u && w) ≡ (t && (u && w))
and_assoc true u w = refl
and_assoc false u w = refl

-- The test of an image, with the limit on its bytes.
abbrev pub is_image : List ℕ → ℕ → ℕ → Bool
is_image image s n = leb (n * s) most_image && geometry image s n

pub image_fits : (image : List ℕ) (s n : ℕ) → is_image image s n ≡ true → Fits image s n × (n * s ≤ most_image)
image_fits image s n e = let b = both _ _ e in (geometry_fits b.1, leb-true _ _ b.0)

-- There is a region, and it has a byte: neither number is larger than their product.
pub image_small : (image : List ℕ) (s n : ℕ) → is_image image s n ≡ true → (s ≤ most_image) × (n ≤ most_image)
image_small image s n e =
    let f = image_fits image s n e in
    let h = f.0.shape in
    let p : 1 * s ≤ n * s = mul-le-mul_right s h.n_least in
    let q : n * 1 ≤ n * s = mul-le-mul_left n (omega arith) in
    (omega arith, omega arith)

no_image : (image : List ℕ) (s n : ℕ) → (most_image < s) ⊎ (most_image < n) → is_image image s n ≡ false
no_image image s n d = go (is_image image s n) refl
  where
    go : (t : Bool) → is_image image s n ≡ t → t ≡ false
    go false e = refl
    go true e = let h = image_small image s n e in ⊎_elim (λ (l : most_image < s). absurd (omega arith)) (λ (l : most_image < n). absurd (omega arith)) d

pub image_held : (image : List ℕ) (s n : ℕ) → is_image image (held s) (held n) ≡ is_image image s n
image_held image s n = go (dec_le s most_image) (dec_le n most_image)
  where
    go : Dec (s ≤ most_image) → Dec (n ≤ most_image) → is_image image (held s) (held n) ≡ is_image image s n
    go (yes h) (yes k) =
        let p : held s ≡ s = omega arith in
        let q : held n ≡ n = omega arith in
        λ i. is_image image (p i) (q i)
    go (no h) k = no_image image (held s) (held n) (inl (omega arith)) ∙ sym (no_image image s n (inl (omega arith)))
    go (yes h) (no k) = no_image image (held s) (held n) (inr (omega arith)) ∙ sym (no_image image s n (inr (omega arith)))

-- A byte that is not 0 stands in the input.
pub byte_inside : (input : List ℕ) (o b : ℕ) → get_or input o 0 ≡ b → 0 < b → o < length input
byte_inside input o b e h = go (dec_le (length input) o)
  where
    go : Dec (length input ≤ o) → o < length input
    go (yes l) = let z = get_or-eq_default input 0 l in absurd (omega arith)
    go (no l) = omega arith

-- The code's test of an image: where it fits its chip, its length says the same as the product.

pub image_is : (image : List ℕ) (s n : ℕ) {t : Bool} → t ≡ geometry image s n → t ≡ true → leb (length image) most_image ≡ is_image image s n
image_is image s n p q =
    let g : geometry image s n ≡ true = sym p ∙ q in
    ap (λ (m : ℕ). leb m most_image) (geometry_fits g).size ∙ sym (and_true _ _ g)

pub image_not : (image : List ℕ) (s n : ℕ) {t : Bool} → t ≡ geometry image s n → t ≡ false → t ≡ is_image image s n
image_not image s n p q = q ∙ sym (and_false (leb (n * s) most_image) (geometry image s n) (sym p ∙ q))

-- What the code answers, after each of its tests.

abbrev space_stands : List ℕ → Bool
space_stands input = eqb (get_or input (size_in input).end 0) 32

abbrev feed_stands : List ℕ → Bool
feed_stands input = eqb (get_or input (count_in input).end 0) 10

abbrev image_stands : List ℕ → Bool
image_stands input = is_image (drop (image_start input) input) (size_in input).value (count_in input).value

-- the definition, with the two tests of the image as one
accepted_is : (input : List ℕ) → accepted input ≡ (space_stands input && feed_stands input && image_stands input)
unfolding accepted
accepted_is input =
    and_assoc (space_stands input && feed_stands input) (leb ((count_in input).value * (size_in input).value) most_image) (geometry (drop (image_start input) input) (size_in input).value (count_in input).value)

refuses : (input : List ℕ) → (space_stands input && feed_stands input && image_stands input) ≡ false → None ≡ intake_of input
unfolding intake_of
refuses input e = rw (accepted_is input ∙ e)

takes : (input : List ℕ) → (space_stands input && feed_stands input && image_stands input) ≡ true → Some (record { s = (size_in input).value; n = (count_in input).value; start = image_start input }) ≡ intake_of input
unfolding intake_of
takes input e = rw (accepted_is input ∙ e)

-- A text that stands behind a place begins with a byte where that byte stands there.
begins_with : (text : List ℕ) (c : ℕ) → 0 < c → pointwise nat_eq (take 1 text) (c ∷ []) ≡ eqb (get_or text 0 0) c
begins_with [] c h = sym (ne_eqb 0 c (λ e. absurd (omega arith)))
begins_with (b ∷ l) c h = and_true (eqb b c) true refl

stands_at : (input text : List ℕ) (o c : ℕ) → 0 < c → text ≡ drop o input → pointwise nat_eq (take 1 text) (c ∷ []) ≡ eqb (get_or input o 0) c
stands_at input text o c h p =
    begins_with text c h
    ∙ ap (λ (x : List ℕ). eqb (get_or x 0 0) c) p
    ∙ ap (λ (b : ℕ). eqb b c) (get_or-drop o input 0 0 ∙ ap (λ (m : ℕ). get_or input m 0) (add-zero o))

module _ (input : List ℕ) {size_behind : List ℕ} (p : size_behind ≡ drop (size_in input).end input) where
  space_is : pointwise nat_eq (take 1 size_behind) (32 ∷ []) ≡ space_stands input
  space_is = stands_at input size_behind (size_in input).end 32 (omega arith) p

  pub no_space : pointwise nat_eq (take 1 size_behind) (32 ∷ []) ≡ false → None ≡ intake_of input
  no_space d =
      refuses input (left_false (space_stands input && feed_stands input) (image_stands input) (left_false (space_stands input) (feed_stands input) (sym space_is ∙ d)))

  module _ {text count_behind : List ℕ} (b : text ≡ drop 1 size_behind) (q : count_behind ≡ drop (number_at text 0).end text) where
    text_is : text ≡ drop ((size_in input).end + 1) input
    text_is = b ∙ ap (drop 1) p ∙ drop-drop 1 (size_in input).end input

    count_is : count_behind ≡ drop (count_in input).end input
    count_is =
        q ∙ ap (λ (x : List ℕ). drop (number_at x 0).end x) text_is ∙ (from_place input ((size_in input).end + 1)).1

    feed_is : pointwise nat_eq (take 1 count_behind) (10 ∷ []) ≡ feed_stands input
    feed_is = stands_at input count_behind (count_in input).end 10 (omega arith) count_is

    pub no_feed : pointwise nat_eq (take 1 count_behind) (10 ∷ []) ≡ false → None ≡ intake_of input
    no_feed d =
        refuses input (left_false (space_stands input && feed_stands input) (image_stands input) (and_false (space_stands input) (feed_stands input) (sym feed_is ∙ d)))

    module _ {image : List ℕ} (f : image ≡ drop 1 count_behind) {s n : ℕ} (u : s ≡ held (size_in input).value) (v : n ≡ held (number_at text 0).value) {t : Bool} (test : t ≡ is_image image s n) where
      image_behind : image ≡ drop (image_start input) input
      image_behind = f ∙ ap (drop 1) count_is ∙ drop-drop 1 (count_in input).end input

      count_held : n ≡ held (count_in input).value
      count_held = v ∙ ap (λ (x : List ℕ). held (number_at x 0).value) text_is ∙ ap held (from_place input ((size_in input).end + 1)).0

      -- What is tested with the numbers that are held is what is tested with the numbers.
      image_same : t ≡ image_stands input
      image_same =
          test
          ∙ (λ i. is_image (image_behind i) (u i) (count_held i))
          ∙ image_held (drop (image_start input) input) (size_in input).value (count_in input).value

      pub not_image : t ≡ false → None ≡ intake_of input
      not_image d = refuses input (and_false (space_stands input && feed_stands input) (image_stands input) (sym image_same ∙ d))

      pub a_chip : pointwise nat_eq (take 1 size_behind) (32 ∷ []) ≡ true → pointwise nat_eq (take 1 count_behind) (10 ∷ []) ≡ true → t ≡ true
          → Some (record { s = s; n = n; start = length input - length image }) ≡ intake_of input
      a_chip k l d =
          let i : image_stands input ≡ true = sym image_same ∙ d in
          let h = image_small (drop (image_start input) input) (size_in input).value (count_in input).value i in
          let size_small : (size_in input).value ≤ most_image = h.0 in
          let count_small : (count_in input).value ≤ most_image = h.1 in
          let w : s ≡ (size_in input).value = omega (arith, u) in
          let x : n ≡ (count_in input).value = omega (arith, count_held) in
          let sp : space_stands input ≡ true = sym space_is ∙ k in
          let fe : feed_stands input ≡ true = sym feed_is ∙ l in
          let inside = byte_inside input (count_in input).end 10 (eqb-true _ 10 fe) (omega arith) in
          let y : length input - length image ≡ image_start input =
          omega (arith, ap length image_behind, length-drop (image_start input) input, inside) in
          (λ j. Some (record { s = w j; n = x j; start = y j })) ∙ takes input (λ j. sp j && fe j && i j)

-- What is taken in, as facts: what stands in the first line, and that the image is one.
pub record Accepted (input : List ℕ) (s n start : ℕ) : Type 0 where
  pub size_is : (size_in input).value ≡ s
  pub count_is : (count_in input).value ≡ n
  pub start_is : image_start input ≡ start
  pub space_is : get_or input (size_in input).end 0 ≡ 32
  pub feed_is : get_or input (count_in input).end 0 ≡ 10
  pub image_is_one : is_image (drop start input) s n ≡ true

pub accepted_facts : (input : List ℕ) {s n start : ℕ} → intake_of input ≡ Some (record { s = s; n = n; start = start }) → Accepted input s n start
unfolding intake_of
accepted_facts input {s} {n} {start} e = go (accepted input) refl e
  where
    whole : Bool → Option Chip
    whole t = cond t (Some (record { s = (size_in input).value; n = (count_in input).value; start = image_start input })) None

    go : (t : Bool) → accepted input ≡ t → whole t ≡ Some (record { s = s; n = n; start = start }) → Accepted input s n start
    go false a k = let z : ◌≡◌ {A = ℕ} 0 1 = cc in absurd (omega arith)
    go true a k =
        let chip : ◌≡◌ {A = Chip} (record { s = (size_in input).value; n = (count_in input).value; start = image_start input }) (record { s = s; n = n; start = start }) = cc in
        let p : (size_in input).value ≡ s = ap (λ (x : Chip). x.s) chip in
        let q : (count_in input).value ≡ n = ap (λ (x : Chip). x.n) chip in
        let r : image_start input ≡ start = ap (λ (x : Chip). x.start) chip in
        let x = both (space_stands input && feed_stands input) (image_stands input) (sym (accepted_is input) ∙ a) in
        let y = both (space_stands input) (feed_stands input) x.0 in
        record {
          size_is = p;
          count_is = q;
          start_is = r;
          space_is = eqb-true _ 32 y.0;
          feed_is = eqb-true _ 10 y.1;
          image_is_one = (λ i. is_image (drop (sym r i) input) (sym p i) (sym q i)) ∙ x.1;
        }

pub facts_accepted : (input : List ℕ) {s n start : ℕ} → Accepted input s n start → intake_of input ≡ Some (record { s = s; n = n; start = start })
facts_accepted input {s} {n} {start} a =
    let p = a.size_is in
    let q = a.count_is in
    let r = a.start_is in
    let x : space_stands input ≡ true = eq-eqb _ 32 a.space_is in
    let y : feed_stands input ≡ true = eq-eqb _ 10 a.feed_is in
    let z : image_stands input ≡ true = (λ i. is_image (drop (r i) input) (p i) (q i)) ∙ a.image_is_one in
    sym (takes input (λ i. x i && y i && z i)) ∙ (λ i. Some (record { s = p i; n = q i; start = r i }))

-- Whoever is answered so has an image of N regions of S bytes from that place on, of 65,536 bytes at most, and the place lies in the input.
pub taken : (input : List ℕ) {s n start : ℕ} → intake_of input ≡ Some (record { s = s; n = n; start = start }) → Fits (drop start input) s n × (n * s ≤ most_image) × (start ≤ length input)
taken input {s} {n} {start} e =
    let a = accepted_facts input e in
    let f = image_fits (drop start input) s n a.image_is_one in
    let i = byte_inside input (count_in input).end 10 a.feed_is (omega arith) in
    (f.0, f.1, omega (arith, a.start_is))
