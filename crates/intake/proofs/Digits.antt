-- Reading a number: a value that is held gives the same, and the place behind the digits is the same whatever the value.
-- Assumes nothing.
use Prim.Native.Nat.{ℕ, ◌+◌, ◌-◌, ◌*◌, ◌≤◌, min}
use native.Mathlib.Nat.{add-zero}
use native.Mathlib.Numerals.{one-add}
use native.Mathlib.Omega.{arith}
use mathlib.Core.Path.{◌≡◌, refl, sym, ◌∙◌, ap}
use mathlib.Core.Bool.{Bool, true, false, cond}
use mathlib.Core.List.{List, [], ◌∷◌}
use lib.ListN.{length, get_or, drop}
use lib.Seq.{get_or-drop, drop-drop}
use Rattle.std.specs.Prelude.{slice_get, Some, None}
use borrow.Author.Tests.{leb-true}
use Rattle.chip.proofs.Image.{both}
use Rattle.intake.specs.Intake.{most_image, is_digit, leads, Number, number_in, number_at}

pub digit_range : (b : ℕ) → is_digit b ≡ true → (48 ≤ b) × (b ≤ 57)
digit_range b e = let t = both _ _ e in (leb-true _ _ t.0, leb-true _ _ t.1)

-- What the code holds of a number.
abbrev pub held : ℕ → ℕ
held v = min v (most_image + 1)

held_step : (v w d : ℕ) → held v ≡ held w → held (v * 10 + d) ≡ held (w * 10 + d)
held_step v w d e = omega arith

-- What is the same in both cases of a test
cond_same : {A B : Type 0} (f : A → B) (t : Bool) {x y x' y' : A} → f x ≡ f x' → f y ≡ f y' → f (cond t x y) ≡ f (cond t x' y')
cond_same f true p q = p
cond_same f false p q = q

pub number_held : (l : List ℕ) (v w o : ℕ) → held v ≡ held w → held (number_in l v o).value ≡ held (number_in l w o).value
unfolding number_in
number_held [] v w o e = e
number_held (b ∷ l) v w o e =
    cond_same (λ (x : Number). held x.value) (is_digit b) (number_held l (v * 10 + (b - 48)) (w * 10 + (b - 48)) (o + 1) (held_step v w (b - 48) e)) e

-- The place where a text stands adds to the number's end, and to nothing else; nor does the value so far alter the end.
pub number_value : (l : List ℕ) (v o p : ℕ) → (number_in l v o).value ≡ (number_in l v p).value
unfolding number_in
number_value [] v o p = refl
number_value (b ∷ l) v o p =
    cond_same (λ (x : Number). x.value) (is_digit b) (number_value l (v * 10 + (b - 48)) (o + 1) (p + 1)) refl

pub number_end : (l : List ℕ) (v w o k : ℕ) → (number_in l v (k + o)).end ≡ k + (number_in l w o).end
unfolding number_in
number_end [] v w o k = refl
number_end (b ∷ l) v w o k = go (is_digit b) (number_end l (v * 10 + (b - 48)) (w * 10 + (b - 48)) (o + 1) k)
  where
    go : (t : Bool) → (number_in l (v * 10 + (b - 48)) (k + (o + 1))).end ≡ k + (number_in l (w * 10 + (b - 48)) (o + 1)).end
        → (cond t (number_in l (v * 10 + (b - 48)) (k + o + 1)) (record { value = v; end = k + o })).end
        ≡ k + (cond t (number_in l (w * 10 + (b - 48)) (o + 1)) (record { value = w; end = o })).end
    go true e = let a : k + o + 1 ≡ k + (o + 1) = omega arith in ap (λ (m : ℕ). (number_in l (v * 10 + (b - 48)) m).end) a ∙ e
    go false e = refl

-- What stands behind the digits.
abbrev pub behind : List ℕ → List ℕ
behind l = drop (number_in l 0 0).end l

nothing : (l : List ℕ) → length l ≡ 0 → l ≡ []
nothing [] e = refl
nothing (b ∷ l) e = absurd (omega arith)

-- The byte at the front, if there is one.
pub first_some : (text : List ℕ) {b : ℕ} → Some b ≡ slice_get text 0 → get_or text 0 0 ≡ b
first_some [] e = absurd (let z : ◌≡◌ {A = ℕ} 0 1 = cc in omega arith)
first_some (x ∷ l) e = cc

pub first_none : (text : List ℕ) → None ≡ slice_get text 0 → get_or text 0 0 ≡ 0
first_none [] e = refl
first_none (x ∷ l) e = absurd (let z : ◌≡◌ {A = ℕ} 0 1 = cc in omega arith)

-- One digit more, or none.

number_digit : (b : ℕ) (l : List ℕ) (v : ℕ) → is_digit b ≡ true → number_in (b ∷ l) v 0 ≡ number_in l (v * 10 + (b - 48)) 1
unfolding number_in
number_digit b l v e = rw e

number_stops : (b : ℕ) (l : List ℕ) (v : ℕ) → is_digit b ≡ false → number_in (b ∷ l) v 0 ≡ record { value = v; end = 0 }
unfolding number_in
number_stops b l v e = rw e

number_over : (v : ℕ) → number_in [] v 0 ≡ record { value = v; end = 0 }
unfolding number_in
number_over v = refl

-- The loop: with v held so far, what is left of the text gives the number at its front, and ends as it does.
pub record Reading (text : List ℕ) (v : ℕ) (rest : List ℕ) : Type 0 where
  pub small : v ≤ most_image + 1
  pub value_same : held (number_in rest v 0).value ≡ held (number_in text 0 0).value
  pub rest_same : behind rest ≡ behind text

-- What is read: the number, held, and what stands behind it.
abbrev pub Reads : List ℕ → ℕ → List ℕ → Type 0
Reads text v rest = (v ≡ held (number_in text 0 0).value) × (rest ≡ behind text)

module _ {text rest : List ℕ} {v : ℕ} (r : Reading text v rest) where
  pub reading_on : {w : ℕ} {b : ℕ} {l : List ℕ} → rest ≡ b ∷ l → is_digit b ≡ true → w ≡ held (v * 10 + (b - 48)) → Reading text w l
  reading_on {w} {b} {l} c d e =
      let u = v * 10 + (b - 48) in
      let k : held w ≡ held u = omega arith in
      let n : number_in rest v 0 ≡ number_in l u 1 = ap (λ (x : List ℕ). number_in x v 0) c ∙ number_digit b l v d in
      let z : (number_in (b ∷ l) 0 0).end ≡ 1 + (number_in l 0 0).end =
      ap (λ (x : Number). x.end) (number_digit b l 0 d) ∙ number_end l (0 * 10 + (b - 48)) 0 0 1 in
      record {
        small = omega arith;
        value_same = number_held l w u 0 k ∙ ap held (number_value l u 0 1) ∙ sym (ap (λ (x : Number). held x.value) n) ∙ r.value_same;
        rest_same = sym (ap behind c ∙ ap (λ (m : ℕ). drop m (b ∷ l)) (z ∙ one-add (number_in l 0 0).end)) ∙ r.rest_same;
      }

  reading_ends : number_in rest v 0 ≡ record { value = v; end = 0 } → (number_in rest 0 0).end ≡ 0 → Reads text v rest
  reading_ends n z =
      let s = r.small in
      let k : v ≡ held v = omega arith in
      (k ∙ sym (ap (λ (x : Number). held x.value) n) ∙ r.value_same, sym (ap (λ (m : ℕ). drop m rest) z) ∙ r.rest_same)

  pub reading_stops : {b : ℕ} {l : List ℕ} → rest ≡ b ∷ l → is_digit b ≡ false → Reads text v rest
  reading_stops {b} {l} c e =
      reading_ends
      (ap (λ (x : List ℕ). number_in x v 0) c ∙ number_stops b l v e)
      (ap (λ (x : List ℕ). (number_in x 0 0).end) c ∙ ap (λ (x : Number). x.end) (number_stops b l 0 e))

  pub reading_over : length rest ≡ 0 → Reads text v rest
  reading_over e =
      let c = nothing rest e in
      reading_ends
      (ap (λ (x : List ℕ). number_in x v 0) c ∙ number_over v)
      (ap (λ (x : List ℕ). (number_in x 0 0).end) c ∙ ap (λ (x : Number). x.end) (number_over 0))

-- The number that begins at a place, or none.

pub number_leads : (input : List ℕ) (at : ℕ) → leads (get_or input at 0) ≡ true → number_at input at ≡ number_in (drop at input) 0 at
unfolding number_at
number_leads input at e = rw e

pub number_none : (input : List ℕ) (at : ℕ) → leads (get_or input at 0) ≡ false → number_at input at ≡ record { value = 0; end = at }
unfolding number_at
number_none input at e = rw e

-- The number at the front of what stands from a place on is the number there.
pub from_place : (input : List ℕ) (at : ℕ)
    → ((number_at (drop at input) 0).value ≡ (number_at input at).value) × (drop (number_at (drop at input) 0).end (drop at input) ≡ drop (number_at input at).end input)
from_place input at = go (leads (get_or input at 0)) refl
  where
    first : get_or (drop at input) 0 0 ≡ get_or input at 0
    first = get_or-drop at input 0 0 ∙ ap (λ (m : ℕ). get_or input m 0) (add-zero at)

    go : (t : Bool) → leads (get_or input at 0) ≡ t
        → ((number_at (drop at input) 0).value ≡ (number_at input at).value) × (drop (number_at (drop at input) 0).end (drop at input) ≡ drop (number_at input at).end input)
    go true e =
        let a = number_leads (drop at input) 0 (ap leads first ∙ e) in
        let b = number_leads input at e in
        let n : (number_in (drop at input) 0 at).end ≡ at + (number_in (drop at input) 0 0).end =
        ap (λ (m : ℕ). (number_in (drop at input) 0 m).end) (sym (add-zero at)) ∙ number_end (drop at input) 0 0 0 at in (
          ap (λ (x : Number). x.value) a ∙ number_value (drop at input) 0 0 at ∙ sym (ap (λ (x : Number). x.value) b),
          ap (λ (x : Number). drop x.end (drop at input)) a
              ∙ drop-drop (number_in (drop at input) 0 0).end at input
              ∙ ap (λ (m : ℕ). drop m input) (sym (ap (λ (x : Number). x.end) b ∙ n)),
        )
    go false e =
        let a = number_none (drop at input) 0 (ap leads first ∙ e) in
        let b = number_none input at e in
        (ap (λ (x : Number). x.value) (a ∙ refl) ∙ sym (ap (λ (x : Number). x.value) b), ap (λ (x : Number). drop x.end (drop at input)) a ∙ sym (ap (λ (x : Number). drop x.end input) b))
