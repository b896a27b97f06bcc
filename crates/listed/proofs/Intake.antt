-- The input is taken in exactly where it is a first line "S N" in decimal and just the image behind it.
-- Assumes nothing.
use Prim.Native.Nat.{ℕ, ◌+◌, ◌-◌, ◌*◌, ◌≤◌, ◌<◌}
use native.Mathlib.Nat.{zero-add}
use native.Mathlib.Omega.{arith}
use mathlib.Core.Path.{◌≡◌, refl, sym, ◌∙◌, ap}
use mathlib.Core.Bool.{true, ◌&&◌}
use mathlib.Core.List.{List, ◌∷◌, ◌++◌, append_assoc}
use lib.Dec.{leb}
use lib.ListN.{length, get_or, drop, length-append, length-drop}
use lib.Seq.{get_or-drop, get_or-append_seam, drop-append_seam, drop-append-add}
use borrow.Author.Tests.{le-leb}
use Rattle.chip.specs.Geometry.{geometry, Shape, Fits}
use Rattle.chip.proofs.Image.{fits_geometry}
use Rattle.lines.specs.Text.{space, line_feed, decimal}
use Rattle.std.specs.Prelude.{Option, Some, None}
use Rattle.intake.specs.declared.Chip.{Chip}
use Rattle.intake.specs.Intake.{most_image, Number, number_at, size_in, count_in, intake_of}
use Rattle.intake.proofs.Taken.{is_image, image_small, Accepted, accepted_facts, facts_accepted, taken}
use Rattle.listed.specs.Words.{first_line}
use Rattle.lines.proofs.Written.{decimal-length}
use Rattle.listed.proofs.Decimal.{word_at, reads_back}

line_image : (s n : ℕ) (image : List ℕ) → first_line s n ++ image ≡ decimal s ++ (space ∷ (decimal n ++ (line_feed ∷ image)))
line_image s n image = simp append_assoc

line_length : (s n : ℕ) → length (first_line s n) ≡ length (decimal s) + 1 + (length (decimal n) + 1)
line_length s n = simp length-append

-- What is read of such an input.

module _ (s n : ℕ) (image : List ℕ) (h : Shape s n) (size : length image ≡ n * s) (few : n * s ≤ most_image) where
  abbrev rest : List ℕ
  rest = decimal n ++ (line_feed ∷ image)

  abbrev input : List ℕ
  input = decimal s ++ (space ∷ rest)

  input_is : first_line s n ++ image ≡ input
  input_is = line_image s n image

  size_read : size_in input ≡ record { value = s; end = 0 + length (decimal s) }
  size_read = reads_back input 0 s space rest refl (omega (arith, h.s_least)) refl

  size_end : (size_in input).end ≡ length (decimal s)
  size_end = ap (λ (x : Number). x.end) size_read ∙ zero-add (length (decimal s))

  behind_size : drop (length (decimal s) + 1) input ≡ rest
  behind_size = drop-append-add (decimal s) (space ∷ rest) 1

  count_read : count_in input ≡ record { value = n; end = length (decimal s) + 1 + length (decimal n) }
  count_read =
      ap (λ (o : ℕ). number_at input (o + 1)) size_end ∙ reads_back input (length (decimal s) + 1) n line_feed image behind_size (omega (arith, h.n_least)) refl

  count_end : (count_in input).end ≡ length (decimal s) + 1 + length (decimal n)
  count_end = ap (λ (x : Number). x.end) count_read

  image_behind : drop (length (first_line s n)) input ≡ image
  image_behind = ap (drop (length (first_line s n))) (sym input_is) ∙ drop-append_seam (first_line s n) image

  facts : Accepted input s n (length (first_line s n))
  facts =
      let line = line_length s n in
      let a : leb (n * s) most_image ≡ true = le-leb _ _ few in
      let b : geometry image s n ≡ true = fits_geometry (record { shape = h; size = size }) in
      record {
        size_is = ap (λ (x : Number). x.value) size_read;
        count_is = ap (λ (x : Number). x.value) count_read;
        start_is = omega (arith, count_end);
        space_is = ap (λ (o : ℕ). get_or input o 0) size_end ∙ get_or-append_seam (decimal s) space rest 0;
        feed_is =
            ap (λ (o : ℕ). get_or input o 0) count_end
            ∙ sym (get_or-drop (length (decimal s) + 1) input (length (decimal n)) 0)
            ∙ ap (λ (x : List ℕ). get_or x (length (decimal n)) 0) behind_size
            ∙ get_or-append_seam (decimal n) line_feed image 0;
        image_is_one = ap (λ (x : List ℕ). is_image x s n) image_behind ∙ (λ i. a i && b i);
      }

-- R16.7: a first line of an S and an N within the limits, and N times S bytes behind it, 65,536 at most: that is taken in,
pub accepted_all : (s n : ℕ) (image : List ℕ) → Shape s n → n * s ≤ most_image → length image ≡ n * s
    → intake_of (first_line s n ++ image) ≡ Some (record { s = s; n = n; start = length (first_line s n) })
accepted_all s n image h few size = ap intake_of (line_image s n image) ∙ facts_accepted (input s n image h size few) (facts s n image h size few)

-- R16.7: with just that image.
pub accepted_image : (s n : ℕ) (image : List ℕ) → drop (length (first_line s n)) (first_line s n ++ image) ≡ image
accepted_image s n image = drop-append_seam (first_line s n) image

-- R16.7: nothing else is: no letter, sign or leading zero, no second space, no carriage return, no number too long, no line that does not end, and
-- not a byte too few or too many.
pub accepted_only : (input : List ℕ) {s n start : ℕ} → intake_of input ≡ Some (record { s = s; n = n; start = start })
    → (input ≡ first_line s n ++ drop start input) × (length (first_line s n) ≡ start) × Fits (drop start input) s n × (n * s ≤ most_image)
accepted_only input {s} {n} {start} e =
    let a = accepted_facts input e in
    let t = taken input e in
    let h = t.0.shape in
    let inside : start ≤ length input = t.2 in
    let sv : 1 ≤ (size_in input).value = omega (arith, a.size_is, h.s_least) in
    let nv : 1 ≤ (count_in input).value = omega (arith, a.count_is, h.n_least) in
    let p = a.size_is in
    let q = a.count_is in
    let r = a.start_is in
    let word : input ≡ decimal s ++ (space ∷ drop ((size_in input).end + 1) input) =
    word_at input 0 space sv a.space_is (omega arith) ∙ ap (λ (x : ℕ). decimal x ++ (space ∷ drop ((size_in input).end + 1) input)) p in
    let next : drop ((size_in input).end + 1) input ≡ decimal n ++ (line_feed ∷ drop start input) =
    word_at input ((size_in input).end + 1) line_feed nv a.feed_is (omega arith) ∙ (λ i. decimal (q i) ++ (line_feed ∷ drop (r i) input)) in
    let whole : input ≡ first_line s n ++ drop start input =
    word ∙ ap (λ (x : List ℕ). decimal s ++ (space ∷ x)) next ∙ sym (line_image s n (drop start input)) in
    let long : length input ≡ length (first_line s n) + (length input - start) =
    ap length whole ∙ length-append (first_line s n) (drop start input) ∙ ap (λ (x : ℕ). length (first_line s n) + x) (length-drop start input) in
    (whole, omega arith, t.0, t.1)

-- The first line has 12 bytes at most.
line_short : (input : List ℕ) {s n start : ℕ} → intake_of input ≡ Some (record { s = s; n = n; start = start }) → length input ≤ 65536 + 12
line_short input {s} {n} {start} e =
    let o = accepted_only input e in
    let a = accepted_facts input e in
    let m = image_small (drop start input) s n a.image_is_one in
    let ss : s ≤ most_image = m.0 in
    let ns : n ≤ most_image = m.1 in
    let ls : length (decimal s) ≤ 5 = decimal-length 4 _ s (omega arith) in
    let ln : length (decimal n) ≤ 5 = decimal-length 4 _ n (omega arith) in
    let line = line_length s n in
    let few : n * s ≤ most_image = o.3 in
    let size : length (drop start input) ≡ n * s = o.2.size in
    let long : length input ≡ length (first_line s n) + length (drop start input) = ap length o.0 ∙ length-append (first_line s n) (drop start input) in
    omega arith

-- R16.7: an input of more bytes than any image and its first line can have is refused,
pub long_refused : (input : List ℕ) → 65536 + 16 < length input → intake_of input ≡ None
long_refused input h = go (intake_of input) refl
  where
    go : (x : Option Chip) → intake_of input ≡ x → x ≡ None
    go None e = refl
    go (Some chip) e = let l = line_short input e in absurd (omega arith)
