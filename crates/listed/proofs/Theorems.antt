-- What people rely on who list a chip: which inputs are listed, what is written for each, and that what is read is enough.
-- Assumes nothing.
use Prim.Native.Nat.{ℕ, ◌+◌, ◌*◌, ◌≤◌, ◌<◌}
use native.Mathlib.Omega.{arith}
use mathlib.Core.Path.{◌≡◌, refl, sym, ◌∙◌, ap}
use mathlib.Core.Bool.{Bool, true, false}
use mathlib.Core.List.{List, ◌++◌}
use lib.Dec.{leb}
use lib.ListN.{length, take, drop}
use lib.Seq.{take_all, take-length, length-take-le}
use borrow.Author.Tests.{leb-true, leb-false, le-leb}
use Rattle.crc32.specs.Crc.{shift, shifts, feed, run, checksum}
use Rattle.chip.specs.Chip.{written, is_blank}
use Rattle.chip.specs.Geometry.{sized, geometry, numbers, Shape}
use Rattle.chip.proofs.Lists.{sets_part, sets-after}
use Rattle.probe.specs.Probe.{keep, around, outward, probe}
use Rattle.format.specs.Layout.{big_endian, little_endian, record_bytes, check_sum_fits, big_endian_at}
use Rattle.region.specs.Walk.{met_of, walk_in, walk_from, first_of}
use Rattle.refusals.specs.Refusals.{first_refusal}
use Rattle.lookup.specs.Turns.{look_from}
use Rattle.plans.specs.Writes.{applied}
use Rattle.store.specs.Write.{append_of}
use Rattle.afternoons.specs.Table.{S, N, blank, after_three}
use Rattle.entries.specs.Inventory.{items_in, inventory_of, inventory}
use Rattle.std.specs.Prelude.{Option, Some, None}
use Rattle.intake.specs.declared.Chip.{Chip}
use Rattle.intake.specs.Intake.{most_image, number_in, number_at, accepted, intake_of}
use Rattle.lines.specs.Text.{decimal_in, line_of, header_line, refused_line}
use Rattle.listing.specs.Listing.{lines_of, text_of, listing_by, listing, most_read, most_text, filled, text_length}
use Rattle.listing.proofs.Theorems.{short_listing}
use Rattle.listed.specs.Words.{first_line, the_line}
use Rattle.listed.proofs.Intake.{accepted_all, accepted_image, accepted_only, long_refused}

-- R16.7, R16.8, R16.9: an image of N regions of S bytes, 65,536 at most, behind a first line that says S and N: the header line, a line for each
-- record, and that of the first bad place.
pub lists : (s n : ℕ) (image : List ℕ) → Shape s n → n * s ≤ most_image → length image ≡ n * s
    → listing (first_line s n ++ image) ≡ header_line ++ text_of (inventory image s n)
unfolding listing
lists s n image h m l =
    ap (listing_by (first_line s n ++ image)) (accepted_all s n image h m l)
    ∙ ap (λ i. header_line ++ text_of (inventory i s n)) (accepted_image s n image)

-- R16.7: every other input is refused, by the one line: letters, a sign, leading zeros, two spaces, a carriage return, no line feed, a number too
-- long for any word, bytes too few or too many, S and N outside the limits, more than 65,536 bytes.
pub refuses : (input : List ℕ)
    → ((s n : ℕ) (image : List ℕ) → Shape s n → n * s ≤ most_image → length image ≡ n * s → input ≡ first_line s n ++ image → ⊥)
    → listing input ≡ refused_line
unfolding listing
refuses input none = go (intake_of input) refl
  where
    go : (i : Option Chip) → intake_of input ≡ i → listing_by input i ≡ refused_line
    go None e = refl
    go (Some chip) e =
        let (is, _, fits, most) = accepted_only input e in
        absurd (none chip.s chip.n (drop chip.start input) fits.shape most fits.size is)

-- R16.7: what the program reads of an input is enough: of a longer one nothing else would be written.
pub reads_enough : (input : List ℕ) → listing (take most_read input) ≡ listing input
unfolding listing
reads_enough input = go (leb (length input) most_read) refl
  where
    long : 65600 < length input → listing (take 65600 input) ≡ listing input
    long l =
        let e : length (take 65600 input) ≡ 65600 = length-take-le 65600 input (omega arith) in
        ap (listing_by (take 65600 input)) (long_refused (take 65600 input) (omega (arith, e))) ∙ sym (ap (listing_by input) (long_refused input (omega arith)))

    go : (b : Bool) → leb (length input) 65600 ≡ b → listing (take 65600 input) ≡ listing input
    go true e = ap listing (take_all 65600 input (leb-true _ _ e))
    go false e = long (leb-false _ _ e)

-- R16.10: what the program writes out of its buffer is that text, whole; the bytes behind it are as they were.
pub writes_the_text : (input out : List ℕ) → most_text ≤ length out
    → (take (text_length input out) (filled input out) ≡ listing input) × (drop (text_length input out) (filled input out) ≡ drop (text_length input out) out)
unfolding filled text_length
writes_the_text input out h =
    let s = short_listing input in
    rw (le-leb most_text (length out) h) (
      sets_part out 0 (listing input) (omega arith) 0 (length (listing input)) (omega arith) ∙ take-length (listing input),
      (let e : 0 + length (listing input) ≡ length (listing input) = omega arith in rw e at (sets-after out 0 (listing input) (omega arith))),
    )

-- R7.5: any two results that the contract allows for one input are identical.
pub list_only_one : (input out : List ℕ) {a a' : List ℕ} {k k' : ℕ} → (a ≡ filled input out) × (k ≡ text_length input out) → (a' ≡ filled input out) × (k' ≡ text_length input out)
    → (a ≡ a') × (k ≡ k')
list_only_one input out (p, q) (p', q') = (p ∙ sym p', q ∙ sym q')

-- R15.13: the list of the chip after R15.2, byte for byte.
pub worked_list : listing (first_line S N ++ after_three.image) ≡ header_line ++ the_line
unfolding shift shifts feed run checksum written is_blank sized geometry keep around outward probe big_endian little_endian record_bytes check_sum_fits big_endian_at met_of walk_in walk_from first_of first_refusal look_from applied append_of numbers blank after_three items_in inventory_of inventory number_in number_at accepted intake_of decimal_in line_of lines_of listing
worked_list = refl
