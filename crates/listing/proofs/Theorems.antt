-- The text of any input is shorter than the buffer that is asked for: a line has 40 bytes at most, and a record 15 at least.
-- Assumes nothing.
use Prim.Native.Nat.{ℕ, zero, suc, ◌+◌, ◌-◌, ◌*◌, ◌≤◌, ◌<◌}
use native.Mathlib.Omega.{arith}
use mathlib.Core.Bool.{Bool, true, false, cond}
use mathlib.Core.Path.{◌≡◌, refl, ◌∙◌, ap}
use mathlib.Core.List.{List, ◌++◌}
use lib.Dec.{leb}
use lib.ListN.{length, drop, length-append}
use borrow.Author.Tests.{leb-true}
use Rattle.chip.specs.Geometry.{Fits}
use Rattle.entries.specs.declared.Entry.{Entry}
use Rattle.entries.specs.Entries.{entry_at}
use Rattle.entries.specs.Inventory.{inventory}
use Rattle.entries.proofs.Steps.{inventory_from, here, from_ends, from_bad, from_over, not_refused, from_first}
use Rattle.std.specs.Prelude.{Option, Some, None}
use Rattle.intake.specs.declared.Chip.{Chip}
use Rattle.intake.specs.Intake.{intake_of}
use Rattle.intake.proofs.Taken.{taken}
use Rattle.lines.specs.Text.{line_of, header_line}
use Rattle.lines.proofs.Written.{short_line, short_bad}
use Rattle.listing.specs.Passing.{ahead}
use Rattle.listing.specs.Listing.{lines_of, text_of, listing_by, listing, most_text, text_length}
use Rattle.listing.proofs.Listed.{text_from, text_before, next_region, passed, ahead_region}

module _ {image : List ℕ} {s n : ℕ} (f : Fits image s n) where
  -- from a place on there are 40 bytes at most for each 15 that are left, and the line of a bad place
  abbrev Few : ℕ → ℕ → Type 0
  Few r o = 15 * length (text_from image s n r o) ≤ 40 * (n * s - (r * s + o)) + 240

  -- one call, where the calls behind it are known
  few_step : (r o : ℕ) (e : Entry) → o ≤ s → entry_at image s n r o ≡ e → ((q p : ℕ) → ahead s n q p < ahead s n r o → p ≤ s → Few q p) → Few r o
  unfolding lines_of
  few_step r o (Entry.Stands x b) h t more =
      let y = here f r o x b t in
      let d = f.shape in
      let rest = text_from image s n r (o + x.len) in
      let e : text_from image s n r o ≡ line_of r x ++ rest = ap text_of y.rest ∙ text_before (record { region = r; rec = x; sound = b }) (inventory_from image s n r (o + x.len)) in
      let w : Few r (o + x.len) = more r (o + x.len) (omega arith) y.inside in
      omega (arith, ap length e, length-append (line_of r x) rest, short_line r x (omega arith) (omega arith) (omega arith), passed r n s y.number)
  few_step r o Entry.Ends h t more =
      let y = from_ends f r o t in
      let w : Few (r + 1) 0 = more (r + 1) 0 (omega (arith, ahead_region s n r y.0)) (omega arith) in
      omega (arith, ap length (ap text_of y.1), next_region r s)
  few_step r o (Entry.Bad g) h t more =
      let y = from_bad f r o g t in
      let d = f.shape in
      omega (arith, ap length (ap text_of y.1), short_bad r o (omega (arith, y.0)) (omega arith))
  few_step r o Entry.Over h t more = omega (arith, ap length (ap text_of (from_over f r o t).1))
  few_step r o (Entry.Refused w) h t more = absurd (not_refused f r o w t)

  few_from : (k r o : ℕ) → ahead s n r o < k → o ≤ s → Few r o
  few_from zero r o l h = absurd (omega arith)
  few_from (suc k) r o l h = few_step r o (entry_at image s n r o) h refl (λ q p m i. few_from k q p (omega arith) i)

  pub short_text : 15 * length (text_of (inventory image s n)) ≤ 40 * (n * s) + 240
  short_text = omega (arith, few_from (suc (ahead s n 0 0)) 0 0 (omega arith) (omega arith), ap length (ap text_of (from_first f)))

-- The text of any input has fewer bytes than that.
pub short_listing : (input : List ℕ) → length (listing input) < most_text
unfolding listing
short_listing input = go (intake_of input) refl
  where
    go : (i : Option Chip) → intake_of input ≡ i → length (listing_by input i) < most_text
    go None e = omega arith
    go (Some chip) e =
        let t = taken input e in
        omega (arith, length-append header_line (text_of (inventory (drop chip.start input) chip.s chip.n)), short_text t.0, t.1)

-- What is called text lies in the buffer.
pub text_inside : (input out : List ℕ) → text_length input out ≤ length out
unfolding text_length
text_inside input out = go (leb most_text (length out)) refl
  where
    go : (b : Bool) → leb most_text (length out) ≡ b → cond b (length (listing input)) 0 ≤ length out
    go true e = omega (arith, short_listing input, leb-true most_text (length out) e)
    go false e = omega arith
