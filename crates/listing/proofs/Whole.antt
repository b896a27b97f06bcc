-- The whole text of an input: what each way through the function leaves in the buffer.
-- Assumes nothing.
use Prim.Native.Nat.{ℕ, ◌-◌, ◌*◌, ◌≤◌, ◌<◌}
use native.Mathlib.Omega.{arith}
use mathlib.Core.Path.{◌≡◌, sym, ◌∙◌, ap, subst}
use mathlib.Core.List.{List}
use lib.ListN.{length, take, drop}
use lib.Seq.{sets}
use borrow.Author.Tests.{le-leb, lt-leb}
use borrow.Author.Rules.{part_to_end}
use Rattle.chip.specs.Geometry.{Fits}
use Rattle.std.specs.Prelude.{Some, None}
use Rattle.intake.specs.declared.Chip.{Chip}
use Rattle.intake.specs.Intake.{most_image, intake_of}
use Rattle.intake.proofs.Taken.{taken}
use Rattle.entries.specs.Inventory.{inventory}
use Rattle.lines.specs.Text.{header_line, refused_line}
use Rattle.lines.specs.declared.Page.{Page}
use Rattle.lines.specs.Pages.{Puts}
use Rattle.lines.proofs.Written.{put_more}
use Rattle.listing.specs.Listing.{text_of, listing_by, listing, most_text, filled, text_length}

-- the buffer is filled, and the number of bytes is the text's
abbrev pub Fills : List ℕ → List ℕ → List ℕ → ℕ → Type 0
Fills input out out' r = (out' ≡ filled input out) × (r ≡ text_length input out)

pub too_short : (input out : List ℕ) → length out < most_text → Fills input out out 0
unfolding filled text_length
too_short input out h = let e = lt-leb most_text (length out) h in (rw e, rw e)

-- a page that is new, on a buffer
abbrev pub Fresh : Page → List ℕ → Type 0
Fresh p out = (p.out.now ≡ out) × (p.at ≡ 0)

fills : (input out : List ℕ) (p q : Page) → most_text ≤ length out → Fresh p out → Puts p (listing input) q → Fills input out q.out.now q.at
unfolding filled text_length
fills input out p q h f x =
    let e = le-leb most_text (length out) h in
    (rw e (x.1 ∙ (λ i. sets (f.0 i) (f.1 i) (listing input))), rw e (omega (arith, x.2, f.1)))

pub refused_line_lem : (input out : List ℕ) (p q : Page) → most_text ≤ length out → Fresh p out → intake_of input ≡ None → Puts p refused_line q → Fills input out q.out.now q.at
unfolding listing
refused_line_lem input out p q h f e x = fills input out p q h f (subst (λ (t : List ℕ). Puts p t q) (ap (listing_by input) (sym e)) x)

module _ (input : List ℕ) {chip : Chip} (e : intake_of input ≡ Some chip) where
  pub image_behind : chip.start ≤ length input
  image_behind = (taken input e).2

  pub image_fits : Fits (take (length input - chip.start) (drop chip.start input)) chip.s chip.n × (chip.n * chip.s ≤ most_image)
  image_fits = (rw (part_to_end input chip.start) (taken input e).0, (taken input e).1)

  pub chip_lines : (out : List ℕ) (p q r : Page) → most_text ≤ length out → Fresh p out → Puts p header_line q
      → Puts q (text_of (inventory (take (length input - chip.start) (drop chip.start input)) chip.s chip.n)) r → Fills input out r.out.now r.at
  unfolding listing
  chip_lines out p q r h f x y =
      let t = text_of (inventory (drop chip.start input) chip.s chip.n) in
      let w : Puts q t r = subst (λ (l : List ℕ). Puts q (text_of (inventory l chip.s chip.n)) r) (part_to_end input chip.start) y in
      fills input out p r h f
      (subst (λ (z : List ℕ). Puts p z r) (ap (listing_by input) (sym e)) (put_more p q r header_line t x w))
