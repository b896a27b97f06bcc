-- What is still to be put, from a place of the chip on: a call for each record, until the chip is through or a place is bad.
-- Assumes nothing.
use Prim.Native.Nat.{ℕ, ◌+◌, ◌-◌, ◌*◌, ◌≤◌, ◌<◌}
use native.Mathlib.Nat.{add-mul, one-mul, mul-le-mul_right}
use native.Mathlib.Omega.{arith}
use mathlib.Core.Bool.{Bool}
use mathlib.Core.Path.{◌≡◌, refl, sym, ◌∙◌, ap, subst}
use mathlib.Core.Logic.{◌⊎◌, inl, inr}
use mathlib.Core.List.{List, [], ◌∷◌, ◌++◌, append_assoc}
use lib.ListN.{length, length-append}
use lib.Seq.{sets, length-sets}
use borrow.Author.Tests.{le-ltb}
use Rattle.chip.specs.Geometry.{Fits}
use Rattle.chip.proofs.Lists.{sets-append}
use Rattle.format.specs.declared.Record.{Record}
use Rattle.format.specs.declared.Fault.{Fault}
use Rattle.refusals.specs.declared.Refusal.{Refusal}
use Rattle.entries.specs.declared.Entry.{Entry}
use Rattle.entries.specs.declared.Place.{Place}
use Rattle.entries.specs.declared.Shown.{Shown}
use Rattle.entries.specs.Entries.{entry_at, shown, shown_at}
use Rattle.entries.specs.Inventory.{Item, bad, Inventory, before, inventory}
use Rattle.entries.proofs.Steps.{inventory_from, Here, here as stands, from_ends, from_bad, from_over, not_refused, from_first}
use Rattle.intake.specs.Intake.{most_image}
use Rattle.lines.specs.Text.{line_of, bad_line}
use Rattle.lines.specs.declared.Page.{Page}
use Rattle.lines.specs.Pages.{HasRoom, Puts}
use Rattle.lines.proofs.Written.{short_line}
use Rattle.listing.specs.Listing.{lines_of, last_line, text_of, most_text}

-- the text from a place on
abbrev pub text_from : List ℕ → ℕ → ℕ → ℕ → ℕ → List ℕ
text_from image s n r o = text_of (inventory_from image s n r o)

pub text_before : (x : Item) (v : Inventory) → text_of (before (x ∷ []) v) ≡ line_of x.region x.rec ++ text_of v
unfolding lines_of
text_before x v = append_assoc (line_of x.region x.rec) (lines_of v.items) (last_line v.last)

-- what a call shows, as what stands there
entry_shown : (r o : ℕ) (e : Entry) → (shown r o e).entry ≡ e
entry_shown r o (Entry.Stands x b) = refl
entry_shown r o Entry.Ends = refl
entry_shown r o (Entry.Bad g) = refl
entry_shown r o Entry.Over = refl
entry_shown r o (Entry.Refused w) = refl

pub told : (image : List ℕ) (s n r o : ℕ) (h : Shown) (e : Entry) → h ≡ shown_at image s n r o → h.entry ≡ e → (entry_at image s n r o ≡ e) × (h ≡ shown r o e)
told image s n r o h e p q =
    let t : entry_at image s n r o ≡ e = sym (entry_shown r o (entry_at image s n r o)) ∙ ap (λ (z : Shown). z.entry) (sym p) ∙ q in
    (t, p ∙ ap (shown r o) t)

-- All lines are put but those from place o of region r on. The lines that are put have no more than 40 bytes for each 15 that were passed; behind
-- the last region no more are to come.
pub record Left (image : List ℕ) (s n : ℕ) (first page : Page) (here : Place) : Type 0 where
  pub same : page.out.ghost_name ≡ first.out.ghost_name
  pub inside : here.at ≤ s
  pub few : here.region < n → 15 * page.at ≤ 15 * first.at + 40 * (here.region * s + here.at)
  pub as_long : length page.out.now ≡ length first.out.now
  pub text : sets page.out.now page.at (text_from image s n here.region here.at) ≡ sets first.out.now first.at (text_of (inventory image s n))
  pub ends : page.at + length (text_from image s n here.region here.at) ≡ first.at + length (text_of (inventory image s n))

pub next_region : (r s : ℕ) → (r + 1) * s ≡ r * s + s
next_region r s = add-mul r 1 s ∙ ap (λ (m : ℕ). r * s + m) (one-mul s)

pub passed : (r n s : ℕ) → r < n → r * s + s ≤ n * s
passed r n s l = let p : (r + 1) * s ≤ n * s = mul-le-mul_right s (omega arith) in omega (arith, next_region r s)

pub ahead_region : (s n r : ℕ) → r < n → (n - r) * (s + 1) ≡ (n - (r + 1)) * (s + 1) + (s + 1)
ahead_region s n r l =
    let e : n - r ≡ n - (r + 1) + 1 = omega arith in
    ap (λ (m : ℕ). m * (s + 1)) e ∙ next_region (n - (r + 1)) (s + 1)

module _ {image : List ℕ} {s n : ℕ} (f : Fits image s n) where
  pub left_first : (page : Page) → Left image s n page page (record { region = 0; at = 0 })
  left_first page =
      let e : text_of (inventory image s n) ≡ text_from image s n 0 0 = ap text_of (from_first f) in
      record {
        same = refl;
        inside = omega arith;
        few = λ m. omega arith;
        as_long = refl;
        text = ap (sets page.out.now page.at) (sym e);
        ends = ap (λ (t : List ℕ). page.at + length t) (sym e);
      }

  module _ {first page : Page} {here : Place} (l : Left image s n first page here) where
    abbrev r : ℕ
    r = here.region

    abbrev o : ℕ
    o = here.at

    -- A record stands there.
    module _ (h : Shown) (x : Record) (b : Bool) (p : h ≡ shown_at image s n r o) (q : h.entry ≡ Entry.Stands x b) where
      lies : Here f r o x b
      lies = stands f r o x b (told image s n r o h (Entry.Stands x b) p q).0

      goes : h ≡ shown r o (Entry.Stands x b)
      goes = (told image s n r o h (Entry.Stands x b) p q).1

      pub room_line : n * s ≤ most_image → first.at ≤ 29 → most_text ≤ length first.out.now
          → (r < 100000) × (x.at < 100000) × (15 ≤ x.len) × (x.len < 100000) × HasRoom page 40
      room_line m a t =
          let d = f.shape in
          let y = lies in
          (omega arith, omega arith, omega arith, omega arith, omega (arith, l.as_long, l.few y.number, passed r n s y.number))

      pub left_stands : (page' : Page) → Puts page (line_of r x) page' → Left image s n first page' h.next
      left_stands page' u =
          let y = lies in
          let rest = text_from image s n r (o + x.len) in
          let e : text_from image s n r o ≡ line_of r x ++ rest = ap text_of y.rest ∙ text_before (record { region = r; rec = x; sound = b }) (inventory_from image s n r (o + x.len)) in
          let w : sets page'.out.now page'.at rest ≡ sets page.out.now page.at (text_from image s n r o) =
          (λ i. sets (u.1 i) (u.2 i) rest) ∙ sym (sets-append page.out.now page.at (line_of r x) rest) ∙ ap (sets page.out.now page.at) (sym e) in
          let short : length (line_of r x) ≤ 40 = let d = f.shape in short_line r x (omega arith) (omega arith) (omega arith) in
          subst (λ (z : Shown). Left image s n first page' z.next) (sym goes)
          (record {
            same = u.0 ∙ l.same;
            inside = y.inside;
            few = λ m. omega (arith, u.2, l.few m);
            as_long = ap length u.1 ∙ length-sets page.out.now page.at (line_of r x) ∙ l.as_long;
            text = w ∙ l.text;
            ends = omega (arith, u.2, l.ends, ap length e, length-append (line_of r x) rest);
          })

    -- The region ends there.
    module _ (h : Shown) (p : h ≡ shown_at image s n r o) (q : h.entry ≡ Entry.Ends) where
      over : (r < n) × (inventory_from image s n r o ≡ inventory_from image s n (r + 1) 0)
      over = from_ends f r o (told image s n r o h Entry.Ends p q).0

      on : h ≡ shown r o Entry.Ends
      on = (told image s n r o h Entry.Ends p q).1

      pub left_ends : Left image s n first page h.next
      left_ends =
          let e : text_from image s n (r + 1) 0 ≡ text_from image s n r o = ap text_of (sym over.1) in
          subst (λ (z : Shown). Left image s n first page z.next) (sym on)
          (record {
            same = l.same;
            inside = omega arith;
            few = λ m. omega (arith, l.few over.0, l.inside, next_region r s);
            as_long = l.as_long;
            text = ap (sets page.out.now page.at) e ∙ l.text;
            ends = ap (λ (t : List ℕ). page.at + length t) e ∙ l.ends;
          })

    -- The place is bad.
    module _ (h : Shown) (g : Fault) (p : h ≡ shown_at image s n r o) (q : h.entry ≡ Entry.Bad g) where
      ends_here : (r < n) × (inventory_from image s n r o ≡ record { items = []; last = bad r o g })
      ends_here = from_bad f r o g (told image s n r o h (Entry.Bad g) p q).0

      pub room_bad : n * s ≤ most_image → first.at ≤ 29 → most_text ≤ length first.out.now → (r < 100000) × (o < 100000) × HasRoom page 16
      room_bad m a t =
          let d = f.shape in
          let y : r < n = ends_here.0 in
          (omega arith, omega (arith, l.inside), omega (arith, l.few y, l.inside, l.as_long, passed r n s y))

      pub left_bad : (page' : Page) → Puts page (bad_line r o) page' → Left image s n first page' (record { region = n; at = 0 })
      unfolding lines_of
      left_bad page' u =
          let e : bad_line r o ≡ text_from image s n r o = ap text_of (sym ends_here.1) in
          let z : text_from image s n n 0 ≡ [] = rw (le-ltb n n (omega arith)) in
          record {
            same = u.0 ∙ l.same;
            inside = omega arith;
            few = λ m. absurd (omega arith);
            as_long = ap length u.1 ∙ length-sets page.out.now page.at (bad_line r o) ∙ l.as_long;
            text = ap (sets page'.out.now page'.at) z ∙ u.1 ∙ ap (sets page.out.now page.at) e ∙ l.text;
            ends = omega (arith, ap length z, ap length e, u.2, l.ends);
          }

    -- The chip is through. A chip's image is not refused.
    pub left_over : (h : Shown) → h ≡ shown_at image s n r o → (h.entry ≡ Entry.Over) ⊎ ((w : Refusal) × (h.entry ≡ Entry.Refused w)) → Puts first (text_of (inventory image s n)) page
    unfolding lines_of
    left_over h p (inl q) =
        let e : [] ≡ text_from image s n r o = ap text_of (sym (from_over f r o (told image s n r o h Entry.Over p q).0).1) in
        (l.same, ap (sets page.out.now page.at) e ∙ l.text, omega (arith, ap length e, l.ends))
    left_over h p (inr (w, q)) = absurd (not_refused f r o w (told image s n r o h (Entry.Refused w) p q).0)
