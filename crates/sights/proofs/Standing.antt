-- A record that stands at a place of a chip lies in its region, and that in the image: its numbers fit.
-- Assumes nothing.
use Prim.Native.Nat.{ℕ}
use native.Mathlib.Omega.{arith}
use mathlib.Core.Path.{◌≡◌, refl, sym, subst}
use mathlib.Core.List.{List}
use Rattle.chip.proofs.Image.{region_small}
use Rattle.entries.specs.declared.Entry.{Entry}
use Rattle.entries.specs.Entries.{entry_at, shown_at}
use Rattle.entries.proofs.Steps.{here, stands_chip, shown_entry}
use Rattle.sights.specs.Sights.{StandsIn}

pub stands_in : (image : List ℕ) (s n r o : ℕ) → StandsIn s r (shown_at image s n r o).entry
stands_in image s n r o = subst (StandsIn s r) (sym (shown_entry r o (entry_at image s n r o))) (go (entry_at image s n r o) refl)
  where
    go : (e : Entry) → entry_at image s n r o ≡ e → StandsIn s r e
    go (Entry.Stands x sound) e =
        let f = stands_chip image s n r o x sound e in
        let h = here f r o x sound e in
        (h.least, omega (arith, region_small f h.number, h.inside, h.place, h.least))
    go Entry.Ends e = tt
    go (Entry.Bad g) e = tt
    go Entry.Over e = tt
    go (Entry.Refused w) e = tt
