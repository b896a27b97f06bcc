-- What a lookup finds in a well-formed image: the key's live record, or that there is none.
-- Assumes nothing.
use Prim.Native.Nat.{ℕ}
use native.Mathlib.Omega.{arith}
use mathlib.Core.Path.{◌≡◌, refl, sym, ◌∙◌, subst}
use mathlib.Core.Bool.{true, true≢false}
use mathlib.Core.List.Memᴰ
use mathlib.Core.List.{List, Memᴰ}
use borrow.Author.Tests.{eq-eqb}
use Rattle.std.specs.Prelude.{Option}
use Rattle.chip.specs.Geometry.{region_of}
use Rattle.probe.specs.Probe.{probes}
use Rattle.probe.proofs.Theorems.{members}
use Rattle.format.specs.declared.Record.{Record}
use Rattle.format.specs.declared.Fault.{Fault}
use Rattle.region.specs.declared.Stop.{Stop}
use Rattle.region.specs.declared.Want.{Want}
use Rattle.region.specs.declared.Event.{Event}
use Rattle.format.specs.Layout.{live}
use Rattle.region.specs.Walk.{records, is_wanted, event_in}
use Rattle.region.proofs.Search.{None}
use Rattle.region.proofs.Theorems.{live_decides, stop_decides}
use Rattle.lookup.specs.declared.Seen.{Seen}
use Rattle.lookup.specs.declared.Looked.{Looked}
use Rattle.lookup.specs.Turns.{lookup_in}
use Rattle.lookup.proofs.Scan.{Looks, looks_so, found}
use Rattle.pinned.proofs.Swept.{every_member}
use Rattle.pinned.proofs.Written.{wanted}
use Rattle.bindings.specs.WellFormed.{Live, WellFormed}
use Rattle.bindings.proofs.Members.{middle}

-- a live record of the key is wanted
is_wanted_lem : (key : ℕ) (x : Record) → live x ≡ true → x.key ≡ key → is_wanted (Want.Key key) x ≡ true
is_wanted_lem key x l k = rw (l, eq-eqb x.key key k)

module _ (key : ℕ) (need : Option ℕ) (s : ℕ) (image : List ℕ) where
  -- Where a lookup ends at a bad place, one of its regions has one.
  bad_from : {seen : Seen} {rs : List ℕ} {f : Fault} {p : ℕ} → Looks key need s image seen rs (Looked.Bad f p)
      → (r : ℕ) × Memᴰ r rs × ((o : ℕ) × (event_in (region_of s image r) (Want.Key key) ≡ Event.Bad f o))
  bad_from (Looks.bad {r = r} {o = o} e) = (r, Memᴰ.head refl, (o, e))
  bad_from (Looks.more e rest) = let (r, m, t) = bad_from rest in (r, Memᴰ.tail m, t)

  -- Where it goes through all regions, none has a live record of the key.
  through_none : {seen got : Seen} {rs : List ℕ} → Looks key need s image seen rs (Looked.Through got)
      → (r : ℕ) → Memᴰ r rs → None (is_wanted (Want.Key key)) (records (region_of s image r))
  through_none Looks.over r m = absurd (Memᴰ.not-nil m)
  through_none (Looks.more {r = q} {o = o} e rest) r (Memᴰ.head p) = rw p (stop_decides (region_of s image q) (Want.Key key) (Stop.End o) e).0
  through_none (Looks.more e rest) r (Memᴰ.tail m) = through_none rest r m

module _ {s n : ℕ} {image : List ℕ} (w : WellFormed s n image) (key : ℕ) (need : Option ℕ) where
  -- no bad place is met
  pub never_bad : (f : Fault) (p : ℕ) → lookup_in key need s image (probes key n) ≡ Looked.Bad f p → ⊥
  never_bad f p h =
      let (r, m, (o, e)) = bad_from key need s image (looks_so key need s image h) in
      let (_, stop) = stop_decides (region_of s image r) (Want.Key key) (Stop.Bad f o) e in
      let (q, end) = w.no_bad r ((members key n r w.fits.shape.n_least).1 m) in
      let z : ◌≡◌ {A = ℕ} 0 1 = cc in
      omega arith

  -- through all regions: the key has no live record
  pub not_there : (seen : Seen) → lookup_in key need s image (probes key n) ≡ Looked.Through seen → (r : ℕ) (x : Record) → Live s n image r x → x.key ≡ key → ⊥
  not_there seen h r x l k =
      let m = (members key n r w.fits.shape.n_least).0 l.stored.number in
      let dull = through_none key need s image (looks_so key need s image h) r m in
      true≢false (sym (is_wanted_lem key x l.alive k) ∙ every_member dull l.stored.member)

  -- a live record that is found is live in the image, and has the key
  pub found_live : (r : ℕ) (x : Record) → lookup_in key need s image (probes key n) ≡ Looked.Live r x → Live s n image r x × (x.key ≡ key)
  found_live r x h =
      let o = found key need r x w.fits h in
      let first = live_decides (region_of s image r) (Want.Key key) x o.event in
      let (alive, key_is) = wanted key x first.passes in
      (record { stored = record { number = o.number; member = subst (λ (xs : List Record). Memᴰ x xs) (sym first.split) (middle first.before x first.after) }; alive = alive }, key_is)

  -- and a live record of the key is found
  pub is_found : (r : ℕ) (x : Record) → Live s n image r x → x.key ≡ key → lookup_in key need s image (probes key n) ≡ Looked.Live r x
  is_found r x l k = go (lookup_in key need s image (probes key n)) refl
    where
      go : (t : Looked) → lookup_in key need s image (probes key n) ≡ t → t ≡ Looked.Live r x
      go (Looked.Live q y) e =
          let (m, j) = found_live q y e in
          let (a, b) = w.once q r y x m l (j ∙ sym k) in
          λ i. Looked.Live (a i) (b i)
      go (Looked.Bad f p) e = absurd (never_bad f p e)
      go (Looked.Through seen) e = absurd (not_there seen e r x l k)
