-- On a well-formed image the answers are what the bindings say.
-- Assumes nothing.
use Prim.Native.Nat.{ℕ, ◌+◌, ◌≤◌, ◌<◌}
use native.Mathlib.Omega.{arith}
use mathlib.Core.Path.{◌≡◌, refl, sym, ◌∙◌, ap, subst}
use mathlib.Core.Bool.{true}
use mathlib.Core.List.{List, ◌++◌}
use lib.ListN.{length, take, drop, length-take, length-drop}
use borrow.Author.Tests.{lt-ltb, le-ltb}
use Rattle.std.specs.Prelude.{Ok, Some, None, Err}
use Rattle.chip.specs.Geometry.{Fits, region_of}
use Rattle.chip.proofs.Image.{fits_geometry}
use Rattle.probe.specs.Probe.{allowed_key, probes}
use Rattle.format.specs.declared.Record.{Record}
use Rattle.format.specs.Layout.{record_length, check_sum_fits}
use Rattle.region.specs.Walk.{bytes_in, value_length, value_in}
use Rattle.refusals.specs.declared.Refusal.{Refusal}
use Rattle.lookup.specs.declared.Looked.{Looked}
use Rattle.refusals.specs.Refusals.{first_refusal}
use Rattle.lookup.specs.Turns.{lookup_in, hit_by, hit_of, hits}
use Rattle.lookup.proofs.Ends.{held}
use Rattle.plans.specs.declared.Success.TheVariants.{Complete}
use Rattle.plans.specs.Writes.{applied}
use Rattle.store.specs.Read.{got_by, get_of}
use Rattle.store.specs.Write.{refused, append_of}
use Rattle.bindings.specs.WellFormed.{WellFormed, Bound}
use Rattle.bindings.proofs.Lookups.{never_bad, found_live, is_found}

-- nothing is refused before reading
pub fine_first : (image : List ℕ) (s n key len : ℕ) → Fits image s n → allowed_key key ≡ true → len ≤ 4079 → first_refusal image s n key len ≡ Ok tt
unfolding first_refusal
fine_first image s n key len f k l = rw (fits_geometry f, k, le-ltb 4079 len l)

-- the value of a record that lies in the region is as long as the record says
value_long : (region : List ℕ) (x : Record) → 15 ≤ x.len → x.at + x.len ≤ length region → length (value_in region x) ≡ value_length x
value_long region x l f = simp (length-take, length-drop) (omega arith)

module _ {s n : ℕ} {image : List ℕ} (w : WellFormed s n image) (key : ℕ) where
  -- a bound key is hit
  pub hit_bound : {value : List ℕ} (b : Bound s n image key value) → hit_of image s n key ≡ hits b.region b.rec
  unfolding hit_of
  hit_bound b =
      let k : allowed_key key ≡ true = subst (λ (t : ℕ). allowed_key t ≡ true) b.key_is (w.keys b.region b.rec b.held) in
      rw (fine_first image s n key 0 w.fits k (omega arith), is_found w key None b.region b.rec b.held b.key_is)

  -- its record says the value's length, and its sum is right
  long_of : {value : List ℕ} (b : Bound s n image key value) → (value_length b.rec ≡ length value) × (check_sum_fits (bytes_in (region_of s image b.region) b.rec) ≡ true)
  long_of b =
      let h = held image s n key b.region b.rec (hit_bound b) in
      let long = value_long (region_of s image b.region) b.rec h.found.least (omega (arith, h.found.fits, h.size)) in
      (sym long ∙ ap length b.value_is, w.sums b.region b.rec b.held)

  pub get_bound : {value : List ℕ} (b : Bound s n image key value) (buffer : List ℕ) → length value ≤ length buffer
      → get_of image s n key buffer ≡ record { answer = Ok (Complete (length value)); buffer = value ++ drop (length value) buffer }
  unfolding get_of
  get_bound {value} b buffer h =
      let (n, c) = long_of b in
      rw (hit_bound b, b.value_is, n, le-ltb (length buffer) (length value) h, c)

  pub get_short : {value : List ℕ} (b : Bound s n image key value) (buffer : List ℕ) → length buffer < length value
      → get_of image s n key buffer ≡ record { answer = Err (Refusal.BufferTooSmall (length value)); buffer = take (length buffer) value }
  unfolding get_of
  get_short {value} b buffer h =
      let (n, c) = long_of b in
      rw (hit_bound b, b.value_is, n, lt-ltb (length buffer) (length value) h)

  -- an unbound key is missed, if it is a key at all
  pub get_unbound : (buffer : List ℕ) → allowed_key key ≡ true → ((value : List ℕ) → Bound s n image key value → ⊥)
      → get_of image s n key buffer ≡ record { answer = Err Refusal.KeyNotFound; buffer = buffer }
  unfolding get_of hit_of
  get_unbound buffer k none = rw (fine_first image s n key 0 w.fits k (omega arith)) (go (lookup_in key None s image (probes key n)) refl)
    where
      go : (l : Looked) → lookup_in key None s image (probes key n) ≡ l → got_by s image buffer (hit_by l) ≡ record { answer = Err Refusal.KeyNotFound; buffer = buffer }
      go (Looked.Live r x) e =
          let (live-there, key_is) = found_live w key None r x e in
          absurd (none (value_in (region_of s image r) x) (record { region = r; rec = x; held = live-there; key_is = key_is; value_is = refl }))
      go (Looked.Bad f p) e = absurd (never_bad w key None f p e)
      go (Looked.Through seen) e = refl

  -- append of a bound key is refused, whatever the value
  pub append_bound : {held-value : List ℕ} (b : Bound s n image key held-value) (value : List ℕ) → length value ≤ 4079 → append_of image s n key value ≡ refused Refusal.KeyAlreadyExists image
  unfolding append_of applied
  append_bound b value l =
      let k : allowed_key key ≡ true = subst (λ (t : ℕ). allowed_key t ≡ true) b.key_is (w.keys b.region b.rec b.held) in
      rw (fine_first image s n key (length value) w.fits k l, is_found w key (Some (record_length (length value))) b.region b.rec b.held b.key_is)
