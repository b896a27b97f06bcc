-- Each operation leaves a well-formed image, and does to its bindings what it says.
-- Assumes nothing.
use Prim.Native.Nat.{ℕ, ◌+◌, ◌-◌, ◌*◌, ◌^◌, ◌≤◌, ◌<◌}
use native.Mathlib.Omega.{arith}
use mathlib.Core.Path.{◌≡◌, refl, sym, ◌∙◌, ap, subst}
use mathlib.Core.Bool.{true}
use mathlib.Core.Logic.{◌⊎◌, inl, inr, ⊎_elim, ◌↔◌}
use mathlib.Core.List.{List}
use lib.ListN.{length, take, drop}
use lib.Seq.{take_all}
use Rattle.std.specs.Prelude.{Some}
use Rattle.chip.specs.Chip.{Bytes, written, erased, is_blank}
use Rattle.chip.specs.Geometry.{region_of, erase_region}
use Rattle.chip.proofs.Image.{region-length}
use Rattle.probe.specs.Probe.{probes}
use Rattle.format.specs.declared.Record.{Record}
use Rattle.region.specs.declared.Stop.{Stop}
use Rattle.region.specs.declared.Want.{Want}
use Rattle.format.specs.declared.Removal.{Removal}
use Rattle.format.specs.Layout.{record_length, record_bytes, kill_place, kill_bytes}
use Rattle.region.specs.Walk.{records, bytes_in, value_in, record_of, is_wanted}
use Rattle.format.proofs.Bytes.{length_record}
use Rattle.region.proofs.Theorems.{append_writes, reads_back, records_within}
use Rattle.region.proofs.Search.{None}
use Rattle.lookup.specs.declared.Seen.{Seen}
use Rattle.lookup.specs.declared.Looked.{Looked}
use Rattle.lookup.specs.Turns.{lookup_in}
use Rattle.lookup.proofs.Scan.{Roomy}
use Rattle.pinned.proofs.Written.{region_bytes, kill_fits}
use Rattle.bindings.specs.WellFormed.{Live, WellFormed, Bound}
use Rattle.bindings.proofs.Members.{Around, around}
use Rattle.bindings.proofs.Sound.{Sound, sound_append, removed_from, sound_remove, sound_blank}
use Rattle.bindings.proofs.Images.{sound_region, Changed, write_changes, erase_changes, Effect, live_before, live_after, live_new, well_formed_after}
use Rattle.bindings.proofs.Effects.{append_effect, remove_effect, erase_effect}
use Rattle.bindings.proofs.Lookups.{not_there}
use Rattle.bindings.proofs.Outcomes.{Allowed, removed}

-- A binding is carried from one image to another where its record is live there too, with the same bytes.
carried : {s n : ℕ} {image' image : List ℕ} {key : ℕ} {value : List ℕ} (b : Bound s n image key value) → Live s n image' b.region b.rec
    → bytes_in (region_of s image' b.region) b.rec ≡ bytes_in (region_of s image b.region) b.rec → Bound s n image' key value
carried b l e = record { region = b.region; rec = b.rec; held = l; key_is = b.key_is; value_is = ap (λ (bytes : List ℕ). take (b.rec.len - 15) (drop 11 bytes)) e ∙ b.value_is }

-- Append writes at the end of a region whose tail is blank.
module _ {s n : ℕ} {image : List ℕ} (w : WellFormed s n image) (key : ℕ) (value : List ℕ) (k : key < 2 ^ 64) (v : Bytes value)
    (a : Allowed image s n key (length value)) (seen : Seen) (e : lookup_in key (Some (record_length (length value))) s image (probes key n) ≡ Looked.Through seen)
    (r o : ℕ) (h : r < n) (y : Roomy image s (record_length (length value)) r o true) where
  ground : Sound (region_of s image r)
  ground = sound_region w r h

  at_end : ground.end ≡ o
  at_end = let p : Stop.End ground.end ≡ Stop.End o = sym ground.ends ∙ y.ends in cc

  fits : ground.end + record_length (length value) ≤ length (region_of s image r)
  fits = omega (arith, at_end, y.enough)

  changed : Changed s n image (written image (r * s + o) (record_bytes key value)) r (written (region_of s image r) ground.end (record_bytes key value))
  changed = subst (λ (p : ℕ). Changed s n image (written image (r * s + o) (record_bytes key value)) r (written (region_of s image r) p (record_bytes key value))) (sym at_end)
      (write_changes r o (record_bytes key value) w.fits w.bytes h (omega (arith, y.enough, length_record key value, region-length w.fits h)))

  effect : Effect (written (region_of s image r) ground.end (record_bytes key value)) (region_of s image r) (λ x. x ≡ record_of ground.end key value) (λ _. ⊥)
  effect = append_effect (region_of s image r) ground key value fits k a.size v

  pub append_keeps : WellFormed s n (written image (r * s + o) (record_bytes key value))
  append_keeps =
      well_formed_after changed effect w (sound_append (region_of s image r) ground key value fits k a.size v)
      (λ x q. rw q a.key_is)
      (λ x z q t. q ∙ sym t)
      (λ x z q d l t. not_there w key (Some (record_length (length value))) seen e q z l (sym t ∙ ap (λ (b : Record). b.key) d))

  place_blank : is_blank (take (record_length (length value)) (drop ground.end (region_of s image r))) ≡ true
  place_blank = rw at_end (sym y.blankness)

  new_value : value_in (written (region_of s image r) ground.end (record_bytes key value)) (record_of ground.end key value) ≡ value
  new_value =
      let bytes = append_writes (region_of s image r) ground.end key value place_blank fits a.size v in
      let whole : take (record_length (length value)) (record_bytes key value) ≡ record_bytes key value = take_all (record_length (length value)) (record_bytes key value) (omega (arith, length_record key value)) in
      let (_, _, says, _) = reads_back key value k a.size in
      ap (λ (b : List ℕ). take (record_length (length value) - 15) (drop 11 b)) (bytes ∙ sym whole) ∙ says

  pub new_bound : Bound s n (written image (r * s + o) (record_bytes key value)) key value
  new_bound = record {
    region = r;
    rec = record_of ground.end key value;
    held = live_new changed effect (record_of ground.end key value) refl;
    key_is = refl;
    value_is = ap (λ (t : List ℕ). value_in t (record_of ground.end key value)) changed.this ∙ new_value;
  }

  -- it lies in the region that had room
  pub new_region : new_bound.region ≡ r
  unfolding new_bound
  new_region = refl

  pub append_binds : (key' : ℕ) (value' : List ℕ)
      → Bound s n (written image (r * s + o) (record_bytes key value)) key' value' ↔ (((key' ≡ key) × (value' ≡ value)) ⊎ Bound s n image key' value')
  append_binds key' value' = (to, from)
    where
      to : Bound s n (written image (r * s + o) (record_bytes key value)) key' value' → ((key' ≡ key) × (value' ≡ value)) ⊎ Bound s n image key' value'
      to b =
          ⊎_elim
          (λ old. inr (carried b old.0 (sym old.1)))
          (λ new. inl (
            sym b.key_is ∙ ap (λ (x : Record). x.key) new.1,
            sym b.value_is ∙ (λ i. value_in (region_of s (written image (r * s + o) (record_bytes key value)) (new.0 i)) (new.1 i))
                ∙ ap (λ (t : List ℕ). value_in t (record_of ground.end key value)) changed.this ∙ new_value,
          ))
          (live_before changed effect b.region b.rec b.held)

      from : ((key' ≡ key) × (value' ≡ value)) ⊎ Bound s n image key' value' → Bound s n (written image (r * s + o) (record_bytes key value)) key' value'
      from (inl (p, q)) = rw (p, q) new_bound
      from (inr b) =
          let (l, same) = live_after changed effect b.region b.rec b.held (λ _ g. g) in
          carried b l same

-- A removal writes over the key's live record.
module _ {s n : ℕ} {image : List ℕ} (w : WellFormed s n image) (how : Removal) (r : ℕ) (x : Record) (l : Live s n image r x) where
  split : Around (records (region_of s image r)) x
  split = around l.stored.member

  plain : Bytes (region_of s image r)
  plain = region_bytes s image r w.bytes

  firm : Sound (region_of s image r)
  firm = sound_region w r l.stored.number

  replaced : Changed s n image (removed how s image r x) r (removed_from how (region_of s image r) x)
  replaced =
      let (least, inside) = records_within (region_of s image r) split.before x split.after split.split in
      write_changes r (kill_place how x) (kill_bytes how x) w.fits w.bytes l.stored.number (omega (arith, kill_fits how x least, inside, region-length w.fits l.stored.number))

  killed : Effect (removed_from how (region_of s image r) x) (region_of s image r) (λ _. ⊥) (λ y. y ≡ x)
  killed = remove_effect how (region_of s image r) plain firm split.before x split.after split.split

  pub remove_keeps : WellFormed s n (removed how s image r x)
  remove_keeps =
      well_formed_after replaced killed w (sound_remove how (region_of s image r) plain firm split.before x split.after split.split)
      (λ y z. absurd z) (λ y z a b. absurd a) (λ y z q a b c. absurd a)

  pub remove_unbinds : (key' : ℕ) (value' : List ℕ) → Bound s n (removed how s image r x) key' value' ↔ (Bound s n image key' value' × (key' ≡ x.key → ⊥))
  remove_unbinds key' value' = (to, from)
    where
      to : Bound s n (removed how s image r x) key' value' → Bound s n image key' value' × (key' ≡ x.key → ⊥)
      to b =
          ⊎_elim
          (λ old. (
            carried b old.0 (sym old.1),
            λ k. let (p, q) = w.once b.region r b.rec x old.0 l (b.key_is ∙ k) in old.2 p q,
          ))
          (λ new. absurd new.1)
          (live_before replaced killed b.region b.rec b.held)

      from : Bound s n image key' value' × (key' ≡ x.key → ⊥) → Bound s n (removed how s image r x) key' value'
      from (b, other) =
          let (m, same) = live_after replaced killed b.region b.rec b.held (λ _ q. other (sym b.key_is ∙ ap (λ (z : Record). z.key) q)) in
          carried b m same

-- An erase of a region without live records.
module _ {s n : ℕ} {image : List ℕ} (w : WellFormed s n image) (r : ℕ) (h : r < n) (dull : None (is_wanted Want.Any) (records (region_of s image r))) where
  wiped : Effect (erased s) (region_of s image r) (λ _. ⊥) (λ _. ⊥)
  wiped = erase_effect s (region_of s image r) dull

  pub erase_keeps : WellFormed s n (erase_region s r image)
  erase_keeps = well_formed_after (erase_changes r w.fits w.bytes h) wiped w (sound_blank s) (λ y z. absurd z) (λ y z a b. absurd a) (λ y z q a b c. absurd a)

  pub erase_binds : (key' : ℕ) (value' : List ℕ) → Bound s n (erase_region s r image) key' value' ↔ Bound s n image key' value'
  erase_binds key' value' = (to, from)
    where
      to : Bound s n (erase_region s r image) key' value' → Bound s n image key' value'
      to b =
          ⊎_elim
          (λ old. carried b old.0 (sym old.1))
          (λ new. absurd new.1)
          (live_before (erase_changes r w.fits w.bytes h) wiped b.region b.rec b.held)

      from : Bound s n image key' value' → Bound s n (erase_region s r image) key' value'
      from b =
          let (m, same) = live_after (erase_changes r w.fits w.bytes h) wiped b.region b.rec b.held (λ _ g. g) in
          carried b m same
