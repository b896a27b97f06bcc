-- What people rely on who look into a chip: the value that is lent is the one that get copies, and a pass over a chip gives its records.
-- Assumes nothing.
use Prim.Native.Nat.{ℕ, ◌+◌, ◌≤◌, ◌<◌}
use native.Mathlib.Omega.{arith}
use mathlib.Core.Path.{◌≡◌, sym, ◌∙◌, ap}
use mathlib.Core.Bool.{Bool, true}
use mathlib.Core.Logic.{◌⊎◌, inl, inr, ⊎_elim, ◌↔◌}
use mathlib.Core.List.{List, [], ◌++◌, append-nil, Memᴰ}
use lib.ListN.{length, get_or, take, drop}
use lib.Seq.{drop-length}
use Rattle.format.specs.declared.Record.{Record}
use Rattle.std.specs.Prelude.{Result, Ok, Err}
use Rattle.region.specs.declared.Stop.{Stop}
use Rattle.region.specs.Walk.{met_at}
use Rattle.refusals.specs.declared.Refusal.{Refusal}
use Rattle.plans.specs.declared.Success.TheVariants.{Complete}
use Rattle.plans.specs.Answers.{Answer}
use Rattle.std.specs.Prelude.{Result}
use Rattle.store.specs.Read.{Got, get_of}
use Rattle.bindings.specs.WellFormed.{WellFormed, Bound}
use Rattle.bindings.proofs.Theorems.{get_finds}
use Rattle.lending.specs.declared.Part.{Part}
use Rattle.lending.specs.Lending.{located_of, place_of, companion_of, part_at, value_of}
use Rattle.lending.proofs.Lies.{lent, refused_place}
use Rattle.entries.specs.declared.Entry.{Entry}
use Rattle.entries.specs.declared.Shown.{Shown}
use Rattle.entries.specs.Entries.{entry_in, shown_at}
use Rattle.entries.specs.Inventory.{through, inventory}
use Rattle.viewing.specs.Passes.{pass, whole, calls_for, most_calls}
use Rattle.viewing.proofs.Values as Values
use Rattle.viewing.proofs.Passes as Passes
use Rattle.viewing.proofs.Members as Members
use Rattle.viewing.proofs.Bytes as Bytes

-- The value that is lent. For any image, S, N and key.
module _ (image : List ℕ) (s n key : ℕ) where
  -- R16.1: the companion completes or refuses, and never by BufferTooSmall.
  pub companion_answers : ((len : ℕ) × (companion_of image s n key ≡ Ok (Complete len)))
      ⊎ ((w : Refusal) × (companion_of image s n key ≡ Err w) × ((len : ℕ) → w ≡ Refusal.BufferTooSmall len → ⊥))
  companion_answers = Values.completes_or_refuses image s n key

  -- R16.1: its answer is get's, into any buffer, but for one that is too short for the value: then get's is BufferTooSmall.
  pub companion_is_get : (buffer : List ℕ)
      → ((get_of image s n key buffer).answer ≡ companion_of image s n key)
      ⊎ ((len : ℕ) × (((get_of image s n key buffer).answer ≡ Err (Refusal.BufferTooSmall len)) × (length buffer < len) × (len ≤ 4080)))
  companion_is_get buffer = Values.got_answer image s n key buffer

  -- R16.1: so into a buffer that takes the longest value it is get's, refusals and all.
  pub companion_is_long_get : (buffer : List ℕ) → 4080 ≤ length buffer → (get_of image s n key buffer).answer ≡ companion_of image s n key
  companion_is_long_get buffer h = ⊎_elim (λ e. e) (λ p. absurd (omega (arith, p.1.1, p.1.2))) (companion_is_get buffer)

  -- R16.2, R16.3: where it completes the part is the very bytes at that place of the image, as many as it says, and they lie in the image.
  pub part_is : (len : ℕ) → companion_of image s n key ≡ Ok (Complete len)
      → (value_of image s n key ≡ take len (drop (place_of (located_of image s n key)) image))
      × (length (value_of image s n key) ≡ len)
      × (place_of (located_of image s n key) + len ≤ length image)
  part_is len q = (Values.lent_is image s n key q, Values.lent_length image s n key q, (lent image s n key len q).inside)

  -- R16.3: it is what get copies into a buffer long enough.
  pub part_is_got : (len : ℕ) (buffer : List ℕ) → companion_of image s n key ≡ Ok (Complete len) → len ≤ length buffer
      → get_of image s n key buffer ≡ record { answer = Ok (Complete len); buffer = value_of image s n key ++ drop len buffer }
  part_is_got len buffer q h = Values.lent_got image s n key q buffer h

  -- R16.2, R16.3: where it refuses the place is 0 and the part is empty.
  pub refused_lends_nothing : (w : Refusal) → companion_of image s n key ≡ Err w → (place_of (located_of image s n key) ≡ 0) × (value_of image s n key ≡ [])
  refused_lends_nothing w q = (refused_place image s n key w q, ap (part_at image (place_of (located_of image s n key))) q)

  -- R16.3: the part is empty exactly when the companion refuses or the value is empty.
  pub empty_exactly : (value_of image s n key ≡ []) ↔ (((w : Refusal) × (companion_of image s n key ≡ Err w)) ⊎ (companion_of image s n key ≡ Ok (Complete 0)))
  empty_exactly = (λ e. ⊎_elim (λ c. inr (none e c.0 c.1)) (λ c. inl (c.0, c.1)) companion_answers, λ c. ⊎_elim (λ r. (refused_lends_nothing r.0 r.1).1) nothing c)
    where
      none : value_of image s n key ≡ [] → (len : ℕ) → companion_of image s n key ≡ Ok (Complete len) → companion_of image s n key ≡ Ok (Complete 0)
      none e len q = q ∙ ap (λ (len : ℕ). Ok (Complete len)) (sym (part_is len q).1 ∙ ap length e)

      nothing : companion_of image s n key ≡ Ok (Complete 0) → value_of image s n key ≡ []
      nothing q = (part_is 0 q).0

-- R16.1, R16.3: a bound key's value is lent, and it is the value that was stored.
pub bound_is_lent : {s n : ℕ} {image : List ℕ} → WellFormed s n image → (key : ℕ) (value : List ℕ) → Bound s n image key value
    → (companion_of image s n key ≡ Ok (Complete (length value))) × (value_of image s n key ≡ value)
bound_is_lent {s} {n} {image} w key value b = (completes, is completes)
  where
    got : get_of image s n key value ≡ record { answer = Ok (Complete (length value)); buffer = value ++ drop (length value) value }
    got = get_finds w key value value b (omega arith)

    short : (len : ℕ) → (get_of image s n key value).answer ≡ Err (Refusal.BufferTooSmall len) → ⊥
    short len e =
        let c : Ok (Complete (length value)) ≡ Err (Refusal.BufferTooSmall len) = sym (ap (λ (g : Got). g.answer) got) ∙ e in
        let z : ◌≡◌ {A = ℕ} 0 1 = cc in
        omega arith

    completes : companion_of image s n key ≡ Ok (Complete (length value))
    completes = ⊎_elim (λ e. sym e ∙ ap (λ (g : Got). g.answer) got) (λ p. absurd (short p.0 p.1.0)) (companion_is_get image s n key value)

    is : companion_of image s n key ≡ Ok (Complete (length value)) → value_of image s n key ≡ value
    is q =
        sym (append-nil (value_of image s n key))
        ∙ ap (λ l. value_of image s n key ++ l) (sym (drop-length value))
        ∙ ap (λ (g : Got). g.buffer) (sym (part_is_got image s n key (length value) value q (omega arith)) ∙ got)
        ∙ ap (λ l. value ++ l) (drop-length value)
        ∙ append-nil value

-- What stands at a place.

-- R16.5: where a record stands, its bytes alone say what is shown: those before and behind it may be any.
pub only_the_record : (region' region : List ℕ) (o : ℕ) (x : Record) (sound : Bool) → entry_in region o ≡ Entry.Stands x sound → length region' ≡ length region
    → take x.len (drop o region') ≡ take x.len (drop o region) → entry_in region' o ≡ entry_in region o
only_the_record = Bytes.record_alone

-- R16.5: elsewhere the eleven bytes of a header do.
pub only_the_header : (region' region : List ℕ) (o : ℕ) (s : Stop) → met_at region o ≡ Err s → length region' ≡ length region
    → ((k : ℕ) → k < 11 → get_or region' (o + k) 0 ≡ get_or region (o + k) 0) → entry_in region' o ≡ entry_in region o
only_the_header = Bytes.header_alone

-- A pass over a chip.

-- R16.6: on any image, for any S and N, a pass that makes a call for each record, for each region and one more has come to its end. It was given
-- exactly the records of the parsed views in region and place order, up to the first bad place, and that place.
pub pass_gives_all : (image : List ℕ) (s n k : ℕ) → calls_for (inventory image s n) n ≤ k → pass k image s n ≡ whole (inventory image s n)
pass_gives_all image s n k h = Passes.pass_whole image s n k h

-- R16.6: that is never more than N times S / 15 + 1 calls, and one: so on any image a pass of so many calls has come to its end.
pub pass_ends : (image : List ℕ) (s n k : ℕ) → most_calls s n ≤ k → pass k image s n ≡ whole (inventory image s n)
pass_ends image s n k h = pass_gives_all image s n k (omega (arith, Passes.calls_few_any image s n, h))

-- R16.6: of a well-formed chip it goes through to the last region,
pub well_formed_goes_through : {s n : ℕ} {image : List ℕ} → WellFormed s n image → (inventory image s n).last ≡ through
well_formed_goes_through w = Members.well_formed_through w

-- R16.6: and the record of every bound key is among what it gives, in its region, with a right checksum.
pub bound_is_shown : {s n : ℕ} {image : List ℕ} → WellFormed s n image → (key : ℕ) (value : List ℕ) → (b : Bound s n image key value)
    → Memᴰ (record { region = b.region; rec = b.rec; sound = true }) (inventory image s n).items
bound_is_shown w key value b = Members.live_listed w b.region b.rec b.held

-- R7.5: any two results that a contract allows for one input are identical.
module _ (image : List ℕ) (s n : ℕ) where
  pub value_only_one : (key : ℕ) {a a' : List ℕ} → a ≡ value_of image s n key → a' ≡ value_of image s n key → a ≡ a'
  value_only_one key p p' = p ∙ sym p'

  pub companion_only_one : (key : ℕ) {a a' : Answer} → a ≡ companion_of image s n key → a' ≡ companion_of image s n key → a ≡ a'
  companion_only_one key p p' = p ∙ sym p'

  pub located_only_one : (key : ℕ) {a a' : Result Part Refusal} → a ≡ located_of image s n key → a' ≡ located_of image s n key → a ≡ a'
  located_only_one key p p' = p ∙ sym p'

  pub shown_only_one : (region place : ℕ) {a a' : Shown} → a ≡ shown_at image s n region place → a' ≡ shown_at image s n region place → a ≡ a'
  shown_only_one region place p p' = p ∙ sym p'
