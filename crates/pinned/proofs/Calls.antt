-- What a call that reads makes of its lookup's end: get, the removals and append. What collect makes of all regions, and initialise of its get.
-- Assumes nothing.
use Prim.Native.Nat.{ℕ, ◌+◌, ◌*◌, ◌≤◌}
use native.Mathlib.Nat.{zero-add}
use native.Mathlib.Omega.{arith}
use mathlib.Core.Path.{◌≡◌, refl, ◌∙◌, ap, subst}
use mathlib.Core.Bool.{Bool, true, false, cond}
use mathlib.Core.List.{List, []}
use lib.Dec.{ltb}
use lib.ListN.{length}
use Rattle.std.specs.Prelude.{Result, Option, Some, None, Ok, Err}
use Rattle.chip.specs.Chip.{erased, written}
use Rattle.chip.specs.Geometry.{Fits, region_of, numbers}
use Rattle.chip.proofs.Image.{fits_geometry}
use Rattle.probe.specs.Probe.{home, probes}
use Rattle.format.specs.declared.Record.{Record}
use Rattle.format.specs.declared.Removal.{Removal}
use Rattle.format.specs.declared.Fault.TheVariants.{UnsupportedVersion, CorruptData}
use Rattle.format.specs.Layout.{record_length, record_bytes, kill_place, kill_bytes, check_sum_fits}
use Rattle.region.specs.Walk.{bytes_in, value_length}
use Rattle.refusals.specs.declared.Refusal.{Refusal}
use Rattle.lookup.specs.declared.Room.{Room}
use Rattle.lookup.specs.declared.Seen.{Seen}
use Rattle.lookup.specs.declared.Looked.{Looked}
use Rattle.lookup.specs.declared.Hit.{Hit}
use Rattle.refusals.specs.Refusals.{first_refusal}
use Rattle.lookup.specs.Turns.{lookup_in, hit_by, hit_after, hit_of, hits}
use Rattle.lookup.specs.Words.{first_room}
use Rattle.lookup.proofs.Scan.{gathered_first}
use Rattle.plans.specs.declared.Success.TheVariants.{Complete, Written}
use Rattle.plans.specs.Answers.{refusal}
use Rattle.plans.specs.Writes.{applied}
use Rattle.planning.specs.Planning.{place_plan}
use Rattle.store.specs.Read.{got_by, get_of}
use Rattle.store.specs.Write.{Done, carried, append_by, append_of, remove_by, remove_of, initialise_by, initialise_of}
use Rattle.store.specs.Call.{Call, get, append, remove, collect, initialise, outcome, answer_of}
use Rattle.pinned.specs.When.{Reads, Looks, get_looks, remove_looks}
use Rattle.pinned.specs.Left.{erased_in, erased_by, erase_all}
use Rattle.pinned.proofs.Early.{keyless, Early, early_is, outcome_is}
use Rattle.pinned.proofs.Swept.{ended_by, collect_law}
use Rattle.pinned.proofs.Blank.{blank_append}

module _ (image : List ℕ) (s n : ℕ) where
  -- What a call that reads makes of its lookup's end.

  abbrev pub ends : ℕ → Option ℕ → Looked
  ends key need = lookup_in key need s image (probes key n)

  pub hit_is : {c : Call} {key : ℕ} → Reads image s n c → Looks c key None → hit_of image s n key ≡ hit_by (ends key None)
  unfolding hit_of first_refusal
  hit_is {c} {key} reads get_looks = ap (hit_after image s n key) (early_is {c = c} (Early.fine reads))
  hit_is {c} {key} reads remove_looks = ap (hit_after image s n key) (early_is {c = c} (Early.fine reads))

  pub got_live : {key r : ℕ} {x : Record} (buffer : List ℕ) → Reads image s n (get key buffer) → ends key None ≡ Looked.Live r x
      → get_of image s n key buffer ≡ got_by s image buffer (hits r x)
  unfolding get_of
  got_live buffer reads e = ap (got_by s image buffer) (hit_is reads get_looks ∙ ap hit_by e)

  -- A removal of a live record.
  pub removed_live : {how : Removal} {key r : ℕ} {x : Record} → Reads image s n (remove how key) → ends key None ≡ Looked.Live r x
      → outcome (remove how key) image s n ≡ record { answer = Ok Written; image = written image (r * s + kill_place how x) (kill_bytes how x) }
  unfolding remove_of applied
  removed_live {how} {key} reads e = ap (remove_by how s image key) (hit_is reads remove_looks ∙ ap hit_by e)

  pub append_by_lem : {key : ℕ} {value : List ℕ} {l : Looked} → Reads image s n (append key value) → ends key (Some (record_length (length value))) ≡ l
      → outcome (append key value) image s n ≡ append_by s image key value l
  append_by_lem {key} {value} reads e = outcome_is {c = append key value} (Early.fine reads) ∙ ap (append_by s image key value) e

  pub append_placed : {key : ℕ} {value : List ℕ} {seen : Seen} {room : Option Room} → Reads image s n (append key value)
      → ends key (Some (record_length (length value))) ≡ Looked.Through seen → first_room (record_length (length value)) s image (probes key n) ≡ room
      → outcome (append key value) image s n ≡ carried s key value image (place_plan room)
  append_placed {key} {value} reads e f = append_by_lem reads e ∙ ap (λ (t : Option Room). carried s key value image (place_plan t)) (gathered_first key (record_length (length value)) s image (probes key n) e ∙ f)

  pub collect_is : Fits image s n
      → outcome collect image s n ≡ record { answer = ended_by s image (s * length (erased_by image s n)) (numbers 0 n); image = erase_all s (erased_by image s n) image }
  collect_is f =
      outcome_is {c = collect} (Early.fine (record { fits = f; key_good = keyless; not_large = omega arith }))
      ∙ collect_law s image n 0 image 0 (λ q l. refl)
      ∙ rw (zero-add (s * length (erased_in s image (numbers 0 n))), fits_geometry f)

  -- Initialise, by its get of the main key into an empty buffer.

  pub initialise_left : (key : ℕ) → refusal (answer_of (get key []) image s n) ≡ 0
      → outcome (initialise key) image s n ≡ record { answer = answer_of (get key []) image s n; image = image }
  unfolding initialise_of
  initialise_left key h = rw h

  abbrev anew : ℕ → Done
  anew key = record { answer = Ok Written; image = written (erased (n * s)) (home key n * s) (record_bytes key []) }

  pub initialise_anew : (key : ℕ) → Reads image s n (initialise key) → 1 ≤ refusal (answer_of (get key []) image s n) → outcome (initialise key) image s n ≡ anew key
  unfolding initialise_of get_of
  initialise_anew key reads h =
      ap (λ (hit : Result Hit Refusal). initialise_by image s n key (got_by s image [] hit).answer) hit
      ∙ go (ends key None) (subst (λ (t : Result Hit Refusal). 1 ≤ refusal (got_by s image [] t).answer) hit h)
    where
      hit : hit_of image s n key ≡ hit_by (ends key None)
      hit = hit_is (record { fits = reads.fits; key_good = reads.key_good; not_large = omega arith }) (get_looks {buffer = []})

      blank : append_of (erased (n * s)) s n key [] ≡ anew key
      blank = blank_append reads.fits.shape key reads.key_good

      value : (len : ℕ) (b d : Bool) → 1 ≤ refusal (cond b (Err (Refusal.BufferTooSmall len)) (cond d (Ok (Complete len)) (Err Refusal.InvalidCheckSum)))
          → initialise_by image s n key (cond b (Err (Refusal.BufferTooSmall len)) (cond d (Ok (Complete len)) (Err Refusal.InvalidCheckSum))) ≡ anew key
      value len true d h = blank
      value len false true h = absurd (omega arith)
      value len false false h = blank

      go : (l : Looked) → 1 ≤ refusal (got_by s image [] (hit_by l)).answer → initialise_by image s n key (got_by s image [] (hit_by l)).answer ≡ anew key
      go (Looked.Live r x) h = value (value_length x) (ltb 0 (value_length x)) (check_sum_fits (bytes_in (region_of s image r) x)) h
      go (Looked.Bad UnsupportedVersion p) h = blank
      go (Looked.Bad CorruptData p) h = blank
      go (Looked.Through seen) h = blank
