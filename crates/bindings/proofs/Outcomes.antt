-- The cases of each operation: how it ends, and what it leaves.
-- Assumes nothing.
use Prim.Native.Nat.{ℕ, ◌+◌, ◌*◌, ◌≤◌, ◌<◌}
use mathlib.Core.Path.{◌≡◌, refl, sym}
use mathlib.Core.Bool.{true, false}
use mathlib.Core.List.{List}
use lib.ListN.{length}
use Rattle.std.specs.Prelude.{Result, Ok, Err, Option, Some, None}
use Rattle.chip.specs.Chip.{written}
use Rattle.chip.specs.Geometry.{Fits}
use Rattle.probe.specs.Probe.{allowed_key, probes}
use Rattle.probe.proofs.Theorems.{members}
use Rattle.format.specs.declared.Record.{Record}
use Rattle.format.specs.declared.Fault.{Fault}
use Rattle.format.specs.declared.Removal.{Removal}
use Rattle.format.specs.Layout.{record_length, record_bytes, kill_place, kill_bytes}
use Rattle.refusals.specs.declared.Refusal.{Refusal}
use Rattle.lookup.specs.declared.Room.{Room}
use Rattle.lookup.specs.declared.Seen.{Seen}
use Rattle.lookup.specs.declared.Looked.{Looked}
use Rattle.lookup.specs.declared.Hit.{Hit}
use Rattle.refusals.specs.Refusals.{refusal_of, first_refusal}
use Rattle.lookup.specs.Words.{first_room}
use Rattle.lookup.specs.Turns.{lookup_in, hit_by, hit_after, hit_of, hits}
use Rattle.lookup.proofs.Scan.{fine, gathered_first, room_from, Roomy, room_cases}
use Rattle.plans.specs.declared.Success.TheVariants.{Written}
use Rattle.plans.specs.Writes.{applied}
use Rattle.planning.specs.Planning.{place_plan}
use Rattle.store.specs.Write.{Done, refused, carried, append_by, append_after, append_of, remove_by, remove_of}

-- What is allowed before anything is read.
pub record Allowed (image : List ℕ) (s n key len : ℕ) : Type 0 where
  pub fits : Fits image s n
  pub key_is : allowed_key key ≡ true
  pub size : len ≤ 4079

pub allowed : (image : List ℕ) (s n key len : ℕ) → first_refusal image s n key len ≡ Ok tt → Allowed image s n key len
allowed image s n key len h = let (f, k, l) = fine image s n key len h in record { fits = f; key_is = k; size = l }

-- The search of get and of the removals.
pub data Hitting (image : List ℕ) (s n key : ℕ) : Result Hit Refusal → Type 0 where
  early : (w : Refusal) → first_refusal image s n key 0 ≡ Err w → Hitting image s n key (Err w)
  bad : (f : Fault) (p : ℕ) → Allowed image s n key 0 → lookup_in key None s image (probes key n) ≡ Looked.Bad f p → Hitting image s n key (Err (refusal_of f))
  missing : (seen : Seen) → Allowed image s n key 0 → lookup_in key None s image (probes key n) ≡ Looked.Through seen → Hitting image s n key (Err Refusal.KeyNotFound)
  hit : (r : ℕ) (x : Record) → Allowed image s n key 0 → lookup_in key None s image (probes key n) ≡ Looked.Live r x → Hitting image s n key (hits r x)

pub hitting : (image : List ℕ) (s n key : ℕ) → Hitting image s n key (hit_of image s n key)
unfolding hit_of
hitting image s n key = check (first_refusal image s n key 0) refl
  where
    look : Allowed image s n key 0 → (l : Looked) → lookup_in key None s image (probes key n) ≡ l → Hitting image s n key (hit_by l)
    look a (Looked.Live r x) e = hit r x a e
    look a (Looked.Bad f p) e = bad f p a e
    look a (Looked.Through seen) e = missing seen a e

    check : (c : Result (Unit {0}) Refusal) → first_refusal image s n key 0 ≡ c → Hitting image s n key (hit_after image s n key c)
    check (Err w) e = early w e
    check (Ok u) e = look (allowed image s n key 0 e) (lookup_in key None s image (probes key n)) refl

-- A removal: what it leaves where the key's live record was found.
abbrev pub removed : Removal → ℕ → List ℕ → ℕ → Record → List ℕ
removed how s image r x = written image (r * s + kill_place how x) (kill_bytes how x)

pub data Removing (how : Removal) (image : List ℕ) (s n key : ℕ) : Done → Type 0 where
  not_hit : (w : Refusal) → Hitting image s n key (Err w) → Removing how image s n key (refused w image)
  removes : (r : ℕ) (x : Record) → lookup_in key None s image (probes key n) ≡ Looked.Live r x
      → Removing how image s n key (record { answer = Ok Written; image = removed how s image r x })

removing_by : (how : Removal) (image : List ℕ) (s n key : ℕ) (t : Result Hit Refusal) → Hitting image s n key t → Removing how image s n key (remove_by how s image key t)
unfolding applied
removing_by how image s n key (Err w) h = not_hit w h
removing_by how image s n key (Ok _) (hit r x a e) = removes r x e

pub removing : (how : Removal) (image : List ℕ) (s n key : ℕ) → Removing how image s n key (remove_of how image s n key)
unfolding remove_of
removing how image s n key = removing_by how image s n key (hit_of image s n key) (hitting image s n key)

-- Append.
pub data Appending (image : List ℕ) (s n key : ℕ) (value : List ℕ) : Done → Type 0 where
  early : (w : Refusal) → first_refusal image s n key (length value) ≡ Err w → Appending image s n key value (refused w image)
  there : (r : ℕ) (x : Record) → Allowed image s n key (length value) → lookup_in key (Some (record_length (length value))) s image (probes key n) ≡ Looked.Live r x
      → Appending image s n key value (refused Refusal.KeyAlreadyExists image)
  bad : (f : Fault) (p : ℕ) → Allowed image s n key (length value) → lookup_in key (Some (record_length (length value))) s image (probes key n) ≡ Looked.Bad f p
      → Appending image s n key value (refused (refusal_of f) image)
  full : (seen : Seen) → Allowed image s n key (length value) → lookup_in key (Some (record_length (length value))) s image (probes key n) ≡ Looked.Through seen
      → first_room (record_length (length value)) s image (probes key n) ≡ None → Appending image s n key value (refused Refusal.FlashFull image)
  unblank : (seen : Seen) (r o : ℕ) → Allowed image s n key (length value) → lookup_in key (Some (record_length (length value))) s image (probes key n) ≡ Looked.Through seen
      → r < n → Roomy image s (record_length (length value)) r o false → Appending image s n key value (refused Refusal.CorruptData image)
  wrote : (seen : Seen) (r o : ℕ) → Allowed image s n key (length value) → lookup_in key (Some (record_length (length value))) s image (probes key n) ≡ Looked.Through seen
      → r < n → Roomy image s (record_length (length value)) r o true
      → Appending image s n key value (record { answer = Ok Written; image = written image (r * s + o) (record_bytes key value) })

module _ (image : List ℕ) (s n key : ℕ) (value : List ℕ) where
  abbrev looked : Looked
  looked = lookup_in key (Some (record_length (length value))) s image (probes key n)

  placing : (seen : Seen) → Allowed image s n key (length value) → looked ≡ Looked.Through seen
      → (t : Option Room) → first_room (record_length (length value)) s image (probes key n) ≡ t → Appending image s n key value (carried s key value image (place_plan t))
  unfolding applied
  placing seen a e =
      room_cases
      (λ t. first_room (record_length (length value)) s image (probes key n) ≡ t → Appending image s n key value (carried s key value image (place_plan t)))
      (λ q. full seen a e q)
      (λ r o q. let (m, y) = room_from (record_length (length value)) s image (probes key n) r o false q in unblank seen r o a e ((members key n r a.fits.shape.n_least).1 m) y)
      (λ r o q. let (m, y) = room_from (record_length (length value)) s image (probes key n) r o true q in wrote seen r o a e ((members key n r a.fits.shape.n_least).1 m) y)

  looking : Allowed image s n key (length value) → (l : Looked) → looked ≡ l → Appending image s n key value (append_by s image key value l)
  unfolding applied
  looking a (Looked.Live r x) e = there r x a e
  looking a (Looked.Bad f p) e = bad f p a e
  looking a (Looked.Through seen) e = placing seen a e _ (sym (gathered_first key (record_length (length value)) s image (probes key n) e))

  pub appending : Appending image s n key value (append_of image s n key value)
  unfolding append_of
  appending = check (first_refusal image s n key (length value)) refl
    where
      check : (c : Result (Unit {0}) Refusal) → first_refusal image s n key (length value) ≡ c → Appending image s n key value (append_after image s n key value c)
      check (Err w) e = early w e
      check (Ok u) e = looking (allowed image s n key (length value) e) looked refl
