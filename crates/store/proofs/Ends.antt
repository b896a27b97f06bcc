-- The plan that an operation makes of its lookup's end lies in the image.
-- Assumes nothing.
use Prim.Native.Nat.{ℕ, ◌+◌, ◌≤◌}
use native.Mathlib.Omega.{arith}
use mathlib.Core.Path.{◌≡◌, refl, sym, ◌∙◌}
use mathlib.Core.Bool.{Bool, true}
use mathlib.Core.List.{List, []}
use lib.ListN.{length}
use borrow.Author.Tests.{lt-ltb}
use Rattle.lookup.specs.Gather.{some_room}
use Rattle.std.specs.Prelude.{Result, Ok, Option, Some}
use Rattle.chip.specs.Geometry.{Fits}
use Rattle.probe.specs.Probe.{probes}
use Rattle.format.specs.declared.Record.{Record}
use Rattle.format.specs.declared.Removal.{Removal}
use Rattle.format.specs.Layout.{record_length, kill_place, kill_bytes}
use Rattle.format.proofs.Killed.{kill_length_lem}
use Rattle.refusals.specs.declared.Refusal.{Refusal}
use Rattle.lookup.specs.declared.Room.{Room}
use Rattle.lookup.specs.declared.Looked.{Looked}
use Rattle.lookup.specs.declared.Hit.{Hit}
use Rattle.refusals.specs.Refusals.{first_refusal}
use Rattle.lookup.specs.Turns.{lookup_in, hit_of, hits}
use Rattle.lookup.proofs.Scan.{room_cases, fine}
use Rattle.lookup.proofs.Ends.{Placed, held, placed_at}
use Rattle.plans.specs.declared.Plan.{Plan}
use Rattle.plans.specs.Fits.{edits_fit}
use Rattle.planning.specs.Planning.{place_plan, append_plan, remove_plan}
use Rattle.plans.proofs.Facts.{join, place_fits_lem, record_fits_lem}
use Rattle.store.specs.Write.{carried, append_of, remove_of}

-- A removal's bytes lie within the record.
pub removal_fits : (how : Removal) (x : Record) → 15 ≤ x.len → kill_place how x + length (kill_bytes how x) ≤ x.at + x.len
removal_fits Removal.Invalidate x l = omega arith
removal_fits Removal.Zeroise x l = omega (arith, kill_length_lem Removal.Zeroise x l)

-- Append: the first check lets the call pass, and the lookup's end makes the plan.
module _ (image : List ℕ) (s n key : ℕ) (value : List ℕ) (passed : first_refusal image s n key (length value) ≡ Ok tt) where
  pub append_allowed : Fits image s n × (length value ≤ 4079)
  append_allowed = let (f, _, short) = fine image s n key (length value) passed in (f, short)

  module _ {looked : Looked} {p : Plan} (looks : looked ≡ lookup_in key (Some (record_length (length value))) s image (probes key n)) (planned : p ≡ append_plan looked) where
    pub append_is : carried s key value image p ≡ append_of image s n key value
    unfolding append_of
    append_is = rw (planned, looks, passed)

    -- the place that was gathered lies in its region
    pub append_fits : edits_fit s n (length value) p.edits ≡ true
    append_fits = rw planned (go looked (sym looks))
      where
        placed : (place : Option Room) → ((r o : ℕ) (blank : Bool) → place ≡ some_room r o blank → Placed image s n (record_length (length value)) r o)
            → edits_fit s n (length value) (place_plan place).edits ≡ true
        placed =
            room_cases
            (λ place. ((r o : ℕ) (blank : Bool) → place ≡ some_room r o blank → Placed image s n (record_length (length value)) r o)
            → edits_fit s n (length value) (place_plan place).edits ≡ true)
            (λ h. refl)
            (λ r o h. refl)
            (λ r o h. let q = h r o true refl in place_fits_lem s n (length value) r o (q.number, q.enough))

        go : (l : Looked) → lookup_in key (Some (record_length (length value))) s image (probes key n) ≡ l → edits_fit s n (length value) (append_plan l).edits ≡ true
        go (Looked.Live r x) e = refl
        go (Looked.Bad g o) e = refl
        go (Looked.Through seen) e = placed _ (λ r o blank k. (placed_at image s n key (record_length (length value)) r o blank seen append_allowed.0 e k).0)

-- A removal: the key's record is found, and makes the plan.
module _ (how : Removal) (image : List ℕ) (s n key : ℕ) {hit : Result Hit Refusal} {p : Plan} (looks : hit ≡ hit_of image s n key) (planned : p ≡ remove_plan how hit) where
  pub remove_is : carried s key [] image p ≡ remove_of how image s n key
  unfolding remove_of
  remove_is = rw (planned, looks)

  -- the image is allowed, and the record lies in it
  pub remove_fits : {r : ℕ} {x : Record} → hit ≡ hits r x → Fits image s n × (edits_fit s n 0 p.edits ≡ true)
  remove_fits {r} {x} e =
      let h = held image s n key r x (sym looks ∙ e) in
      (h.fit, rw (planned, e) (join (lt-ltb r n h.found.number) (record_fits_lem s x (h.found.least, h.found.short, h.found.fits))))
