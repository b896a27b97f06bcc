-- Append on a blank image with an empty value: every region is passed, the home region has room at place 0, and the record is written there.
-- Assumes nothing.
use Prim.Native.Nat.{ℕ, ◌+◌, ◌*◌, ◌≤◌, ◌<◌}
use native.Mathlib.Nat.{add-zero}
use native.Mathlib.Omega.{arith}
use mathlib.Core.Path.{◌≡◌, ◌∙◌, ap}
use mathlib.Core.Bool.{true}
use mathlib.Core.List.{List, [], ◌∷◌}
use lib.ListN.{length}
use borrow.Author.Tests.{le-leb}
use Rattle.std.specs.Prelude.{Option, Some, Ok}
use Rattle.chip.specs.Chip.{erased, written}
use Rattle.chip.specs.Geometry.{Shape, region_of}
use Rattle.chip.proofs.Image.{erased_regions, length-erased, fits_blank}
use Rattle.chip.proofs.Laws.{blank-take, blank_erased}
use Rattle.probe.specs.Probe.{home, outward, probe, probes}
use Rattle.probe.proofs.Theorems.{members, home_lt}
use Rattle.region.specs.declared.Want.{Want}
use Rattle.region.specs.declared.Event.{Event}
use Rattle.format.specs.Layout.{record_bytes}
use Rattle.region.specs.Walk.{View, ending, is_wanted, first_of, event_in}
use Rattle.region.proofs.Theorems.{blank_region}
use Rattle.lookup.specs.declared.Room.{Room}
use Rattle.lookup.specs.Gather.{or_room, some_room}
use Rattle.lookup.specs.Words.{room_on, first_room}
use Rattle.lookup.proofs.Scan.{gathered_first}
use Rattle.plans.specs.declared.Success.TheVariants.{Written}
use Rattle.plans.specs.Writes.{applied}
use Rattle.planning.specs.Planning.{place_plan}
use Rattle.store.specs.Write.{carried, append_by, append_of}
use Rattle.store.specs.Call.{append}
use Rattle.pinned.specs.When.{BadKey}
use Rattle.pinned.proofs.Early.{Early, outcome_is}
use Rattle.pinned.proofs.Lookups.{end_passed, through_is}

module _ {s n : ℕ} (shape : Shape s n) where
  blank_event : (key r : ℕ) → r < n → event_in (region_of s (erased (n * s)) r) (Want.Key key) ≡ Event.End 0
  unfolding first_of
  blank_event key r h =
      ap (λ (region : List ℕ). event_in region (Want.Key key)) (erased_regions s h)
      ∙ ap (λ (v : View). first_of (is_wanted (Want.Key key)) v.recs v.stop) (blank_region s)

  -- the first region has room
  first_has : (len r : ℕ) (rs : List ℕ) → r < n → len ≤ s → first_room len s (erased (n * s)) (r ∷ rs) ≡ some_room r 0 true
  unfolding first_room
  first_has len r rs h l =
      let fits : 0 + len ≤ length (erased s) = omega (arith, length-erased s) in
      ap (λ (region : List ℕ). or_room (room_on len r region (ending region)) (first_room len s (erased (n * s)) rs)) (erased_regions s h)
      ∙ ap (λ (v : View). or_room (room_on len r (erased s) v.stop) (first_room len s (erased (n * s)) rs)) (blank_region s)
      ∙ rw (le-leb (0 + len) (length (erased s)) fits)
      (ap (some_room r 0) (blank-take len (erased s) (blank_erased s)))

  pub blank_append : (key : ℕ) → (BadKey (append key []) → ⊥)
      → append_of (erased (n * s)) s n key [] ≡ record { answer = Ok Written; image = written (erased (n * s)) (home key n * s) (record_bytes key []) }
  unfolding probe applied
  blank_append key h =
      let p = shape.n_least in
      let image = erased (n * s) in
      let (seen, none) = (through_is image s key (Some 15) (probes key n)).1 (λ r m. end_passed image s key r (blank_event key r ((members key n r p).1 m))) in
      let l : 15 ≤ s = omega (arith, shape.s_least) in
      outcome_is {c = append key []} (Early.fine (record { fits = fits_blank shape; key_good = h; not_large = omega arith }))
      ∙ ap (append_by s image key []) none
      ∙ ap (λ (room : Option Room). carried s key [] image (place_plan room)) (gathered_first key 15 s image (probes key n) none ∙ first_has 15 (home key n) (outward n (home key n) 1 n) (home_lt key n p) l)
      ∙ ap (λ (at : ℕ). record { answer = Ok Written; image = written image at (record_bytes key []) }) (add-zero (home key n * s))
