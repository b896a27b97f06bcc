-- Collect: a region's verdict, by where its walk ends.
-- Assumes nothing.
use Prim.Native.Nat.{ℕ, ◌≤◌}
use native.Mathlib.Omega.{arith}
use mathlib.Core.Path.{◌≡◌, refl, sym, ◌∙◌}
use mathlib.Core.List.{List}
use lib.Dec.{eqb}
use lib.ListN.{length}
use borrow.Author.Tests.{eq-eqb, ne_eqb}
use Rattle.format.specs.declared.Record.{Record}
use Rattle.region.specs.declared.Stop.{Stop}
use Rattle.region.specs.declared.Want.{Want}
use Rattle.region.specs.declared.Event.{Event}
use Rattle.region.specs.Walk.{records, event_of, event_in}
use Rattle.region.proofs.Steps.{found_fits, place_of}
use Rattle.region.proofs.Reach.{Reach, reach_le, reach_stop}
use Rattle.region.proofs.Theorems.{stop_decides, stop_within}
use Rattle.sweeping.specs.declared.Verdict.{Verdict}
use Rattle.sweeping.specs.Sweeps.{no_records, verdict}

-- A walk that is back where it began met no record: a record has 15 bytes or more.
reach_none : {r : List ℕ} {o p : ℕ} {xs : List Record} → Reach r o p xs → no_records xs ≡ eqb p o
reach_none {o = o} Reach.here = sym (eq-eqb o o refl)
reach_none {r} {o} {p} (Reach.past {x = x} h k) =
    let f = found_fits r o x h in
    let l = reach_le k in
    sym (ne_eqb p o (λ e. omega arith))

-- a bad place, or the end, lies in the region
pub stop_inside : (region : List ℕ) (stop : Stop) → event_in region Want.Any ≡ event_of stop → place_of stop ≤ length region
stop_inside region stop e = let (_, same) = stop_decides region Want.Any stop e in rw (← same) (stop_within region)

-- A walk that ends: its place says whether there are records.
module _ (q : ℕ) (region : List ℕ) {e : Event} {o : ℕ} (found : e ≡ event_in region Want.Any) (ends : e ≡ Event.End o) where
  end_none : no_records (records region) ≡ eqb o 0
  end_none = let (_, stop) = stop_decides region Want.Any (Stop.End o) (sym found ∙ ends) in rw (reach_none (reach_stop region), stop)

  pub verdict_none : o ≡ 0 → Verdict.Stands ≡ verdict q region
  verdict_none h = rw (sym found ∙ ends, end_none, eq-eqb o 0 h)

  pub verdict_dead : (o ≡ 0 → ⊥) → Verdict.Erase ≡ verdict q region
  verdict_dead h = rw (sym found ∙ ends, end_none, ne_eqb o 0 h)
