-- What is left of a plan lies in the chip, whatever the region buffer holds.
-- Assumes nothing.
use Prim.Native.Nat.{ℕ, ◌+◌, ◌≤◌, ◌<◌}
use native.Mathlib.Omega.{arith}
use mathlib.Core.Path.{◌≡◌, refl, sym, subst}
use mathlib.Core.Bool.{Bool, true, false, cond, true≢false}
use mathlib.Core.List.{List}
use lib.Dec.{ltb}
use lib.ListN.{length, get_or}
use Rattle.plans.specs.declared.Edit.{Edit}
use Rattle.std.specs.declared.ops.ControlFlow.TheVariants.{Break, Continue}
use Rattle.std.specs.declared.ops.ControlFlow.{ControlFlow}
use Rattle.std.specs.Prelude.{Option, Some, None}
use Rattle.probe.specs.Probe.{probes}
use Rattle.probe.proofs.Theorems.{in_range}
use Rattle.region.specs.declared.Want.{Want}
use Rattle.region.specs.declared.Event.{Event}
use Rattle.region.specs.Walk.{event_in}
use Rattle.lookup.specs.declared.Seen.{Seen}
use Rattle.lookup.specs.declared.Looked.{Looked}
use Rattle.lookup.specs.Turns.{turn, turn_of, close}
use Rattle.lookup.proofs.Scan.{found_lies}
use Rattle.plans.specs.declared.Aim.{Aim}
use Rattle.plans.specs.declared.Lent.{Lent}
use Rattle.plans.specs.declared.Edits.{Edits}
use Rattle.plans.specs.declared.Then.{Then}
use Rattle.plans.specs.declared.Plan.{Plan}
use Rattle.plans.specs.Writes.{value_lent, buffer_lent, first}
use Rattle.plans.specs.Fits.{seen_fits, lent_for, then_fits, rests}
use Rattle.planning.specs.Planning.{need_of, plan}
use Rattle.sweeping.specs.Sweeps.{verdict}
use Rattle.plans.proofs.Facts.{PlanFits, join, record_fits_lem, seek_facts, sweep_facts, rest_of, ends_fits}
use Rattle.sweeping.proofs.Swept.{sweep_fits}
use Rattle.planning.proofs.Plans.{Sound, Known, live, bad, through, fits_sound, given_fits, plan_sound}
use Rattle.values.specs.Values.{read_answer}
use Rattle.running.specs.declared.Op.{Op}
use Rattle.running.specs.Ruled.{Ruled}
use Rattle.running.proofs.Rules.{plan_of}
use Rattle.advancing.specs.Advance.{closes, turned_to, advance_next, advance_first, advance, given_by, given}
use Rattle.planning.proofs.Gathered.{noted_fits}

-- What a lookup's turn leaves: an end that is known, or more that was gathered and lies in the chip.
pub data TurnKnown (s n len : ℕ) : ControlFlow Looked Seen → Type 0 where
  stop : {looked : Looked} → Known s n len looked → TurnKnown s n len (Break looked)
  more : {seen : Seen} → seen_fits s n len seen ≡ true → TurnKnown s n len (Continue seen)

-- Once its value is given, if it gives one, a plan fits.
pub given_rests : (s n : ℕ) (lent : Lent) (region : List ℕ) (p : Plan) → 1 ≤ n → Sound s n lent p → PlanFits s n lent (given n lent region p)
given_rests s n lent region p least h = go p.edits p.next h
  where
    go : (es : Edits) (t : Then) → Sound s n lent (record { edits = es; next = t }) → PlanFits s n lent (given_by n lent region (record { edits = es; next = t }) t)
    go es (Then.Ends answer) h = record { value_short_lem = h.value_short_lem; edits_good = h.edits_good; next_good = refl; at_rest = h.settled }
    go es (Then.Seek aim i seen) h = record { value_short_lem = h.value_short_lem; edits_good = h.edits_good; next_good = h.next_good; at_rest = refl }
    go es (Then.Sweep r k) h = record { value_short_lem = h.value_short_lem; edits_good = h.edits_good; next_good = h.next_good; at_rest = refl }
    go es (Then.Gives r x again) h = given_fits s n lent h.value_short_lem again (read_answer region x (buffer_lent lent)) h.settled least

-- One more region of a lookup.
pub turn_known : (s n len : ℕ) (aim : Aim) (seen : Seen) (key r : ℕ) (region : List ℕ) → r < n → length region ≡ s → seen_fits s n len seen ≡ true
    → TurnKnown s n len (turn_of seen key (need_of aim len) r region)
turn_known s n len aim seen key r region h l f = go (event_in region (Want.Key key)) refl
  where
    go : (v : Event) → event_in region (Want.Key key) ≡ v → TurnKnown s n len (turn seen (need_of aim len) r region v)
    go (Event.Live x) e = let (a, b, c) = found_lies region key x e in stop (live h (record_fits_lem s x (a, b, omega (arith, c))))
    go (Event.Bad g o) e = stop bad
    go (Event.End o) e = more (noted_fits s n len aim seen r region o h l f)

-- The service is done: the plan that is left is sound.
module _ (op : Op) (region : List ℕ) (k : Ruled op) (l : length region ≡ op.s) where
  good : PlanFits op.s op.n op.lent op.plan
  good = plan_of op k

  -- a lookup ended, or goes on
  ended : (aim : Aim) (looked : Looked) → lent_for aim op.lent ≡ true → Known op.s op.n (value_lent op.lent) looked → Sound op.s op.n op.lent (plan aim op.n looked)
  ended aim looked a q = plan_sound op.s op.n op.lent good.value_short_lem aim looked a k.shape.n_least q

  turned : (aim : Aim) (i : ℕ) (t : ControlFlow Looked Seen) → lent_for aim op.lent ≡ true → TurnKnown op.s op.n (value_lent op.lent) t
      → Sound op.s op.n op.lent (turned_to aim op.n i (closes op.n i t))
  turned aim i (Break looked) a (stop q) = ended aim looked a q
  turned aim i (Continue seen) a (more q) = go (ltb (i + 1) op.n) refl
    where
      go : (b : Bool) → ltb (i + 1) op.n ≡ b → Sound op.s op.n op.lent (turned_to aim op.n i (cond b (Continue seen) (Break (close seen))))
      go true e = record { value_short_lem = good.value_short_lem; edits_good = refl; next_good = join a (join e q); settled = refl }
      go false e = ended aim (Looked.Through seen) a (through q)

  -- no edit is left
  next_sound : (t : Then) → then_fits op.s op.n op.lent t ≡ true → rests None t ≡ true → Sound op.s op.n op.lent (advance_next op region t)
  next_sound (Then.Ends answer) h c = fits_sound op.s op.n op.lent _ (ends_fits op.s op.n op.lent good.value_short_lem answer)
  next_sound (Then.Seek aim i seen) h c =
      let (a, b, f) = seek_facts op.s op.n op.lent aim i seen h in
      turned aim i _ a (turn_known op.s op.n (value_lent op.lent) aim seen op.key (get_or (probes op.key op.n) i 0) region (in_range op.key op.n i b) l f)
  next_sound (Then.Sweep r j) h c =
      let (a, b) = sweep_facts op.s op.n op.lent r j h in
      fits_sound op.s op.n op.lent _ (sweep_fits op.s op.n op.lent good.value_short_lem r j (verdict r region) a b)
  next_sound (Then.Gives r x again) h c = absurd (true≢false (sym c))

  pub advance_sound : Sound op.s op.n op.lent (advance op region)
  advance_sound = go (first op.plan.edits) refl
    where
      go : (f : Option Edit) → first op.plan.edits ≡ f → Sound op.s op.n op.lent (advance_first op region f)
      go (Some e) q = fits_sound op.s op.n op.lent _ (rest_of op.s op.n op.lent op.plan good q)
      go None q = next_sound op.plan.next good.next_good (subst (λ (f : Option Edit). rests f op.plan.next ≡ true) q good.at_rest)

  -- Where it gives a value, the record lies in the region buffer.
  pub advance_gives : then_fits (length region) op.n op.lent (advance op region).next ≡ true
  advance_gives = subst (λ (s : ℕ). then_fits s op.n op.lent (advance op region).next ≡ true) (sym l) advance_sound.next_good
