-- The tests of the written rule as facts, and back: what lies in a chip of n regions of s bytes.
-- Assumes nothing.
use Prim.Native.Nat.{ℕ, ◌+◌, ◌-◌, ◌≤◌, ◌<◌}
use native.Mathlib.Omega.{arith}
use mathlib.Core.Path.{◌≡◌, refl, subst}
use mathlib.Core.Bool.{Bool, true, false, ◌&&◌, cond}
use lib.Dec.{ltb, leb}
use borrow.Author.Tests.{ltb-true, leb-true, lt-ltb, le-leb}
use Rattle.std.specs.Prelude.{Option, Some, None}
use Rattle.chip.proofs.Image.{both}
use Rattle.format.specs.declared.Record.{Record}
use Rattle.format.specs.declared.Removal.{Removal}
use Rattle.lookup.specs.declared.Seen.{Seen}
use Rattle.lookup.specs.Gather.{unseen}
use Rattle.plans.specs.declared.Aim.{Aim}
use Rattle.plans.specs.declared.Lent.{Lent}
use Rattle.plans.specs.declared.Edit.{Edit}
use Rattle.plans.specs.declared.Edits.{Edits}
use Rattle.plans.specs.declared.Then.{Then}
use Rattle.plans.specs.declared.Plan.{Plan}
use Rattle.plans.specs.Answers.{Answer}
use Rattle.plans.specs.Writes.{value_lent, in_region, start_of, size_of, first, rest, ends, look}
use Rattle.plans.specs.Fits.{lies, record_fits, place_fits, edit_fits, edits_fit, seen_fits, lent_for, value_short, then_fits, rests, plan_fits}

-- the other way from `both` (chip, Image)
pub join : {t u : Bool} → t ≡ true → u ≡ true → (t && u) ≡ true
join {t} {u} e f = rw (e, f)

-- Places.

pub lies_facts : (o m s : ℕ) → lies o m s ≡ true → o + m ≤ s
lies_facts o m s h =
    let (a, b) = both (leb o s) (leb m (s - o)) h in
    omega (arith, leb-true o s a, leb-true m (s - o) b)

pub lies_fits : (o m s : ℕ) → o + m ≤ s → lies o m s ≡ true
lies_fits o m s h = join (le-leb o s (omega arith)) (le-leb m (s - o) (omega arith))

pub record_facts : (s : ℕ) (x : Record) → record_fits s x ≡ true → (15 ≤ x.len) × (x.len ≤ 4095) × (x.at + x.len ≤ s)
record_facts s x h =
    let (a, g) = both (leb 15 x.len) (leb x.len 4095 && lies x.at x.len s) h in
    let (b, c) = both (leb x.len 4095) (lies x.at x.len s) g in
    (leb-true 15 x.len a, leb-true x.len 4095 b, lies_facts x.at x.len s c)

pub record_fits_lem : (s : ℕ) (x : Record) → (15 ≤ x.len) × (x.len ≤ 4095) × (x.at + x.len ≤ s) → record_fits s x ≡ true
record_fits_lem s x (a, b, c) = join (le-leb 15 x.len a) (join (le-leb x.len 4095 b) (lies_fits x.at x.len s c))

pub place_facts : (s n len r o : ℕ) → place_fits s n len r o ≡ true → (r < n) × (o + (len + 15) ≤ s)
place_facts s n len r o h = let (a, b) = both (ltb r n) (lies o (len + 15) s) h in (ltb-true r n a, lies_facts o (len + 15) s b)

pub place_fits_lem : (s n len r o : ℕ) → (r < n) × (o + (len + 15) ≤ s) → place_fits s n len r o ≡ true
place_fits_lem s n len r o (a, b) = join (lt-ltb r n a) (lies_fits o (len + 15) s b)

-- a region of the chip and a record in it: a removal's, or that whose value is given
pub in_chip : (s n r : ℕ) (x : Record) → (ltb r n && record_fits s x) ≡ true → (r < n) × (15 ≤ x.len) × (x.len ≤ 4095) × (x.at + x.len ≤ s)
in_chip s n r x h = let (a, b) = both (ltb r n) (record_fits s x) h in let (c, d, e) = record_facts s x b in (ltb-true r n a, c, d, e)

-- Edits.

module _ (s n len : ℕ) where
  -- its bytes lie in one of the regions
  pub edit_facts : (e : Edit) → edit_fits s n len e ≡ true → (in_region e < n) × (start_of e + size_of len e ≤ s)
  edit_facts (Edit.Lay r o) h = place_facts s n len r o h
  edit_facts (Edit.Kill Removal.Invalidate r x) h = let (a, b, c, d) = in_chip s n r x h in (a, omega (arith, b, d))
  edit_facts (Edit.Kill Removal.Zeroise r x) h = let (a, b, c, d) = in_chip s n r x h in (a, omega (arith, d))
  edit_facts (Edit.Erase r) h = (ltb-true r n h, omega arith)

  abbrev first_fits : Option Edit → Bool
  first_fits None = true
  first_fits (Some e) = edit_fits s n len e

  first_fits_lem : (es : Edits) → edits_fit s n len es ≡ true → first_fits (first es) ≡ true
  first_fits_lem Edits.Nil h = refl
  first_fits_lem (Edits.One e) h = h
  first_fits_lem (Edits.Two e f) h = (both (edit_fits s n len e) _ h).0
  first_fits_lem (Edits.Three e f g) h = (both (edit_fits s n len e) _ h).0
  first_fits_lem (Edits.Erases i m) h = go (ltb i m) refl
    where
      go : (b : Bool) → ltb i m ≡ b → first_fits (cond b (Some (Edit.Erase i)) None) ≡ true
      go true e = lt-ltb i n (omega (arith, ltb-true i m e, leb-true m n h))
      go false e = refl

  pub rest_fits : (es : Edits) → edits_fit s n len es ≡ true → edits_fit s n len (rest es) ≡ true
  rest_fits Edits.Nil h = refl
  rest_fits (Edits.One e) h = refl
  rest_fits (Edits.Two e f) h = (both (edit_fits s n len e) _ h).1
  rest_fits (Edits.Three e f g) h = (both (edit_fits s n len e) _ h).1
  rest_fits (Edits.Erases i m) h = go (ltb i m)
    where
      go : (b : Bool) → edits_fit s n len (cond b (Edits.Erases (i + 1) m) Edits.Nil) ≡ true
      go true = h
      go false = refl

  -- one edit at a time
  pub edits_facts : (es : Edits) {e : Edit} → edits_fit s n len es ≡ true → first es ≡ Some e → (edit_fits s n len e ≡ true) × (edits_fit s n len (rest es) ≡ true)
  edits_facts es h e = (subst (λ (f : Option Edit). first_fits f ≡ true) e (first_fits_lem es h), rest_fits es h)

-- A plan: the facts of its test.

pub record PlanFits (s n : ℕ) (lent : Lent) (p : Plan) : Type 0 where
  pub value_short_lem : value_short lent ≡ true
  pub edits_good : edits_fit s n (value_lent lent) p.edits ≡ true
  pub next_good : then_fits s n lent p.next ≡ true
  pub at_rest : rests (first p.edits) p.next ≡ true

module _ (s n : ℕ) (lent : Lent) where
  pub plan_facts : (p : Plan) → plan_fits s n lent p ≡ true → PlanFits s n lent p
  plan_facts p h =
      let (a, f) = both (value_short lent) _ h in
      let (b, g) = both (edits_fit s n (value_lent lent) p.edits) _ f in
      let (c, d) = both (then_fits s n lent p.next) (rests (first p.edits) p.next) g in
      record { value_short_lem = a; edits_good = b; next_good = c; at_rest = d }

  pub plan_fits_lem : (p : Plan) → PlanFits s n lent p → plan_fits s n lent p ≡ true
  plan_fits_lem p f = join f.value_short_lem (join f.edits_good (join f.next_good f.at_rest))

  -- what follows: the facts of a lookup that goes on and of a sweep; a value given is `in_chip`
  pub seek_facts : (aim : Aim) (i : ℕ) (seen : Seen) → then_fits s n lent (Then.Seek aim i seen) ≡ true
      → (lent_for aim lent ≡ true) × (i < n) × (seen_fits s n (value_lent lent) seen ≡ true)
  seek_facts aim i seen h =
      let (a, g) = both (lent_for aim lent) (ltb i n && seen_fits s n (value_lent lent) seen) h in
      let (b, c) = both (ltb i n) (seen_fits s n (value_lent lent) seen) g in
      (a, ltb-true i n b, c)

  pub sweep_facts : (r k : ℕ) → then_fits s n lent (Then.Sweep r k) ≡ true → (r < n) × (k ≤ r)
  sweep_facts r k h = let (a, b) = both (ltb r n) (leb k r) h in (ltb-true r n a, leb-true k r b)

  -- An edit is done: what is left of a plan that fits does. No refusal follows a write, whatever is left before it.
  pub rest_of : (p : Plan) {e : Edit} → PlanFits s n lent p → first p.edits ≡ Some e → PlanFits s n lent (record { edits = rest p.edits; next = p.next })
  rest_of p {e} f h =
      record {
        value_short_lem = f.value_short_lem;
        edits_good = rest_fits s n (value_lent lent) p.edits f.edits_good;
        next_good = f.next_good;
        at_rest = go p.next (first (rest p.edits)) (subst (λ (q : Option Edit). rests q p.next ≡ true) h f.at_rest);
      }
    where
      go : (t : Then) (q : Option Edit) → rests (Some e) t ≡ true → rests q t ≡ true
      go (Then.Ends answer) None h = refl
      go (Then.Ends answer) (Some d) h = h
      go (Then.Seek aim i seen) q h = refl
      go (Then.Sweep r k) q h = refl
      go (Then.Gives r x again) q h = h

  -- A lookup begins, for whatever is lent.
  pub begins_fits : {t : Bool} → t ≡ true → 1 ≤ n → (t && (ltb 0 n && seen_fits s n (value_lent lent) unseen)) ≡ true
  begins_fits h least = join h (join (lt-ltb 0 n (omega arith)) refl)

  pub look_fits : (aim : Aim) → lent_for aim lent ≡ true → 1 ≤ n → then_fits s n lent (look aim) ≡ true
  look_fits aim h least = begins_fits h least

  -- An answer with nothing left to do.
  pub ends_fits : value_short lent ≡ true → (answer : Answer) → PlanFits s n lent (ends answer)
  ends_fits short answer = record { value_short_lem = short; edits_good = refl; next_good = refl; at_rest = refl }

-- a value that is short enough
pub short_facts : (lent : Lent) → value_short lent ≡ true → value_lent lent ≤ 4079
short_facts lent h = leb-true (value_lent lent) 4079 h
