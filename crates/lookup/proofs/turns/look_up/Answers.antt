-- `lookup::turns::look_up` meets its contract.
-- Invariant and measure: Invariants.antt. Assumes nothing.
use Prim.Native.Nat.{ℕ, ◌≤◌, ◌+◌}
use native.Mathlib.Numerals.{add-one}
use native.Mathlib.Omega.{arith}
use mathlib.Core.Path.{◌≡◌, sym, ◌∙◌, ap}
use mathlib.Core.List.{List, [], ◌∷◌}
use lib.ListN.{length, get_or, drop, drop_of_length-le}
use lib.Seq.{drop-cons}
use Rattle.std.specs.declared.ops.ControlFlow.TheVariants.{Break, Continue}
use Rattle.std.specs.declared.ops.ControlFlow.{ControlFlow}
use Rattle.probe.specs.Probe.{probe, probes}
use Rattle.probe.proofs.Theorems.{probes-length}
use Rattle.lookup.specs.declared.Seen.{Seen}
use Rattle.lookup.specs.declared.Looked.{Looked}
use Rattle.lookup.specs.Turns.{turn_of, on_turn, look_from, lookup_in}
use Rattle.lookup.proofs.turns.look_up.Goals as goal
use Rattle.lookup.proofs.turns.look_up.Goals.{After-take_turn-next}

-- what one more region says of the whole
step : (c : After-take_turn-next) (t : ControlFlow Looked Seen) → c.take_turn-next.result ≡ t
    → let a = c.args in let p = a.chip.now in let l = c.loop-i in
    lookup_in a.key a.need p.s p.image.now (probes a.key p.n)
    ≡ on_turn t (λ (looked : Looked). looked) (λ (more : Seen). look_from more a.key a.need p.s p.image.now (drop (l.i + 1) (probes a.key p.n)))
unfolding look_from
step c t q =
    let a = c.args in
    let p = a.chip.now in
    let l = c.loop-i in
    let r = c.probe_at-r.result in
    let order = probes a.key p.n in
    let at : r ≡ get_or order l.i 0 = c.probe_at-r.ensures.0 ∙ ap (λ (h : ℕ). get_or (probe p.n h) l.i 0) c.get_region-home.ensures.0 in
    let long = probes-length a.key p.n p.fits.shape.n_least in
    let this : drop l.i order ≡ r ∷ drop (l.i + 1) order = rw (at, add-one) (drop-cons order l.i 0 (omega arith)) in
    let turned = ap (λ (region : List ℕ). turn_of l.seen a.key a.need r region) (sym c.region.ensures) ∙ sym c.take_turn-next.ensures ∙ q in
    sym l.invariant
    ∙ ap (look_from l.seen a.key a.need p.s p.image.now) this
    ∙ ap (λ (u : ControlFlow Looked Seen). on_turn u (λ (looked : Looked). looked) (λ (more : Seen). look_from more a.key a.need p.s p.image.now (drop (l.i + 1) order))) turned

pub loop-i-preserved : goal.loop-i-preserved
loop-i-preserved c =
    sym (step (goal.at.loop-i-preserved c).After-take_turn-next (Continue c.in-Continue.more) c.in-Continue.is)

pub returns : goal.returns
unfolding look_from
returns c =
    let a = c.args in
    let p = a.chip.now in
    let l = c.loop-i in
    let past : length (probes a.key p.n) ≤ l.i = omega (arith, probes-length a.key p.n p.fits.shape.n_least) in
    let e : drop l.i (probes a.key p.n) ≡ [] = drop_of_length-le (probes a.key p.n) past in
    c.close.ensures
    ∙ ap (look_from l.seen a.key a.need p.s p.image.now) (sym e) ∙ l.invariant

pub returns-in-Break : goal.returns-in-Break
returns-in-Break c = sym (step (goal.at.returns-in-Break c).After-take_turn-next (Break c.in-Break.looked) c.in-Break.is)
