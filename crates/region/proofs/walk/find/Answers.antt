-- `region::walk::find` meets its contract.
-- Invariant and measure: Invariants.antt. Assumes nothing.
use Prim.Native.Nat.{ℕ, ◌≤◌, ◌+◌}
use native.Mathlib.Omega.{arith}
use mathlib.Core.Path.{◌≡◌, refl, sym, ◌∙◌}
use mathlib.Core.Bool.{Bool, true, false, cond}
use mathlib.Core.List.{List}
use lib.ListN.{length}
use Rattle.format.specs.declared.Record.{Record}
use Rattle.std.specs.Prelude.{Ok}
use Rattle.region.specs.declared.Event.{Event}
use Rattle.region.specs.Walk.{met_at, is_wanted}
use Rattle.region.proofs.Steps.{found_fits}
use Rattle.region.proofs.Search.{first_from, first_stop, first_found}
use borrow.Author.Rules.{rules}
use Rattle.region.proofs.walk.find.Goals as goal
use Rattle.region.proofs.walk.find.Goals.{In-Ok}

pub loop-stop-init : goal.loop-stop-init
loop-stop-init c = (search rules, refl)

-- what stands at the place, where it is a record
abbrev region : In-Ok → List ℕ
region c = c.args.region.now

abbrev test : In-Ok → Record → Bool
test c = is_wanted c.args.want

abbrev place : In-Ok → ℕ
place c = c.loop-stop.at

abbrev found : In-Ok → Record
found c = c.in-Ok.rec

is : (c : In-Ok) → met_at (region c) (place c) ≡ Ok (found c)
is c = sym c.look.ensures ∙ c.in-Ok.is

fits : (c : In-Ok) → (15 ≤ (found c).len) × (place c + (found c).len ≤ length (region c))
fits c = found_fits (region c) (place c) (found c) (is c)

next : (c : In-Ok) (b : Bool) → test c (found c) ≡ b
    → first_from (test c) (region c) 0 ≡ cond b (Event.Live (found c)) (first_from (test c) (region c) (place c + (found c).len))
next c b h = sym c.loop-stop.invariant.1 ∙ first_found (test c) (region c) (place c) (found c) b (is c) h

pub overflow_add-at : goal.overflow_add-at
overflow_add-at c = omega (arith, fits (goal.at.overflow_add-at c).In-Ok)

pub loop-stop-smaller : goal.loop-stop-smaller
loop-stop-smaller c = omega (arith, fits (goal.at.loop-stop-smaller c).In-Ok)

pub loop-stop-preserved : goal.loop-stop-preserved
loop-stop-preserved c =
    ((fits (goal.at.loop-stop-preserved c).In-Ok).1, sym (next (goal.at.loop-stop-preserved c).In-Ok false (sym c.by.ensures ∙ c.if-by.false)))

pub returns-in-Err : goal.returns-in-Err
returns-in-Err c =
    let l = c.loop-stop in
    let a = c.args in
    c.from.ensures ∙ sym (first_stop (is_wanted a.want) a.region.now l.at c.in-Err.stop (sym c.look.ensures ∙ c.in-Err.is)) ∙ l.invariant.1

pub returns-then-by : goal.returns-then-by
returns-then-by c = sym (next (goal.at.returns-then-by c).In-Ok true (sym c.by.ensures ∙ c.if-by.true))
