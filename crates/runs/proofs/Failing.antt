-- A failed reply, wherever a run stands and asks for a service.
-- Assumes nothing.
use Prim.Native.Nat.{ℕ}
use mathlib.Core.Path.{◌≡◌, refl}
use mathlib.Core.Bool.{true}
use mathlib.Core.List.{List}
use Rattle.std.specs.Prelude.{Err}
use Rattle.refusals.specs.declared.Refusal.{Refusal}
use Rattle.plans.specs.declared.Lent.{Lent}
use Rattle.running.specs.declared.Reply.{Reply}
use Rattle.running.specs.declared.Request.{Request}
use Rattle.steps.specs.Step.{stepped, region_after, buffer_after}
use Rattle.stepwise.specs.Asked.{asks}
use Rattle.runs.specs.Host.{Host, region_meanwhile, failed}
use Rattle.runs.proofs.Rests.{fit, meanwhile, good_meanwhile}
use Rattle.runs.proofs.Comes.{Rested, at}

pub failing : {s n key : ℕ} {lent : Lent} {value bytes : List ℕ} {before : Host} → Rested s n key lent value bytes before → asks before.request ≡ true → (brought : List ℕ)
    → ((failed brought before).request ≡ Request.Answers (Err Refusal.FlashFailed))
    × ((failed brought before).image ≡ before.image)
    × ((failed brought before).region ≡ region_meanwhile before.request brought before.region)
    × ((failed brought before).buffer ≡ before.buffer)
unfolding stepped region_after buffer_after
failing {s} {n} {key} {lent} {value} (at c g) w brought =
    let f = fit s n key lent value c (meanwhile s n key lent value brought c).region g (good_meanwhile s n key lent value brought c g).long w Reply.Failed refl in
    (rw f, refl, rw f, rw f)
