-- Tables told apart once, for every law that goes through them: what is waited for behind the edits, where a sweep goes on, and a plan that rests.
-- Assumes nothing.
use Prim.Native.Nat.{ℕ, ◌*◌}
use native.Mathlib.Omega.{arith}
use mathlib.Core.Path.{◌≡◌, refl}
use mathlib.Core.Bool.{Bool, true, false, cond}
use mathlib.Core.List.{List}
use lib.Dec.{ltb}
use Rattle.plans.specs.declared.Edit.{Edit}
use Rattle.std.specs.Prelude.{Option, Ok}
use Rattle.plans.specs.declared.Success.TheVariants.{Freed}
use Rattle.plans.specs.declared.Lent.{Lent}
use Rattle.plans.specs.declared.Then.{Then}
use Rattle.plans.specs.declared.Plan.{Plan}
use Rattle.plans.specs.Answers.{Answer}
use Rattle.plans.specs.Fits.{rests}
use Rattle.sweeping.specs.Sweeps.{swept_to}
use Rattle.running.specs.declared.Wait.{Wait}
use Rattle.running.specs.Waits.{wait_next}
use Rattle.advancing.specs.Advance.{given, filled, filled_by}

-- With no edit left a region is waited for, or nothing more.
pub data Awaits : Wait → Type 0 where
  a_region : {r : ℕ} → Awaits (Wait.Read r)
  no_more : {answer : Answer} → Awaits (Wait.Over answer)

pub next_awaits : (key n : ℕ) (t : Then) → Awaits (wait_next key n t)
next_awaits key n (Then.Ends answer) = no_more
next_awaits key n (Then.Seek aim i seen) = a_region
next_awaits key n (Then.Sweep r k) = a_region
next_awaits key n (Then.Gives r x again) = no_more

-- A sweep goes on with the next region, or has ended.
pub by_swept : (P : Then → Type 0) (s n r k : ℕ) → P (Then.Sweep r k) → P (Then.Ends (Ok (Freed (k * s)))) → P (swept_to s n r k)
by_swept P s n r k on over = go (ltb r n)
  where
    go : (t : Bool) → P (cond t (Then.Sweep r k) (Then.Ends (Ok (Freed (k * s)))))
    go true = on
    go false = over

-- Where an operation rests nothing is to be given.
module _ (n : ℕ) (lent : Lent) (region : List ℕ) (f : Option Edit) (p : Plan) (h : rests f p.next ≡ true) where
  pub given_rests : given n lent region p ≡ p
  given_rests = go p.next refl h
    where
      go : (t : Then) → p.next ≡ t → rests f t ≡ true → given n lent region p ≡ p
      go (Then.Ends answer) e h = rw e
      go (Then.Seek aim i seen) e h = rw e
      go (Then.Sweep r k) e h = rw e
      go (Then.Gives r x anew) e h = absurd (let z : ◌≡◌ {A = ℕ} 0 1 = cc in omega arith)

  pub filled_rests : (buffer : List ℕ) → filled lent region p buffer ≡ buffer
  filled_rests buffer = go p.next h
    where
      go : (t : Then) → rests f t ≡ true → filled_by lent region t buffer ≡ buffer
      go (Then.Ends answer) h = refl
      go (Then.Seek aim i seen) h = refl
      go (Then.Sweep r k) h = refl
      go (Then.Gives r x anew) h = absurd (let z : ◌≡◌ {A = ℕ} 0 1 = cc in omega arith)
