-- Where initialise starts anew, the image is allowed.
-- Assumes nothing.
use Prim.Native.Nat.{ℕ}
use native.Mathlib.Omega.{arith}
use mathlib.Core.Path.{◌≡◌, refl, sym, ◌∙◌, ap}
use mathlib.Core.Bool.{Bool, true, false, not, cond, true≢false}
use mathlib.Core.List.{List}
use lib.Dec.{ltb}
use Rattle.std.specs.Prelude.{Result, Ok, Err}
use Rattle.chip.specs.Geometry.{Fits, geometry}
use Rattle.probe.specs.Probe.{allowed_key}
use Rattle.refusals.specs.declared.Refusal.{Refusal}
use Rattle.refusals.specs.Refusals.{first_refusal}
use Rattle.lookup.specs.Turns.{hit_after, hit_of}
use Rattle.lookup.proofs.Scan.{fine}
use Rattle.plans.specs.Answers.{starts_anew}
use Rattle.store.specs.Read.{got_by, get_of}

-- refusals 1, 2 and 3 are handed back
pub first_kept : (image : List ℕ) (s n key len : ℕ) (w : Refusal) → first_refusal image s n key len ≡ Err w → starts_anew (Err w) ≡ false
unfolding first_refusal
first_kept image s n key len w = go (geometry image s n) (allowed_key key) (ltb 4079 len)
  where
    kept : {v : Refusal} → w ≡ v → starts_anew (Err v) ≡ false → starts_anew (Err w) ≡ false
    kept e k = ap (λ (u : Refusal). starts_anew (Err u)) e ∙ k

    go : (a b c : Bool) → cond (not a) (Err Refusal.BadGeometry) (cond (not b) (Err Refusal.BadKey) (cond c (Err Refusal.ObjectTooLarge) (Ok (tt {0})))) ≡ Err w → starts_anew (Err w) ≡ false
    go false b c h = kept (let e : w ≡ Refusal.BadGeometry = cc in e) refl
    go true false c h = kept (let e : w ≡ Refusal.BadKey = cc in e) refl
    go true true true h = kept (let e : w ≡ Refusal.ObjectTooLarge = cc in e) refl
    go true true false h = absurd (let z : ◌≡◌ {A = ℕ} 0 1 = cc in omega arith)

pub anew_fits : (image : List ℕ) (s n key : ℕ) (buffer : List ℕ) → starts_anew (get_of image s n key buffer).answer ≡ true → Fits image s n
unfolding get_of hit_of
anew_fits image s n key buffer h = go (first_refusal image s n key 0) refl h
  where
    go : (c : Result (Unit {0}) Refusal) → first_refusal image s n key 0 ≡ c → starts_anew (got_by s image buffer (hit_after image s n key c)).answer ≡ true → Fits image s n
    go (Err w) e h = absurd (true≢false (sym h ∙ first_kept image s n key 0 w e))
    go (Ok u) e h = (fine image s n key 0 e).0
