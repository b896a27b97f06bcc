-- An initialise that answers Written is an append of the empty value to the erased image, whatever the image was.
-- Assumes nothing.
use Prim.Native.Nat.{ℕ, ◌*◌}
use native.Mathlib.Omega.{arith}
use mathlib.Core.Path.{◌≡◌, refl, sym, ◌∙◌, ap}
use mathlib.Core.Bool.{Bool, true, false}
use mathlib.Core.List.{List, []}
use Rattle.std.specs.Prelude.{Ok}
use Rattle.chip.specs.Chip.{erased}
use Rattle.chip.specs.Geometry.{Shape}
use Rattle.plans.specs.declared.Success.TheVariants.{Written}
use Rattle.plans.specs.Answers.{refusal, starts_anew, Answer}
use Rattle.store.specs.Write.{Done, append_of, initialise_of}
use Rattle.store.specs.Read.{get_of}
use Rattle.store.specs.Call.{get}
use Rattle.pinned.specs.When.{Succeeds}
use Rattle.pinned.proofs.Answers.{succeeds}
use Rattle.bindings.proofs.Outcomes.{Appending, appending}

-- get never answers Written
get_not_written : (image : List ℕ) (s n key : ℕ) (buffer : List ℕ) → (get_of image s n key buffer).answer ≡ Ok Written → ⊥
get_not_written image s n key buffer h = go (succeeds image s n (get key buffer) (ap refusal h)) h
  where
    go : {a : Answer} → Succeeds (get key buffer) a → a ≡ Ok Written → ⊥
    go Succeeds.get_completes h = let z : ◌≡◌ {A = ℕ} 0 1 = cc in omega arith

pub initialise_appends : (image : List ℕ) (s n key : ℕ) → (initialise_of image s n key).answer ≡ Ok Written → initialise_of image s n key ≡ append_of (erased (n * s)) s n key []
unfolding initialise_of
initialise_appends image s n key h = go (starts_anew (get_of image s n key []).answer) refl
  where
    go : (b : Bool) → starts_anew (get_of image s n key []).answer ≡ b → initialise_of image s n key ≡ append_of (erased (n * s)) s n key []
    go true e = rw (e, initialise_of)
    go false e =
        let same : initialise_of image s n key ≡ record { answer = (get_of image s n key []).answer; image = image } = rw (e, initialise_of) in
        absurd (get_not_written image s n key [] (sym (ap (λ (d : Done). d.answer) same) ∙ h))

-- an append that writes was given a chip of the right shape
pub written_shape : (image : List ℕ) (s n key : ℕ) (value : List ℕ) → (append_of image s n key value).answer ≡ Ok Written → Shape s n
written_shape image s n key value h = go (append_of image s n key value) (appending image s n key value) h
  where
    go : (d : Done) → Appending image s n key value d → d.answer ≡ Ok Written → Shape s n
    go d (Appending.early z e) h = absurd (let q : ◌≡◌ {A = ℕ} 0 1 = cc in omega arith)
    go d (Appending.there r x a e) h = a.fits.shape
    go d (Appending.bad f p a e) h = a.fits.shape
    go d (Appending.full seen a e q) h = a.fits.shape
    go d (Appending.unblank seen r o a e i y) h = a.fits.shape
    go d (Appending.wrote seen r o a e i y) h = a.fits.shape
