-- What is true of every step of an operation is true of a step in numbers: each lemma takes the theorem of stepwise and goes over what the numbers
-- stand for.
-- Assumes nothing.
use Prim.Native.Nat.{ℕ}
use native.Mathlib.Omega.{arith}
use mathlib.Core.Path.{◌≡◌, refl, sym, ◌∙◌, ap, subst}
use mathlib.Core.Bool.{Bool, true, false}
use mathlib.Core.List.{List}
use mathlib.Core.Logic.{◌⊎◌, inl, inr, ⊎_elim, ◌↔◌}
use Rattle.running.specs.declared.Op.{Op}
use Rattle.running.specs.declared.Reply.{Reply}
use Rattle.running.specs.declared.Request.{Request}
use Rattle.steps.specs.Step.{fits_here, stepped}
use Rattle.replies.specs.Answers.{request_numbers}
use Rattle.operations.specs.declared.COperation.{COperation}
use Rattle.operations.specs.Unpacks.{reply_number}
use Rattle.numbers.specs.declared.CStepped.{CStepped}
use Rattle.numbers.proofs.Own.{own}
use Rattle.stilefray.specs.Stepped.{bad_call, packed_step, step_numbers, step_region, step_buffer}
use Rattle.stepwise.specs.Asked.{Inside, Reads, complete, too_short, wrong_sum}
use Rattle.stepwise.specs.Misfit.{Misfit}
use Rattle.stepwise.proofs.Theorems as Steps
use Rattle.exports.specs.Misfits.{Misfits}
use Rattle.exports.specs.Inside.{InsideNumbers, ReadsNumbers}
use Rattle.exports.proofs.Read.{replied, is_failed, looks_get}
use Rattle.exports.proofs.Called.{Called, nothing, runs, called, to_numbers, of_numbers, refused, inside_numbers}
use Rattle.plans.specs.Answers.{Answer}

module _ (o : COperation) (y : ℕ) (region value buffer : List ℕ) where
  pub bad_call_lem : ((step_numbers o y region value buffer).request.answer.refusal ≡ 11) ↔ Misfits o y region value buffer
  bad_call_lem = go (called o y region value buffer)
    where
      go : {t : CStepped} {r b : List ℕ} → Called o y region value buffer t r b → (t.request.answer.refusal ≡ 11) ↔ Misfits o y region value buffer
      go (nothing m) = (λ h. m, λ m. refl)
      go (runs op said k f) =
          let same = refused (stepped op said region value buffer).request in
          let (to, of) = Steps.bad_call_exactly_when op said region value buffer in
          (λ h. to_numbers o y region value buffer k f (to (sym same ∙ h)), λ m. same ∙ of (of_numbers o y region value buffer k f m))

  pub flash_failed : ((step_numbers o y region value buffer).request.answer.refusal ≡ 12) ↔ ((Misfits o y region value buffer → ⊥) × (y ≡ 3))
  flash_failed = go (called o y region value buffer)
    where
      go : {t : CStepped} {r b : List ℕ} → Called o y region value buffer t r b → (t.request.answer.refusal ≡ 12) ↔ ((Misfits o y region value buffer → ⊥) × (y ≡ 3))
      go (nothing m) = (λ h. absurd (omega arith), λ (none, _). absurd (none m))
      go (runs op said k f) =
          let same = refused (stepped op said region value buffer).request in
          let (to, of) = Steps.flash_failed_exactly_when op said region value buffer in (
            λ h. let (none, e) = to (sym same ∙ h) in ((λ m. none (of_numbers o y region value buffer k f m)), replied f ∙ ap reply_number e),
            λ (none, e). same ∙ of ((λ m. none (to_numbers o y region value buffer k f m)), is_failed said (sym (replied f) ∙ e)),
          )

  pub inside : InsideNumbers o.s o.n (step_numbers o y region value buffer).request
  inside = go (called o y region value buffer)
    where
      go : {t : CStepped} {r b : List ℕ} → Called o y region value buffer t r b → InsideNumbers o.s o.n t.request
      go (nothing m) = InsideNumbers.answers refl
      go (runs op said k f) =
          let q = (stepped op said region value buffer).request in
          inside_numbers (subst (λ (s : ℕ). Inside s o.n q) k.same_s (subst (λ (n : ℕ). Inside op.s n q) k.same_n (Steps.step_inside op said region value buffer)))

  pub region_altered : (step_region o y region value buffer ≡ region) ⊎ ((step_numbers o y region value buffer).request.kind ≡ 2)
  region_altered = go (called o y region value buffer)
    where
      go : {t : CStepped} {r b : List ℕ} → Called o y region value buffer t r b → (r ≡ region) ⊎ (t.request.kind ≡ 2)
      go (nothing m) = inl refl
      go (runs op said k f) = ⊎_elim inl (λ (a, e, p, h). inr (ap (λ (q : Request). (request_numbers q).kind) h)) (Steps.region_altered_only op said region value buffer)

  pub buffer_altered : (step_buffer o y region value buffer ≡ buffer) ⊎ ((o.next ≡ 1) × (o.aim ≡ 1) × ReadsNumbers (step_numbers o y region value buffer).request)
  buffer_altered = go (called o y region value buffer)
    where
      answers : {answer : Answer} → Reads answer → ReadsNumbers (request_numbers (Request.Answers answer))
      answers complete = ReadsNumbers.complete refl refl
      answers too_short = ReadsNumbers.too_short refl refl
      answers wrong_sum = ReadsNumbers.wrong_sum refl refl

      go : {t : CStepped} {r b : List ℕ} → Called o y region value buffer t r b → (b ≡ buffer) ⊎ ((o.next ≡ 1) × (o.aim ≡ 1) × ReadsNumbers t.request)
      go (nothing m) = inl refl
      go (runs op said k f) =
          ⊎_elim inl
          (λ g. let (next, aim) = looks_get k g.is_get in inr (next, aim, subst (λ (q : Request). ReadsNumbers (request_numbers q)) (sym g.answers) (answers g.read)))
          (Steps.buffer_altered_only op said region value buffer)

  -- R6.11: a call that one of its clauses speaks of alters nothing.
  pub misfits_keep : Misfits o y region value buffer
      → (step_numbers o y region value buffer ≡ bad_call o) × (step_region o y region value buffer ≡ region) × (step_buffer o y region value buffer ≡ buffer)
  misfits_keep m = go (called o y region value buffer)
    where
      unfit : (op : Op) (said : Reply) → Misfit op said region value buffer → fits_here op said region value buffer ≡ false
      unfit op said m = on (fits_here op said region value buffer) refl
        where
          on : (t : Bool) → fits_here op said region value buffer ≡ t → t ≡ false
          on true e = absurd ((Steps.fits_exactly_when op said region value buffer).0 e m)
          on false e = refl

      go : {t : CStepped} {r b : List ℕ} → Called o y region value buffer t r b → (t ≡ bad_call o) × (r ≡ region) × (b ≡ buffer)
      go (nothing _) = (refl, refl, refl)
      go (runs op said k f) =
          let (s, r, b) = Steps.bad_call_lem op said region value buffer (unfit op said (of_numbers o y region value buffer k f m)) in
          (ap packed_step s ∙ ap bad_call (sym (own o op k.known)), r, b)
