-- `store::write::initialise` meets its contract: get's answer decides, and an erased image is one of the same size.
-- Assumes nothing.
use Prim.Native.Nat.{ℕ, ◌*◌}
use mathlib.Core.Path.{◌≡◌, refl, sym, ◌∙◌, ap}
use mathlib.Core.Bool.{true}
use mathlib.Core.List.{[], List}
use borrow.Author.Tests.{not-true, not-false}
use Rattle.chip.specs.Chip.{erased}
use Rattle.store.specs.Write.{append_of, initialise_of}
use Rattle.plans.specs.Answers.{starts_anew}
use Rattle.store.proofs.Anew.{anew_fits}
use Rattle.store.proofs.write.initialise.Goals as goal

pub returns-then-not-starts_anew : goal.returns-then-not-starts_anew
unfolding initialise_of
returns-then-not-starts_anew c =
    let kept = sym c.starts_anew.ensures ∙ not-true _ c.if-not-starts_anew.true-raw in
    rw (sym c.get_key-answer.ensures.0, kept) (refl, refl)

pub returns : goal.returns
unfolding initialise_of
returns c =
    let a = c.args in
    let got = c.get_key-answer in
    let anew : starts_anew got.result ≡ true = sym c.starts_anew.ensures ∙ not-false _ c.if-not-starts_anew.false-raw in
    let fit = anew_fits a.image.now a.s a.n a.key [] (ap starts_anew (sym got.ensures.0) ∙ anew) in
    let blank : c.erase.new.region ≡ erased (a.n * a.s) = c.erase.ensures ∙ ap erased fit.size in
    let done = c.append_key.ensures in
    rw (sym got.ensures.0, anew) (
      done.0 ∙ ap (λ (image : List ℕ). (append_of image a.s a.n a.key []).answer) blank,
      done.1 ∙ ap (λ (image : List ℕ). (append_of image a.s a.n a.key []).image) blank,
    )
