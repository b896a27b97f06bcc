-- What append's write, a removal's write and an erase do to the live records of their region.
-- Assumes nothing.
use Prim.Native.Nat.{ℕ, ◌+◌, ◌^◌, ◌≤◌, ◌<◌}
use native.Mathlib.Omega.{arith}
use mathlib.Core.Path.{◌≡◌, refl, sym, ◌∙◌, ap, subst}
use mathlib.Core.Bool.{false≢true, true≢false}
use mathlib.Core.Logic.{inl, inr, ⊎_elim}
use mathlib.Core.List.Memᴰ
use mathlib.Core.List.{List, [], ◌∷◌, ◌++◌, append_assoc, Memᴰ}
use lib.ListN.{length}
use Rattle.chip.specs.Chip.{Bytes, written, erased}
use Rattle.format.specs.declared.Record.{Record}
use Rattle.region.specs.declared.Want.{Want}
use Rattle.format.specs.declared.Removal.{Removal}
use Rattle.format.specs.Layout.{record_length, record_bytes, live}
use Rattle.region.specs.Walk.{View, records, record_of, dead, is_wanted}
use Rattle.region.proofs.Search.{None}
use Rattle.region.proofs.Theorems.{records_within, records_apart, blank_region, dead_not_live}
use Rattle.pinned.proofs.Swept.{every_member}
use Rattle.bindings.proofs.Members.{around, beside, middle_cases}
use Rattle.bindings.proofs.Sound.{Sound, append_view, removed_from, remove_view}
use Rattle.bindings.proofs.Images.{Effect}

module _ (region : List ℕ) (s : Sound region) (key : ℕ) (value : List ℕ) (fits : s.end + record_length (length value) ≤ length region) (k : key < 2 ^ 64) (l : length value ≤ 4079) (v : Bytes value) where
  pub append_effect : Effect (written region s.end (record_bytes key value)) region (λ x. x ≡ record_of s.end key value) (λ _. ⊥)
  append_effect =
      let (view, kept) = append_view region s key value fits k l v in
      let recs = ap (λ (w : View). w.recs) view in
      record {
        from = λ x m a. ⊎_elim (λ o. inl (o, every_member kept o, λ g. g)) (λ o. inr (Memᴰ.eq_of_singleton o)) (Memᴰ.append_cases (records region) (subst (λ (xs : List Record). Memᴰ x xs) recs m));
        to = λ x m a g. (subst (λ (xs : List Record). Memᴰ x xs) (sym recs) (Memᴰ.append_left (record_of s.end key value ∷ []) m), every_member kept m);
        new = λ x e. (subst (λ (xs : List Record). Memᴰ x xs) (sym recs) (Memᴰ.append_right (records region) (Memᴰ.head e)), ap live e);
      }

-- a record comes once among those of a region: two of them lie at different places
pub not_again : (region : List ℕ) (a : List Record) (x : Record) (b : List Record) → records region ≡ a ++ x ∷ b → (y : Record) → Memᴰ y (a ++ b) → y ≡ x → ⊥
not_again region a x b e y m q = ⊎_elim before after (Memᴰ.append_cases a m)
  where
    before : Memᴰ y a → ⊥
    before i =
        let w = around i in
        let split : records region ≡ w.before ++ y ∷ (w.after ++ x ∷ b) = e ∙ ap (λ (l : List Record). l ++ x ∷ b) w.split ∙ append_assoc w.before (y ∷ w.after) (x ∷ b) in
        let apart = records_apart region w.before y w.after x b split in
        let (least, _) = records_within region w.before y (w.after ++ x ∷ b) split in
        let same : y.at ≡ x.at = ap (λ (z : Record). z.at) q in
        omega arith

    after : Memᴰ y b → ⊥
    after i =
        let w = around i in
        let split : records region ≡ a ++ x ∷ (w.before ++ y ∷ w.after) = e ∙ ap (λ (l : List Record). a ++ x ∷ l) w.split in
        let apart = records_apart region a x w.before y w.after split in
        let (least, _) = records_within region a x b e in
        let same : y.at ≡ x.at = ap (λ (z : Record). z.at) q in
        omega arith

module _ (how : Removal) (region : List ℕ) (v : Bytes region) (s : Sound region) (a : List Record) (x : Record) (b : List Record) (e : records region ≡ a ++ x ∷ b) where
  pub remove_effect : Effect (removed_from how region x) region (λ _. ⊥) (λ y. y ≡ x)
  remove_effect =
      let (view, kept) = remove_view how region v s a x b e in
      let recs = ap (λ (w : View). w.recs) view in
      record {
        from = λ y m l. ⊎_elim
            (λ q. absurd (false≢true (sym (dead_not_live x) ∙ ap live (sym q) ∙ l)))
            (λ i. inl (subst (λ (xs : List Record). Memᴰ y xs) (sym e) (beside a x b i), every_member kept i, not_again region a x b e y i))
            (middle_cases a (dead x) b (subst (λ (xs : List Record). Memᴰ y xs) recs m));
        to = λ y m l g. ⊎_elim
            (λ q. absurd (g q))
            (λ i. (subst (λ (xs : List Record). Memᴰ y xs) (sym recs) (beside a (dead x) b i), every_member kept i))
            (middle_cases a x b (subst (λ (xs : List Record). Memᴰ y xs) e m));
        new = λ y n. absurd n;
      }

blank_records : (size : ℕ) (x : Record) → Memᴰ x (records (erased size)) → ⊥
blank_records size x m = Memᴰ.not-nil (subst (λ (xs : List Record). Memᴰ x xs) (ap (λ (w : View). w.recs) (blank_region size)) m)

-- An erase of a region without live records.
pub erase_effect : (size : ℕ) (region : List ℕ) → None (is_wanted Want.Any) (records region) → Effect (erased size) region (λ _. ⊥) (λ _. ⊥)
erase_effect size region dull = record {
  from = λ x m l. absurd (blank_records size x m);
  to = λ x m l g. absurd (true≢false (sym l ∙ every_member dull m));
  new = λ x n. absurd n;
}

-- An erase of any region: every record is gone.
pub erase_all_effect : (size : ℕ) (region : List ℕ) → Effect (erased size) region (λ _. ⊥) (λ x. x ≡ x)
erase_all_effect size region = record {
  from = λ x m l. absurd (blank_records size x m);
  to = λ x m l g. absurd (g refl);
  new = λ x n. absurd n;
}
