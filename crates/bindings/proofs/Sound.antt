-- One region of a well-formed image, and that append's write, a removal's and an erase leave one.
-- Assumes nothing.
use Prim.Native.Nat.{ℕ, ◌+◌, ◌-◌, ◌%◌, ◌^◌, ◌≤◌, ◌<◌}
use native.Mathlib.Omega.{arith}
use mathlib.Core.Path.{◌≡◌, refl, sym, ◌∙◌, ap, subst}
use mathlib.Core.Bool.{true, false≢true}
use mathlib.Core.Logic.{◌⊎◌, inl, inr, ⊎_elim}
use mathlib.Core.List.{List, [], ◌∷◌, ◌++◌}
use lib.ListN.{length, take, drop, length-drop}
use lib.Seq.{drop-drop, get_or-drop}
use Rattle.chip.specs.Chip.{Bytes, written, erased, is_blank}
use Rattle.chip.proofs.Lists.{Every, every_join, every_split}
use Rattle.chip.proofs.Laws.{blank_at_lem, at_blank, blank-take, blank_erased}
use Rattle.format.specs.declared.Record.{Record}
use Rattle.region.specs.declared.Stop.{Stop}
use Rattle.format.specs.declared.Removal.{Removal}
use Rattle.format.specs.Layout.{record_length, record_bytes, kill_place, kill_bytes, check_sum_fits, live}
use Rattle.region.specs.Walk.{View, walk_from, records, ending, bytes_in, record_of, dead}
use Rattle.region.proofs.Same.{Kept}
use Rattle.region.proofs.Theorems.{stops_behind, reads_back, append_adds, append_writes, append_tail, removal_kills, removal_tail, blank_region, dead_not_live}

-- what holds of each record
pub record Good (region : List ℕ) (x : Record) : Type 0 where
  pub flags : (x.flags ≡ 8) ⊎ (x.flags ≡ 0)
  pub length_most : x.len ≤ 4094
  pub sum : live x ≡ true → check_sum_fits (bytes_in region x) ≡ true

pub record Sound (region : List ℕ) : Type 0 where
  pub end : ℕ
  pub ends : ending region ≡ Stop.End end
  pub good : Every (Good region) (records region)
  pub tail : is_blank (drop end region) ≡ true

-- good records whose bytes are the same are good
good_kept : (r' r : List ℕ) (xs : List Record) → Kept r' r xs → Every (Good r) xs → Every (Good r') xs
good_kept r' r [] Every.none Every.none = Every.none
good_kept r' r (x ∷ xs) (Every.also e k) (Every.also g h) =
    Every.also {x = x} (record { flags = g.flags; length_most = g.length_most; sum = λ l. ap check_sum_fits e ∙ g.sum l }) (good_kept r' r xs k h)

-- a tail of a blank part is blank
blank-drop : (k : ℕ) (part : List ℕ) → is_blank part ≡ true → is_blank (drop k part) ≡ true
blank-drop k part b = at_blank (drop k part) (λ i l. get_or-drop k part i 0 ∙ blank_at_lem part b (k + i) (omega (arith, length-drop k part)))

blank_later : (region : List ℕ) (o p : ℕ) → o ≤ p → is_blank (drop o region) ≡ true → is_blank (drop p region) ≡ true
blank_later region o p h b =
    let e : o + (p - o) ≡ p = omega arith in
    subst (λ (l : List ℕ). is_blank l ≡ true) (drop-drop (p - o) o region ∙ ap (λ (m : ℕ). drop m region) e) (blank-drop (p - o) (drop o region) b)

-- Append.

module _ (region : List ℕ) (s : Sound region) (key : ℕ) (value : List ℕ) (fits : s.end + record_length (length value) ≤ length region) (k : key < 2 ^ 64) (l : length value ≤ 4079) (v : Bytes value) where
  place_blank : is_blank (take (record_length (length value)) (drop s.end region)) ≡ true
  place_blank = blank-take (record_length (length value)) (drop s.end region) s.tail

  pub append_view : (walk_from (written region s.end (record_bytes key value)) 0 ≡ record { recs = records region ++ record_of s.end key value ∷ []; stop = Stop.End (s.end + record_length (length value)) })
      × Kept (written region s.end (record_bytes key value)) region (records region)
  append_view = append_adds region s.end key value s.ends s.tail fits k l v

  pub sound_append : Sound (written region s.end (record_bytes key value))
  sound_append =
      let o = s.end in
      let r' = written region o (record_bytes key value) in
      let new = record_of o key value in
      let (view, kept) = append_view in
      let sum : check_sum_fits (bytes_in r' new) ≡ true = rw (append_writes region o key value place_blank fits l v) (reads_back key value k l).3 in
      let good : Every (Good r') (records region ++ new ∷ []) = every_join (good_kept r' region (records region) kept s.good) (Every.also {x = new} (record { flags = inl refl; length_most = omega arith; sum = λ _. sum }) Every.none) in
      record {
        end = o + record_length (length value);
        ends = ap (λ (w : View). w.stop) view;
        good = subst (λ (w : View). Every (Good r') w.recs) (sym view) good;
        tail = rw (append_tail region o key value s.tail fits l v) (blank_later region o (o + record_length (length value)) (omega arith) s.tail);
      }

-- The removals, over what they write.

abbrev pub removed_from : Removal → List ℕ → Record → List ℕ
removed_from how region x = written region (kill_place how x) (kill_bytes how x)

flags_dead : (b : ℕ) → (b ≡ 8) ⊎ (b ≡ 0) → b % 8 ≡ 0
flags_dead b h = ⊎_elim (λ e. rw e) (λ e. rw e) h

module _ (how : Removal) (region : List ℕ) (v : Bytes region) (s : Sound region) (a : List Record) (x : Record) (b : List Record) (e : records region ≡ a ++ x ∷ b) where
  pub remove_view : (walk_from (removed_from how region x) 0 ≡ record { recs = a ++ dead x ∷ b; stop = ending region }) × Kept (removed_from how region x) region (a ++ b)
  remove_view = removal_kills how region a x b v e

  pub sound_remove : Sound (removed_from how region x)
  sound_remove =
      let r' = removed_from how region x in
      let (view, kept) = remove_view in
      let behind : x.at + x.len ≤ s.end = rw s.ends at (stops_behind region a x b e) in
      let (ga, gb) = every_split a (x ∷ b) (subst (λ (xs : List Record). Every (Good region) xs) e s.good) in
      record {
        end = s.end;
        ends = ap (λ (w : View). w.stop) view ∙ s.ends;
        good = subst (λ (w : View). Every (Good r') w.recs) (sym view) (goods ga gb kept);
        tail = rw (after_end behind) s.tail;
      }
    where
      after_end : x.at + x.len ≤ s.end → drop s.end (removed_from how region x) ≡ drop s.end region
      after_end h =
          let j : x.at + x.len + (s.end - (x.at + x.len)) ≡ s.end = omega arith in
          let g : drop (s.end - (x.at + x.len)) (drop (x.at + x.len) (removed_from how region x)) ≡ drop (s.end - (x.at + x.len)) (drop (x.at + x.len) region) = ap (drop (s.end - (x.at + x.len))) (removal_tail how region a x b e) in
          rw (drop-drop (s.end - (x.at + x.len)) (x.at + x.len) (removed_from how region x), drop-drop (s.end - (x.at + x.len)) (x.at + x.len) region, j) at g

      goods : Every (Good region) a → Every (Good region) (x ∷ b) → Kept (removed_from how region x) region (a ++ b) → Every (Good (removed_from how region x)) (a ++ dead x ∷ b)
      goods ga (Every.also g gb) kept =
          let (ka, kb) = every_split a b kept in
          every_join (good_kept (removed_from how region x) region a ka ga)
          (Every.also {x = dead x} (record { flags = inr (flags_dead x.flags g.flags); length_most = g.length_most; sum = λ h. absurd (false≢true (sym (dead_not_live x) ∙ h)) })
          (good_kept (removed_from how region x) region b kb gb))

-- An erase.

pub sound_blank : (size : ℕ) → Sound (erased size)
sound_blank size = record {
  end = 0;
  ends = ap (λ (w : View). w.stop) (blank_region size);
  good = subst (λ (w : View). Every (Good (erased size)) w.recs) (sym (blank_region size)) Every.none;
  tail = blank_erased size;
}
