-- What laying a record down at the end, and making one dead, do to the parsed view.
-- Assumes nothing.
use Prim.Native.Nat.{ℕ, ◌+◌, ◌-◌, ◌*◌, ◌/◌, ◌%◌, ◌≤◌, ◌<◌}
use native.Mathlib.Nat.{zero-add, add-zero, add_assoc}
use native.Mathlib.Omega.{arith}
use mathlib.Core.Path.{◌≡◌, refl, sym, ◌∙◌, ap, subst}
use mathlib.Core.Bool.{Bool, true, false}
use mathlib.Core.List.{List, [], ◌∷◌, ◌++◌, append-nil}
use lib.ListN.{length, get_or, take, drop, length-drop}
use lib.Dec.{ltb}
use lib.Seq.{sets, length-sets, get_or-drop}
use borrow.Author.Tests.{ltb-true, ltb-false}
use Rattle.chip.specs.Chip.{is_blank}
use Rattle.chip.proofs.Lists.{every_join, byte_after, sets-before, sets-after, sets_at}
use Rattle.chip.proofs.Laws.{blank_at_lem, at_blank}
use Rattle.format.specs.declared.Record.{Record}
use Rattle.region.specs.declared.Stop.TheVariants.{End}
use Rattle.std.specs.Prelude.{Ok, Err}
use Rattle.region.specs.Walk.{length_at, flags_at, key_at, record_at, met_at, stopped, walk_from, records, ending, dead}
use Rattle.format.proofs.Numbers.{big_same}
use Rattle.region.proofs.Steps.{Stands, stands_is, found, is_found, found_fits, walk_stop, place_of}
use Rattle.region.proofs.Reach.{Reach, reach_le, reach_join, reach_walk, reach_stop, stands_stop, is_walk, split_records}
use Rattle.region.proofs.Same.{moved, record_same, met_after, reach_before, reach_after, Kept, kept_before, kept_after}

-- A tail that is all 255 has no record.

pub walk_blank : (r : List ℕ) (o : ℕ) → is_blank (drop o r) ≡ true → walk_from r o ≡ stopped (End o)
walk_blank r o h = walk_stop r o (End o) (go (ltb (length r - o) 15) refl)
  where
    go : (b : Bool) → ltb (length r - o) 15 ≡ b → met_at r o ≡ Err (End o)
    go true e = stands_is _ _ _ (Stands.short (ltb-true _ _ e))
    go false e =
        let l : 15 ≤ length r - o = ltb-false _ _ e in
        let v : get_or r o 0 ≡ 255 = ap (λ (p : ℕ). get_or r p 0) (sym (add-zero o)) ∙ sym (get_or-drop o r 0 0) ∙ blank_at_lem (drop o r) h 0 (omega (arith, length-drop o r)) in
        stands_is _ _ _ (Stands.free l v)

-- A record's bytes, laid down at the end of a region whose tail is blank, are one record more.

module _ (r b : List ℕ) (p : ℕ) (x : Record) (fits : p + length b ≤ length r) (says : met_at b 0 ≡ Ok x) (size : x.len ≡ length b) where
  met_laid : met_at (sets r p b) p ≡ Ok (moved p x)
  met_laid =
      let s = found (length b - 0) (record_at b 0) x says in
      let m = length-sets r p b in
      let f = found_fits b 0 x says in
      let same : record_at (sets r p b) p ≡ moved p x =
      record_same (sets r p b) b p 0 (λ k j. rw zero-add (sets_at r p b fits k (omega arith))) ∙ ap (moved p) s.same in
      let len : length_at (sets r p b) p ≡ x.len = ap (λ (y : Record). y.len) same in
      is_found _ _ _ (record { space = omega arith; version_is = ap (λ (y : Record). y.version) (same ∙ ap (moved p) (sym s.same)) ∙ s.version_is; least = omega arith; fits = omega arith; same = same })

  module _ (end : ending r ≡ End p) (blank : is_blank (drop p r) ≡ true) where
    to_end : Reach r 0 p (records r)
    to_end = subst (λ (q : ℕ). Reach r 0 q (records r)) (ap place_of end) (reach_stop r)

    blank_after : is_blank (drop (p + length b) (sets r p b)) ≡ true
    blank_after =
        at_blank (drop (p + length b) (sets r p b))
        (λ k l.
        let g = get_or-drop (p + length b) (sets r p b) k 0 in
        let i = byte_after (sets r p b) r (p + length b) (p + length b + k) (sets-after r p b fits) (omega arith) in
        let j : p + (length b + k) ≡ p + length b + k = omega arith in
        g ∙ i ∙ ap (λ (q : ℕ). get_or r q 0) (sym j) ∙ sym (get_or-drop p r (length b + k) 0)
        ∙ blank_at_lem (drop p r) blank (length b + k) (omega (arith, length-drop p r, length-drop (p + length b) (sets r p b), length-sets r p b)))

    pub walk_laid : walk_from (sets r p b) 0 ≡ record { recs = records r ++ moved p x ∷ []; stop = End (p + length b) }
    walk_laid =
        reach_walk (reach_join (reach_before (sets r p b) (length-sets r p b) (sets-before r p b fits) to_end) (Reach.past met_laid Reach.here))
        ∙ rw (size, walk_blank (sets r p b) (p + length b) blank_after, append-nil)

    pub kept_laid : Kept (sets r p b) r (records r)
    kept_laid = kept_before (sets r p b) (sets-before r p b fits) to_end

-- A record made dead: its top flag alone is gone.

-- r' is r but for the record x, whose header has the top bit of byte 1 cleared.
pub record Buried (r' r : List ℕ) (x : Record) : Type 0 where
  pub as_long : length r' ≡ length r
  pub before : take x.at r' ≡ take x.at r
  pub after : drop (x.at + x.len) r' ≡ drop (x.at + x.len) r
  pub flag : get_or r' (x.at + 1) 0 ≡ get_or r (x.at + 1) 0 % 128
  pub rest : (k : ℕ) → k < 11 → (k ≡ 1 → ⊥) → get_or r' (x.at + k) 0 ≡ get_or r (x.at + k) 0

-- flags without the top one
pub flag_gone : (b : ℕ) → b % 128 / 16 ≡ b / 16 % 8
flag_gone b = let q : b / 16 ≡ b / 128 * 8 + b % 128 / 16 = omega arith in omega arith

met_buried : (r' r : List ℕ) (x : Record) → Buried r' r x → met_at r x.at ≡ Ok x → met_at r' x.at ≡ Ok (dead x)
met_buried r' r x u q =
    let o = x.at in
    let s = found (length r - o) (record_at r o) x q in
    let n = u.as_long in
    let one = u.flag in
    let two = u.rest 2 (omega arith) (λ e. omega arith) in
    let v : get_or r' o 0 ≡ get_or r o 0 = rw add-zero at (u.rest 0 (omega arith) (λ e. omega arith)) in
    let len : length_at r' o ≡ length_at r o = omega arith in
    let flags : flags_at r' o ≡ flags_at r o % 8 = ap (λ (b : ℕ). b / 16) one ∙ flag_gone (get_or r (o + 1) 0) in
    let key : key_at r' o ≡ key_at r o = big_same _ _ _ _ 8 (λ k l. rw (add_assoc o 3 k) (u.rest (3 + k) (omega arith) (λ e. omega arith))) in
    let same : record_at r' o ≡ dead (record_at r o) = λ i. record { at = o; len = len i; version = v i; flags = flags i; key = key i } in
    is_found _ _ _
    (record {
      space = omega arith;
      version_is = v ∙ s.version_is;
      least = omega arith;
      fits = omega arith;
      same = same ∙ ap dead s.same;
    })

module _ (r' r : List ℕ) (a : List Record) (x : Record) (b : List Record) (u : Buried r' r x) (e : records r ≡ a ++ x ∷ b) where
  pub walk_buried : walk_from r' 0 ≡ record { recs = a ++ dead x ∷ b; stop = ending r }
  walk_buried =
      let s = split_records r a x b e in
      let f = found_fits r x.at x s.stands in
      is_walk
      (record {
        place = place_of (ending r);
        reach = reach_join (reach_before r' u.as_long u.before s.to)
            (Reach.past (met_buried r' r x u s.stands) (reach_after r' (x.at + x.len) u.as_long u.after (omega arith) s.from));
        stops = met_after r' r (x.at + x.len) (place_of (ending r)) u.as_long u.after (reach_le s.from) ∙ stands_stop r;
      })

  pub kept_buried : Kept r' r (a ++ b)
  kept_buried =
      let s = split_records r a x b e in
      every_join (kept_before r' u.before s.to) (kept_after r' (x.at + x.len) u.after (omega arith) s.from)
