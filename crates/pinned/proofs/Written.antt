-- What append and the removals wrote, where they answer Written: the tests that lead there, and what the chip's write does to the regions.
-- Assumes nothing.
use Prim.Native.Nat.{ℕ, zero, suc, ◌+◌, ◌*◌, ◌≤◌, ◌<◌}
use native.Mathlib.Omega.{arith}
use mathlib.Core.Path.{◌≡◌, refl, sym, ◌∙◌, ap}
use mathlib.Core.Bool.{Bool, true, false, ◌&&◌, true≢false}
use mathlib.Core.List.{List, [], ◌∷◌, ◌++◌}
use lib.Dec.{eqb}
use lib.ListN.{length, get_or, take, drop, length-drop}
use lib.Seq.{length-take-le, get_or-drop}
use borrow.Author.Tests.{eqb-true}
use Rattle.lookup.specs.Gather.{some_room}
use Rattle.std.specs.Prelude.{Some, None, Ok}
use Rattle.chip.specs.Chip.{Bytes, written}
use Rattle.chip.specs.Geometry.{region_of}
use Rattle.chip.proofs.Laws.{bytes_cons, blank_at_lem}
use Rattle.chip.proofs.Image.{region-length, region_written_same, region_written_other}
use Rattle.probe.specs.Probe.{probes}
use Rattle.probe.proofs.Theorems.{members}
use Rattle.format.specs.declared.Record.{Record}
use Rattle.region.specs.declared.Want.{Want}
use Rattle.format.specs.declared.Removal.{Removal}
use Rattle.format.specs.Layout.{record_length, record_bytes, kill_place, kill_bytes, live}
use Rattle.region.specs.Walk.{View, walk_from, records, ending, dead, is_wanted}
use Rattle.format.proofs.Numbers.{no_bytes}
use Rattle.format.proofs.Bytes.{length_record}
use Rattle.format.proofs.Killed.{kill_length_lem}
use Rattle.region.proofs.Theorems.{live_decides, append_writes, removal_kills, dead_not_live}
use Rattle.lookup.specs.declared.Seen.{Seen}
use Rattle.lookup.specs.declared.Looked.{Looked}
use Rattle.lookup.specs.Words.{first_room}
use Rattle.lookup.specs.Turns.{lookup_in}
use Rattle.lookup.proofs.Scan.{found, room_from}
use Rattle.plans.specs.declared.Success.TheVariants.{Written}
use Rattle.plans.specs.Answers.{refusal}
use Rattle.plans.specs.Writes.{applied}
use Rattle.store.specs.Write.{Done}
use Rattle.store.specs.Call.{append, remove, answer_of, image_after}
use Rattle.pinned.specs.When.{Reads}
use Rattle.pinned.specs.Left.{Appended, Removed}
use Rattle.pinned.proofs.Calls.{append_placed, removed_live}
use Rattle.pinned.proofs.Answers.{Appending, appending, Removing, removing, not_refused, reads_if}

module _ (image : List ℕ) (s n key : ℕ) (value : List ℕ) (v : Bytes value) (reads : Reads image s n (append key value)) where
  appended_at : {seen : Seen} (r o : ℕ) → lookup_in key (Some (record_length (length value))) s image (probes key n) ≡ Looked.Through seen
      → first_room (record_length (length value)) s image (probes key n) ≡ some_room r o true → Appended image s n key value (image_after (append key value) image s n)
  unfolding record_bytes applied
  appended_at r o e f =
      let (m, roomy) = room_from (record_length (length value)) s image (probes key n) r o true f in
      let number : r < n = (members key n r reads.fits.shape.n_least).1 m in
      let size = region-length reads.fits number in
      let new = record_bytes key value in
      let len = length_record key value in
      let image' = image_after (append key value) image s n in
      let w : image' ≡ written image (r * s + o) new = ap (λ (d : Done). d.image) (append_placed image s n reads e f) in
      let fits : o + length new ≤ s = omega (arith, roomy.enough) in
      let blank = sym roomy.blankness in
      let same : region_of s image' r ≡ written (region_of s image r) o new = ap (λ (i : List ℕ). region_of s i r) w ∙ region_written_same s r image o new fits in
      let stands : take (record_length (length value)) (drop o (region_of s image' r)) ≡ new =
      ap (λ (l : List ℕ). take (record_length (length value)) (drop o l)) same ∙ append_writes (region_of s image r) o key value blank roomy.enough reads.not_large v in
      record {
        region = r;
        place = o;
        first = f;
        one_write = w;
        was_blank = blank;
        stands_there = stands;
        others = λ q h. ap (λ (i : List ℕ). region_of s i q) w ∙ region_written_other s r image o new fits q h;
        changed = λ h.
            let long : length (take (record_length (length value)) (drop o (region_of s image r))) ≡ record_length (length value) =
            length-take-le (record_length (length value)) (drop o (region_of s image r)) (omega (arith, length-drop o (region_of s image r), roomy.enough)) in
            let was : get_or (take (record_length (length value)) (drop o (region_of s image r))) 0 0 ≡ 255 = blank_at_lem _ blank 0 (omega arith) in
            let is : take (record_length (length value)) (drop o (region_of s image r)) ≡ new = ap (λ (i : List ℕ). take (record_length (length value)) (drop o (region_of s i r))) (sym h) ∙ stands in
            let one : get_or new 0 0 ≡ 1 = refl in
            omega (arith, ap (λ (l : List ℕ). get_or l 0 0) is);
      }

pub append_wrote : (image : List ℕ) (s n key : ℕ) (value : List ℕ) → Bytes value → answer_of (append key value) image s n ≡ Ok Written
    → Appended image s n key value (image_after (append key value) image s n)
append_wrote image s n key value v h = let reads = reads_if image s n (append key value) (ap refusal h) in go reads (appending image s n key value reads)
  where
    go : Reads image s n (append key value) → Appending image s n key value → Appended image s n key value (image_after (append key value) image s n)
    go reads (Appending.append_no (k, w)) = absurd (not_refused image s n (append key value) (ap refusal h) w)
    go reads (Appending.appends seen r o e f) = appended_at image s n key value v reads r o e f

-- The removals.

middle_same : {A : Type 0} (a : List A) (x y : A) (b : List A) → a ++ x ∷ b ≡ a ++ y ∷ b → x ≡ y
middle_same [] x y b h = cc
middle_same (z ∷ a) x y b h = let t : a ++ x ∷ b ≡ a ++ y ∷ b = cc in middle_same a x y b t

-- a record that is wanted is live and has the key
pub wanted : (key : ℕ) (x : Record) → is_wanted (Want.Key key) x ≡ true → (live x ≡ true) × (x.key ≡ key)
wanted key x h = go (live x) refl (eqb x.key key) refl h
  where
    go : (a : Bool) → live x ≡ a → (b : Bool) → eqb x.key key ≡ b → (a && b) ≡ true → (live x ≡ true) × (x.key ≡ key)
    go true p true q h = (p, eqb-true _ _ q)
    go true p false q h = absurd (true≢false (sym h))
    go false p b q h = absurd (true≢false (sym h))

bytes_take : (k : ℕ) (l : List ℕ) → Bytes l → Bytes (take k l)
bytes_take zero l v = no_bytes
bytes_take (suc k) [] v = no_bytes
bytes_take (suc k) (b ∷ l) v = bytes_cons b (take k l) (v 0) (bytes_take k l (λ i. v (suc i)))

-- a region of an image of bytes is one of bytes
pub region_bytes : (s : ℕ) (image : List ℕ) (r : ℕ) → Bytes image → Bytes (region_of s image r)
region_bytes s image r v = bytes_take s (drop (r * s) image) (λ k. rw (get_or-drop (r * s) image k 0) (v (r * s + k)))

-- what a removal writes lies within the record
pub kill_fits : (how : Removal) (x : Record) → 15 ≤ x.len → kill_place how x + length (kill_bytes how x) ≤ x.at + x.len
kill_fits Removal.Invalidate x l = omega arith
kill_fits Removal.Zeroise x l = omega (arith, kill_length_lem Removal.Zeroise x l)

module _ (how : Removal) (image : List ℕ) (s n key : ℕ) (v : Bytes image) (reads : Reads image s n (remove how key)) where
  removed_at : (r : ℕ) (x : Record) → lookup_in key None s image (probes key n) ≡ Looked.Live r x → Removed how image s n key (image_after (remove how key) image s n)
  removed_at r x e =
      let o = found key None r x reads.fits e in
      let size = region-length reads.fits o.number in
      let region = region_of s image r in
      let new = kill_bytes how x in
      let image' = image_after (remove how key) image s n in
      let first = live_decides region (Want.Key key) x o.event in
      let w : image' ≡ written image (r * s + kill_place how x) new = ap (λ (d : Done). d.image) (removed_live image s n reads e) in
      let fits : kill_place how x + length new ≤ s = omega (arith, kill_fits how x o.least, o.fits) in
      let same : region_of s image' r ≡ written region (kill_place how x) new = ap (λ (i : List ℕ). region_of s i r) w ∙ region_written_same s r image (kill_place how x) new fits in
      let is = wanted key x first.passes in
      let dead_now : walk_from (region_of s image' r) 0 ≡ record { recs = first.before ++ dead x ∷ first.after; stop = ending region } =
      ap (λ (l : List ℕ). walk_from l 0) same ∙ (removal_kills how region first.before x first.after (region_bytes s image r v) first.split).0 in
      record {
        region = r;
        rec = x;
        found = e;
        one_write = w;
        before = first.before;
        after = first.after;
        was_there = first.split;
        was_live = is.0;
        of_key = is.1;
        now_dead = dead_now;
        others = λ q h. ap (λ (i : List ℕ). region_of s i q) w ∙ region_written_other s r image (kill_place how x) new fits q h;
        changed = λ h.
            let l : first.before ++ x ∷ first.after ≡ first.before ++ dead x ∷ first.after =
            sym first.split ∙ ap (λ (i : List ℕ). records (region_of s i r)) (sym h) ∙ ap (λ (w : View). w.recs) dead_now in
            let z : true ≡ false = sym is.0 ∙ ap live (middle_same first.before x (dead x) first.after l) ∙ dead_not_live x in
            let y : ◌≡◌ {A = ℕ} 0 1 = cc in
            omega arith;
      }

pub remove_wrote : (how : Removal) (image : List ℕ) (s n key : ℕ) → Bytes image → answer_of (remove how key) image s n ≡ Ok Written → Removed how image s n key (image_after (remove how key) image s n)
remove_wrote how image s n key v h = let reads = reads_if image s n (remove how key) (ap refusal h) in go reads (removing image s n how key reads)
  where
    go : Reads image s n (remove how key) → Removing image s n how key → Removed how image s n key (image_after (remove how key) image s n)
    go reads (Removing.remove_no (k, w)) = absurd (not_refused image s n (remove how key) (ap refusal h) w)
    go reads (Removing.removes r x e) = removed_at how image s n key v reads r x e
