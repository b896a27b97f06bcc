-- What is known of a region, and of what a write does to it. Every region is any list of bytes, damaged or not, unless a line says more.
-- Words that the statements use are in specs/Words.antt: `None`, no record of a list is wanted; `First`, the first that is; `Kept`, the bytes of these
-- records are the same in both regions; `place_of`, the place of a stop.
-- Assumes nothing.
use Prim.Native.Nat.{ℕ, ◌+◌, ◌-◌, ◌%◌, ◌^◌, ◌≤◌, ◌<◌}
use native.Mathlib.Nat.{add-zero}
use native.Mathlib.Omega.{arith}
use mathlib.Core.Path.{◌≡◌, refl, sym, ◌∙◌, ap, subst}
use mathlib.Core.Bool.{true, false}
use mathlib.Core.List.{List, [], ◌∷◌, ◌++◌}
use lib.ListN.{length, get_or, take, drop, set, replicate}
use lib.Seq.{sets, take_all}
use borrow.Author.Tests.{lt-leb}
use Rattle.crc32.proofs.Theorems.{checksum_fits}
use Rattle.chip.specs.Chip.{Bytes, written, erased, is_blank}
use Rattle.chip.proofs.Lists.{sets-after, sets_part}
use Rattle.chip.proofs.Runs.{written_run, run_within}
use Rattle.chip.proofs.Laws.{blank-take, blank_erased}
use Rattle.chip.proofs.Theorems.{over_blank}
use Rattle.format.specs.declared.Record.{Record}
use Rattle.region.specs.declared.Stop.{Stop}
use Rattle.region.specs.declared.Stop.TheVariants.{End}
use Rattle.std.specs.Prelude.{Ok}
use Rattle.region.specs.declared.Want.{Want}
use Rattle.region.specs.declared.Event.{Event}
use Rattle.format.specs.declared.Removal.{Removal}
use Rattle.format.specs.Layout.{edition, most_length, record_length, header_and_value, record_bytes, kill_bytes, kill_place, check_sum_fits, live}
use Rattle.region.specs.Walk.{length_at, flags_at, record_at, met_at, walk_from, records, ending, value_in, bytes_in, record_of, dead, is_wanted, event_of, event_in}
use Rattle.format.proofs.Bytes.{length_record, record_bytes_lem, sum_says}
use Rattle.region.proofs.Bytes.{record_says, value_says}
use Rattle.region.proofs.Steps.{Found, found, found_fits, place_of}
use Rattle.region.proofs.Reach.{reach_le, reach_stop, reach_within, split, split_records}
use Rattle.region.proofs.Same.{Kept}
use Rattle.region.proofs.Search as Search
use Rattle.region.proofs.Search.{First, None, first_live, is_first, none_passes}
use Rattle.region.proofs.Change.{walk_blank, walk_laid, kept_laid, walk_buried, kept_buried}
use Rattle.format.proofs.Killed.{kill_length_lem}
use Rattle.region.proofs.Kill.{bytes_are, kill_stores, kill_buries}

-- R4.8: a live record decides a search where it is the first that is sought, and only there.
pub live_decides : (r : List ℕ) (want : Want) (x : Record) → event_in r want ≡ Event.Live x → First (is_wanted want) (records r) x
live_decides r want x h = first_live (is_wanted want) (records r) (ending r) x h

pub first_decides : (r : List ℕ) (want : Want) (a : List Record) (x : Record) (b : List Record) → records r ≡ a ++ x ∷ b
    → None (is_wanted want) a → is_wanted want x ≡ true → event_in r want ≡ Event.Live x
first_decides r want a x b e n p = rw e (is_first (is_wanted want) a x b (ending r) n p)

-- R4.8: a bad place or the end decides it where none of its records is sought, and only there.
pub stop_decides : (r : List ℕ) (want : Want) (s : Stop) → event_in r want ≡ event_of s → None (is_wanted want) (records r) × (ending r ≡ s)
stop_decides r want s h = Search.stop_decides (is_wanted want) (records r) (ending r) s h

pub none_decides : (r : List ℕ) (want : Want) → None (is_wanted want) (records r) → event_in r want ≡ event_of (ending r)
none_decides r want n = none_passes (is_wanted want) (records r) (ending r) n

-- R4.3: the walk of a blank region ends at place 0: it has no records.
pub blank_region : (size : ℕ) → walk_from (erased size) 0 ≡ record { recs = []; stop = End 0 }
blank_region size = walk_blank (erased size) 0 (blank_erased size)

found_there : (r : List ℕ) (a : List Record) (x : Record) (b : List Record) → records r ≡ a ++ x ∷ b → Found (length r - x.at) (record_at r x.at) x
found_there r a x b e = found (length r - x.at) (record_at r x.at) x (split_records r a x b e).stands

-- R4.5, R4.6: records lie within the region, and are 15 bytes or longer.
pub records_within : (r : List ℕ) (a : List Record) (x : Record) (b : List Record) → records r ≡ a ++ x ∷ b → (15 ≤ x.len) × (x.at + x.len ≤ length r)
records_within r a x b e = found_fits r x.at x (split_records r a x b e).stands

-- R3.1, R4.4: what a record's header says fits its bits: the one version that is read, 12 bits of length, and 4 of flags.
pub records_edition : (r : List ℕ) (a : List Record) (x : Record) (b : List Record) → records r ≡ a ++ x ∷ b → x.version ≡ edition
records_edition r a x b e =
    let f = found_there r a x b e in
    ap (λ (y : Record). y.version) (sym f.same) ∙ f.version_is

pub records_short : (r : List ℕ) (a : List Record) (x : Record) (b : List Record) → records r ≡ a ++ x ∷ b → x.len ≤ most_length
records_short r a x b e =
    let l : length_at r x.at ≡ x.len = ap (λ (y : Record). y.len) (found_there r a x b e).same in
    omega arith

pub records_flags : (r : List ℕ) (a : List Record) (x : Record) (b : List Record) → records r ≡ a ++ x ∷ b → Bytes r → x.flags ≤ 15
records_flags r a x b e v =
    let l : flags_at r x.at ≡ x.flags = ap (λ (y : Record). y.flags) (found_there r a x b e).same in
    omega (arith, v (x.at + 1))

-- R4.6: records do not overlap: each ends where the next begins or before.
pub records_apart : (r : List ℕ) (a : List Record) (x : Record) (b : List Record) (y : Record) (c : List Record)
    → records r ≡ a ++ x ∷ (b ++ y ∷ c) → x.at + x.len ≤ y.at
records_apart r a x b y c e = reach_le (split b y c (split_records r a x (b ++ y ∷ c) e).from).to

-- R4.6: the walk stops within the region, behind the last record.
pub stop_within : (r : List ℕ) → place_of (ending r) ≤ length r
stop_within r = reach_within (omega arith) (reach_stop r)

pub stops_behind : (r : List ℕ) (a : List Record) (x : Record) (b : List Record) → records r ≡ a ++ x ∷ b → x.at + x.len ≤ place_of (ending r)
stops_behind r a x b e = reach_le (split_records r a x b e).from

-- R3.1, R3.6: the bytes of a record read back to its key, length and value, and its checksum is right.
pub reads_back : (key : ℕ) (value : List ℕ) → key < 2 ^ 64 → length value ≤ 4079
    → (length (record_bytes key value) ≡ record_length (length value))
    × (met_at (record_bytes key value) 0 ≡ Ok (record_of 0 key value))
    × (value_in (record_bytes key value) (record_of 0 key value) ≡ value)
    × (check_sum_fits (record_bytes key value) ≡ true)
reads_back key value h l = (length_record key value, record_says key value h l, value_says key value, sum_says key value (checksum_fits (header_and_value key value)))

-- R5.4: append's write at the end of a region whose tail is all 255 adds exactly that record, and leaves the bytes of all others.
pub append_adds : (r : List ℕ) (o key : ℕ) (value : List ℕ) → ending r ≡ End o → is_blank (drop o r) ≡ true → o + record_length (length value) ≤ length r
    → key < 2 ^ 64 → length value ≤ 4079 → Bytes value
    → (walk_from (written r o (record_bytes key value)) 0 ≡ record { recs = records r ++ record_of o key value ∷ []; stop = End (o + record_length (length value)) })
    × Kept (written r o (record_bytes key value)) r (records r)
append_adds r o key value e b f k l v =
    let new = record_bytes key value in
    let n = length_record key value in
    let fits : o + length new ≤ length r = omega arith in
    let s : written r o (record_bytes key value) ≡ sets r o new = over_blank r o new (record_bytes_lem key value l v) fits (blank-take (length new) (drop o r) b) in
    let says = record_says key value k l in (
      subst (λ (r' : List ℕ). walk_from r' 0 ≡ record { recs = records r ++ record_of o key value ∷ []; stop = End (o + record_length (length value)) }) (sym s)
          (walk_laid r new o (record_of 0 key value) fits says (sym n) e b ∙ ap (λ (m : ℕ). record { recs = records r ++ record_of o key value ∷ []; stop = End (o + m) }) n),
      subst (λ (r' : List ℕ). Kept r' r (records r)) (sym s) (kept_laid r new o (record_of 0 key value) fits says (sym n) e b),
    )

-- R5.4: what append wrote stands there: over a blank place the record's bytes are those of its key and value.
pub append_writes : (r : List ℕ) (o key : ℕ) (value : List ℕ) → is_blank (take (record_length (length value)) (drop o r)) ≡ true → o + record_length (length value) ≤ length r
    → length value ≤ 4079 → Bytes value → bytes_in (written r o (record_bytes key value)) (record_of o key value) ≡ record_bytes key value
append_writes r o key value b f l v =
    let new = record_bytes key value in
    let n = length_record key value in
    let fits : o + length new ≤ length r = omega arith in
    let blank : is_blank (take (length new) (drop o r)) ≡ true = rw n b in
    let s = over_blank r o new (record_bytes_lem key value l v) fits blank in
    let w : take (record_length (length value)) (drop (o + 0) (sets r o new)) ≡ take (record_length (length value)) (drop 0 new) = sets_part r o new fits 0 (record_length (length value)) (omega arith) in
    rw s (rw add-zero at w ∙ take_all (record_length (length value)) new (omega arith))

-- R3.7: what makes a record dead is known from the record alone, and is made of the region's bytes as they are: byte 1 with the top bit cleared;
-- or version, byte 1 so, byte 2 and key, and 0 for every byte of value and checksum.
pub removal_bytes : (r : List ℕ) (a : List Record) (x : Record) (b : List Record) → Bytes r → records r ≡ a ++ x ∷ b
    → (kill_bytes Removal.Invalidate x ≡ get_or r (x.at + 1) 0 % 128 ∷ [])
    × (kill_bytes Removal.Zeroise x ≡ set (take 11 (drop x.at r)) 1 (get_or r (x.at + 1) 0 % 128) ++ replicate (x.len - 11) 0)
removal_bytes r a x b v e =
    let are = bytes_are r x v (split_records r a x b e).stands in
    (are Removal.Invalidate, are Removal.Zeroise)

-- R3.7: over the record the chip's write is the same as a store.
pub removal_stores : (how : Removal) (r : List ℕ) (a : List Record) (x : Record) (b : List Record) → Bytes r → records r ≡ a ++ x ∷ b
    → written r (kill_place how x) (kill_bytes how x) ≡ sets r (kill_place how x) (kill_bytes how x)
removal_stores how r a x b v e = kill_stores how r x v (split_records r a x b e).stands

-- R3.7: a removal's write makes exactly that record dead, and leaves the bytes of all others.
pub removal_kills : (how : Removal) (r : List ℕ) (a : List Record) (x : Record) (b : List Record) → Bytes r → records r ≡ a ++ x ∷ b
    → (walk_from (written r (kill_place how x) (kill_bytes how x)) 0 ≡ record { recs = a ++ dead x ∷ b; stop = ending r })
    × Kept (written r (kill_place how x) (kill_bytes how x)) r (a ++ b)
removal_kills how r a x b v e =
    let r' = written r (kill_place how x) (kill_bytes how x) in
    let u = kill_buries how r x v (split_records r a x b e).stands in
    (walk_buried r' r a x b u e, kept_buried r' r a x b u e)

pub invalidate_kills : (r : List ℕ) (a : List Record) (x : Record) (b : List Record) → Bytes r → records r ≡ a ++ x ∷ b
    → (walk_from (written r (kill_place Removal.Invalidate x) (kill_bytes Removal.Invalidate x)) 0 ≡ record { recs = a ++ dead x ∷ b; stop = ending r })
    × Kept (written r (kill_place Removal.Invalidate x) (kill_bytes Removal.Invalidate x)) r (a ++ b)
invalidate_kills = removal_kills Removal.Invalidate

pub zeroise_kills : (r : List ℕ) (a : List Record) (x : Record) (b : List Record) → Bytes r → records r ≡ a ++ x ∷ b
    → (walk_from (written r (kill_place Removal.Zeroise x) (kill_bytes Removal.Zeroise x)) 0 ≡ record { recs = a ++ dead x ∷ b; stop = ending r })
    × Kept (written r (kill_place Removal.Zeroise x) (kill_bytes Removal.Zeroise x)) r (a ++ b)
zeroise_kills = removal_kills Removal.Zeroise

-- R3.7: zeroise leaves what it wrote: the record's header with the top flag cleared, and zeros over its value and checksum.
pub zeroise_zeros : (r : List ℕ) (a : List Record) (x : Record) (b : List Record) → Bytes r → records r ≡ a ++ x ∷ b
    → bytes_in (written r (kill_place Removal.Zeroise x) (kill_bytes Removal.Zeroise x)) x
    ≡ set (take 11 (drop x.at r)) 1 (get_or r (x.at + 1) 0 % 128) ++ replicate (x.len - 11) 0
zeroise_zeros r a x b v e =
    let (one, all) = removal_bytes r a x b v e in
    let (l, f) = records_within r a x b e in
    let z = kill_bytes Removal.Zeroise x in
    let n = kill_length_lem Removal.Zeroise x l in
    let fits : x.at + length z ≤ length r = omega arith in
    let w : take x.len (drop (x.at + 0) (sets r x.at z)) ≡ take x.len (drop 0 z) = sets_part r x.at z fits 0 x.len (omega arith) in
    let s : written r (x.at + 0) z ≡ sets r x.at z = removal_stores Removal.Zeroise r a x b v e ∙ ap (λ (p : ℕ). sets r p z) (add-zero x.at) in
    ap (λ (r' : List ℕ). bytes_in r' x) s ∙ rw add-zero at w ∙ take_all x.len z (omega arith) ∙ all

-- R10.1: the bytes behind the last record stay: a tail that is all 255 is so after each of the writes.
pub append_tail : (r : List ℕ) (o key : ℕ) (value : List ℕ) → is_blank (drop o r) ≡ true → o + record_length (length value) ≤ length r → length value ≤ 4079 → Bytes value
    → drop (o + record_length (length value)) (written r o (record_bytes key value)) ≡ drop (o + record_length (length value)) r
append_tail r o key value b f l v =
    let new = record_bytes key value in
    let n = length_record key value in
    let fits : o + length new ≤ length r = omega arith in
    let s = over_blank r o new (record_bytes_lem key value l v) fits (blank-take (length new) (drop o r) b) in
    subst (λ (m : ℕ). drop (o + m) (written r o (record_bytes key value)) ≡ drop (o + m) r) n (rw s (sets-after r o new fits))

pub removal_tail : (how : Removal) (r : List ℕ) (a : List Record) (x : Record) (b : List Record) → records r ≡ a ++ x ∷ b
    → drop (x.at + x.len) (written r (kill_place how x) (kill_bytes how x)) ≡ drop (x.at + x.len) r
removal_tail how r a x b e = let (l, f) = records_within r a x b e in inside how l
  where
    within : (how : Removal) → x.at ≤ kill_place how x → kill_place how x + length (kill_bytes how x) ≤ x.at + x.len
        → drop (x.at + x.len) (written r (kill_place how x) (kill_bytes how x)) ≡ drop (x.at + x.len) r
    within how p q = (run_within written_run r (kill_place how x) (kill_bytes how x) x.at x.len p q).after

    inside : (how : Removal) → 15 ≤ x.len → drop (x.at + x.len) (written r (kill_place how x) (kill_bytes how x)) ≡ drop (x.at + x.len) r
    inside Removal.Invalidate l = within Removal.Invalidate (omega arith) (omega arith)
    inside Removal.Zeroise l = within Removal.Zeroise (omega arith) (omega (arith, kill_length_lem Removal.Zeroise x l))

pub invalidate_tail : (r : List ℕ) (a : List Record) (x : Record) (b : List Record) → records r ≡ a ++ x ∷ b
    → drop (x.at + x.len) (written r (kill_place Removal.Invalidate x) (kill_bytes Removal.Invalidate x)) ≡ drop (x.at + x.len) r
invalidate_tail = removal_tail Removal.Invalidate

pub zeroise_tail : (r : List ℕ) (a : List Record) (x : Record) (b : List Record) → records r ≡ a ++ x ∷ b
    → drop (x.at + x.len) (written r (kill_place Removal.Zeroise x) (kill_bytes Removal.Zeroise x)) ≡ drop (x.at + x.len) r
zeroise_tail = removal_tail Removal.Zeroise

-- R3.4: a record that append writes is live, and one without its top flag is not.
pub written_is_live : (o key : ℕ) (value : List ℕ) → live (record_of o key value) ≡ true
written_is_live o key value = refl

pub dead_not_live : (x : Record) → live (dead x) ≡ false
dead_not_live x = lt-leb 8 (x.flags % 8) (omega arith)
