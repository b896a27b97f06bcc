-- Two regions that agree on some bytes have the same records there.
-- Assumes nothing.
use Prim.Native.Nat.{ℕ, ◌+◌, ◌-◌, ◌*◌, ◌/◌, ◌%◌, ◌≤◌, ◌<◌}
use native.Mathlib.Nat.{add_assoc, add-zero}
use native.Mathlib.Omega.{arith}
use mathlib.Core.Path.{◌≡◌, ◌∙◌}
use mathlib.Core.List.{List}
use lib.ListN.{length, get_or, take, drop}
use Rattle.chip.proofs.Lists.{Every, byte_before, byte_after, part_before, part_after}
use Rattle.format.specs.declared.Record.{Record}
use Rattle.region.specs.Walk.{record_at, met_of, met_at}
pub use Rattle.region.specs.Words.{Kept}
use Rattle.format.proofs.Numbers.{big_same}
use Rattle.region.proofs.Steps.{found_fits, found_at}
use Rattle.region.proofs.Reach.{Reach, reach_le}

-- a record, at another place
abbrev pub moved : ℕ → Record → Record
moved o x = record { at = o; len = x.len; version = x.version; flags = x.flags; key = x.key }

-- a header's eleven bytes say the record
pub record_same : (r' r : List ℕ) (o' o : ℕ) → ((k : ℕ) → k < 11 → get_or r' (o' + k) 0 ≡ get_or r (o + k) 0) → record_at r' o' ≡ moved o' (record_at r o)
record_same r' r o' o h = λ i. record {
  at = o';
  len = h 1 (omega arith) i % 16 * 256 + h 2 (omega arith) i % 256;
  version = (rw (add-zero o', add-zero o) at (h 0 (omega arith))) i;
  flags = h 1 (omega arith) i / 16;
  key = big_same r' r (o' + 3) (o + 3) 8 (λ k l. rw (add_assoc o' 3 k, add_assoc o 3 k) (h (3 + k) (omega arith))) i;
}

-- what stands at a place is the same in a region that has as many bytes and the same eleven bytes there
pub met_same : (r' r : List ℕ) (o : ℕ) → length r' ≡ length r → ((k : ℕ) → k < 11 → get_or r' (o + k) 0 ≡ get_or r (o + k) 0) → met_at r' o ≡ met_at r o
met_same r' r o e h = λ i. met_of (e i - o) (record_same r' r o o h i)

pub met_after : (r' r : List ℕ) (p o : ℕ) → length r' ≡ length r → drop p r' ≡ drop p r → p ≤ o → met_at r' o ≡ met_at r o
met_after r' r p o e d h = met_same r' r o e (λ i j. byte_after r' r p (o + i) d (omega arith))

-- records before p stand where the bytes before p are the same, and those from p on where these are
pub reach_before : {r : List ℕ} {o p : ℕ} {xs : List Record} (r' : List ℕ) → length r' ≡ length r → take p r' ≡ take p r → Reach r o p xs → Reach r' o p xs
reach_before r' e t Reach.here = Reach.here
reach_before {r} r' e t (Reach.past {o} {p} {x} h k) =
    let f = found_fits r o x h in
    let m = reach_le k in
    Reach.past (met_same r' r o e (λ i j. byte_before r' r p (o + i) t (omega arith)) ∙ h) (reach_before r' e t k)

pub reach_after : {r : List ℕ} {o q : ℕ} {xs : List Record} (r' : List ℕ) (p : ℕ) → length r' ≡ length r → drop p r' ≡ drop p r → p ≤ o → Reach r o q xs → Reach r' o q xs
reach_after r' p e d h Reach.here = Reach.here
reach_after {r} r' p e d h (Reach.past {o} q k) = Reach.past (met_after r' r p o e d h ∙ q) (reach_after r' p e d (omega arith) k)

pub kept_before : {r : List ℕ} {o p : ℕ} {xs : List Record} (r' : List ℕ) → take p r' ≡ take p r → Reach r o p xs → Kept r' r xs
kept_before r' t Reach.here = Every.none
kept_before {r} r' t (Reach.past {o} {p} {x} h k) =
    let f = found_fits r o x h in
    let a = found_at r o x h in
    let m = reach_le k in
    Every.also (part_before r' r p x.at x.len t (omega arith)) (kept_before r' t k)

pub kept_after : {r : List ℕ} {o q : ℕ} {xs : List Record} (r' : List ℕ) (p : ℕ) → drop p r' ≡ drop p r → p ≤ o → Reach r o q xs → Kept r' r xs
kept_after r' p d h Reach.here = Every.none
kept_after {r} r' p d h (Reach.past {o} {x} q k) =
    let a = found_at r o x q in
    Every.also (part_after r' r p x.at x.len d (omega arith)) (kept_after r' p d (omega arith) k)
