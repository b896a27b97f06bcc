-- What stands at a place depends on the bytes there alone.
-- Assumes nothing.
use Prim.Native.Nat.{ℕ, ◌+◌, ◌<◌}
use native.Mathlib.Omega.{arith}
use mathlib.Core.Path.{◌≡◌, refl, sym, ◌∙◌, ap}
use mathlib.Core.Bool.{Bool}
use mathlib.Core.List.{List}
use lib.ListN.{length, get_or, take, drop}
use lib.Seq.{get_or-take, get_or-drop}
use Rattle.format.specs.declared.Record.{Record}
use Rattle.format.specs.Layout.{check_sum_fits}
use Rattle.std.specs.Prelude.{Err}
use Rattle.region.specs.declared.Stop.{Stop}
use Rattle.region.specs.declared.Stop.TheVariants.{End, Bad}
use Rattle.region.specs.Walk.{met_at}
use Rattle.region.proofs.Same.{met_same}
use Rattle.entries.specs.declared.Entry.{Entry}
use Rattle.entries.specs.Entries.{entry_of, entry_in}
use Rattle.entries.proofs.Looks.{stood}

-- the first bytes of a part are those of the whole
byte_of : (r : List ℕ) (o len k : ℕ) → k < len → get_or (take len (drop o r)) k 0 ≡ get_or r (o + k) 0
byte_of r o len k h = get_or-take len (drop o r) k 0 h ∙ get_or-drop o r k 0

pub record_alone : (r' r : List ℕ) (o : ℕ) (x : Record) (sound : Bool) → entry_in r o ≡ Entry.Stands x sound → length r' ≡ length r
    → take x.len (drop o r') ≡ take x.len (drop o r) → entry_in r' o ≡ entry_in r o
record_alone r' r o x sound h l e =
    let t = stood r o x sound h in
    let m : met_at r' o ≡ met_at r o = met_same r' r o l (λ k j. sym (byte_of r' o x.len k (omega (arith, t.least, j))) ∙ ap (λ p. get_or p k 0) e ∙ byte_of r o x.len k (omega (arith, t.least, j))) in
    ap (entry_of r') (m ∙ t.met)
    ∙ ap (λ p. Entry.Stands x (check_sum_fits p)) (ap (λ q. take x.len (drop q r')) (sym t.place) ∙ e ∙ ap (λ q. take x.len (drop q r)) t.place)
    ∙ ap (entry_of r) (sym t.met)

stop_same : (r' r : List ℕ) (s : Stop) → entry_of r' (Err s) ≡ entry_of r (Err s)
stop_same r' r (End p) = refl
stop_same r' r (Bad f p) = refl

pub header_alone : (r' r : List ℕ) (o : ℕ) (s : Stop) → met_at r o ≡ Err s → length r' ≡ length r → ((k : ℕ) → k < 11 → get_or r' (o + k) 0 ≡ get_or r (o + k) 0) → entry_in r' o ≡ entry_in r o
header_alone r' r o s m l e = ap (entry_of r') (met_same r' r o l e ∙ m) ∙ stop_same r' r s ∙ ap (entry_of r) (sym m)
