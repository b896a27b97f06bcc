-- The writes and erases in the list of services, spelled out: where the bytes lie in the buffer, and where they go in the image.
-- Assumes nothing.
use Prim.Native.Nat.{ℕ, zero, suc, ◌+◌, ◌*◌}
use native.Mathlib.Nat.{add-zero, sub-zero}
use mathlib.Core.Path.{◌≡◌, refl, ◌∙◌, ap}
use mathlib.Core.List.{List, [], ◌∷◌, map}
use mathlib.Core.Logic.{◌⊎◌, inl, inr}
use Rattle.lookup.proofs.Scan.{room_cases}
use Rattle.std.specs.Prelude.{Option}
use Rattle.chip.specs.Geometry.{numbers}
use Rattle.format.specs.declared.Record.{Record}
use Rattle.format.specs.declared.Removal.{Removal}
use Rattle.format.specs.Layout.{record_length}
use Rattle.lookup.specs.declared.Room.{Room}
use Rattle.lookup.specs.declared.Looked.{Looked}
use Rattle.plans.specs.declared.Edit.{Edit}
use Rattle.plans.specs.declared.Plan.{Plan}
use Rattle.planning.specs.Planning.{place_plan, anew, append_plan, remove_plan}
use Rattle.planning.proofs.Places.{by_place}
use Rattle.running.specs.declared.Request.{Request}
use Rattle.running.specs.Waits.{request_edit}
use Rattle.runs.specs.Services.{edits}
use Rattle.lookup.specs.Turns.{hits}

-- R9.2: append's one write, of the whole record, at its place in the buffer and in the image; or none, where it is refused.
pub append_asks : (s len : ℕ) (looked : Looked) → (edits s len (append_plan looked) ≡ [])
    ⊎ ((r : ℕ) × (o : ℕ) × (edits s len (append_plan looked) ≡ Request.Write o (o + record_length len) (r * s + o) ∷ []))
append_asks s len (Looked.Live r x) = inl refl
append_asks s len (Looked.Bad f p) = inl refl
append_asks s len (Looked.Through seen) = by_place (λ (p : Plan). (edits s len p ≡ []) ⊎ ((r : ℕ) × (o : ℕ) × (edits s len p ≡ Request.Write o (o + record_length len) (r * s + o) ∷ []))) go seen
  where
    go : (place : Option Room) → (edits s len (place_plan place) ≡ []) ⊎ ((r : ℕ) × (o : ℕ) × (edits s len (place_plan place) ≡ Request.Write o (o + record_length len) (r * s + o) ∷ []))
    go =
        room_cases
        (λ place. (edits s len (place_plan place) ≡ []) ⊎ ((r : ℕ) × (o : ℕ) × (edits s len (place_plan place) ≡ Request.Write o (o + record_length len) (r * s + o) ∷ [])))
        (inl refl)
        (λ r o. inl refl)
        (λ r o. inr (r, o, refl))

-- R9.3: invalidate's one write, of byte 1 of the record.
pub invalidate_asks : (s r : ℕ) (x : Record)
    → edits s 0 (remove_plan Removal.Invalidate (hits r x)) ≡ Request.Write (x.at + 1) (x.at + 1 + 1) (r * s + (x.at + 1)) ∷ []
invalidate_asks s r x = refl

-- R9.3: zeroise's one write, over the whole record.
pub zeroise_asks : (s r : ℕ) (x : Record) → edits s 0 (remove_plan Removal.Zeroise (hits r x)) ≡ Request.Write x.at (x.at + x.len) (r * s + x.at) ∷ []
zeroise_asks s r x = λ i. Request.Write (add-zero x.at i) (add-zero x.at i + x.len) (r * s + add-zero x.at i) ∷ []

-- R9.5: initialise that must erase: erases of all regions in number order.
erases : (s r k : ℕ) → map (request_edit s 0) (map Edit.Erase (numbers r k)) ≡ map Request.Erase (numbers r k)
unfolding numbers
erases s r zero = refl
erases s r (suc k) = ap (λ (asked : List Request). Request.Erase r ∷ asked) (erases s (r + 1) k)

pub anew_asks : (s n : ℕ) → edits s 0 (anew n) ≡ map Request.Erase (numbers 0 n)
anew_asks s n = ap (λ (k : ℕ). map (request_edit s 0) (map Edit.Erase (numbers 0 k))) (sub-zero n) ∙ erases s 0 n
