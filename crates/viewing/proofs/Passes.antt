-- A pass gives a chip's records, and how many calls it makes.
-- Assumes nothing.
use Prim.Native.Nat.{ℕ, zero, suc, ◌+◌, ◌-◌, ◌*◌, ◌/◌, ◌≤◌, ◌<◌}
use native.Mathlib.Nat.{suc-mul, mul-add, mul-one}
use native.Mathlib.Omega.{arith}
use mathlib.Core.Path.{◌≡◌, refl, sym, ◌∙◌, ap}
use mathlib.Core.Bool.{Bool, true, false}
use mathlib.Core.List.{List, []}
use lib.Dec.{ltb}
use lib.ListN.{length}
use borrow.Author.Tests.{ltb-true, ltb-false, le-ltb}
use Rattle.chip.specs.Geometry.{geometry, Fits}
use Rattle.chip.proofs.Image.{geometry_fits}
use Rattle.refusals.specs.declared.Refusal.{Refusal}
use Rattle.entries.specs.declared.Entry.{Entry}
use Rattle.entries.specs.Entries.{entry_at, shown}
use Rattle.entries.specs.Inventory.{Item, through, refused, Inventory, inventory}
use Rattle.entries.proofs.Steps.{inventory_from, here, from_ends, from_bad, from_over, not_refused, from_first}
use Rattle.viewing.specs.Passes.{pass_by, pass_from, whole, calls_for, most_calls}

-- one call, by what stands there
pass_step : (k : ℕ) (image : List ℕ) (s n r o : ℕ) (e : Entry) → entry_at image s n r o ≡ e
    → pass_from (suc k) image s n r o ≡ pass_by r o (shown r o e).entry (pass_from k image s n (shown r o e).next.region (shown r o e).next.at)
unfolding pass_from
pass_step k image s n r o e h = ap (λ (x : Entry). pass_by r o (shown r o x).entry (pass_from k image s n (shown r o x).next.region (shown r o x).next.at)) h

-- an image of no chip
at_refused : (image : List ℕ) (s n : ℕ) → geometry image s n ≡ false → entry_at image s n 0 0 ≡ Entry.Refused Refusal.BadGeometry
unfolding entry_at
at_refused image s n g = rw g

all_refused : (image : List ℕ) (s n : ℕ) → geometry image s n ≡ false → inventory image s n ≡ record { items = []; last = refused Refusal.BadGeometry }
unfolding inventory
all_refused image s n g = rw g

module _ {image : List ℕ} {s n : ℕ} (f : Fits image s n) where
  abbrev left : ℕ → ℕ → List Item
  left r o = (inventory_from image s n r o).items

  beyond : (r o : ℕ) → n ≤ r → inventory_from image s n r o ≡ record { items = []; last = through }
  beyond r o h = rw (le-ltb r n h)

  -- from a place on: a call for each record, for each region, and one
  pub passes : (k r o : ℕ) → length (left r o) + (n - r) + 1 ≤ k → pass_from k image s n r o ≡ whole (inventory_from image s n r o)
  passes zero r o h = absurd (omega arith)
  passes (suc k) r o h = go (passes k) (entry_at image s n r o) refl
    where
      go : ((r o : ℕ) → length (left r o) + (n - r) + 1 ≤ k → pass_from k image s n r o ≡ whole (inventory_from image s n r o))
          → (e : Entry) → entry_at image s n r o ≡ e → pass_from (suc k) image s n r o ≡ whole (inventory_from image s n r o)
      go ih (Entry.Stands x sound) e =
          let t = here f r o x sound e in
          let c : length (left r o) ≡ suc (length (left r (o + x.len))) = ap (λ (v : Inventory). length v.items) t.rest in
          pass_step k image s n r o _ e
          ∙ ap (pass_by r o (Entry.Stands x sound)) (ih r (o + x.len) (omega arith))
          ∙ ap whole (sym t.rest)
      go ih Entry.Ends e =
          let (l, q) = from_ends f r o e in
          let c : length (left r o) ≡ length (left (r + 1) 0) = ap (λ (v : Inventory). length v.items) q in
          pass_step k image s n r o _ e ∙ ih (r + 1) 0 (omega arith) ∙ ap whole (sym q)
      go ih (Entry.Bad g) e = pass_step k image s n r o _ e ∙ ap whole (sym (from_bad f r o g e).1)
      go ih Entry.Over e = pass_step k image s n r o _ e ∙ ap whole (sym (from_over f r o e).1)
      go ih (Entry.Refused w) e = absurd (not_refused f r o w e)

  -- a region has a record for each 15 bytes at most
  few : (k r o : ℕ) → length (left r o) + (n - r) + 1 ≤ k → r < n → o ≤ s → length (left r o) ≤ (s - o) / 15 + (n - (r + 1)) * (s / 15)
  few zero r o h l m = absurd (omega arith)
  few (suc k) r o h l m = go (few k) (entry_at image s n r o) refl
    where
      none : (o : ℕ) → n ≤ r + 1 → length (left (r + 1) o) ≡ 0
      none o g = ap (λ (v : Inventory). length v.items) (beyond (r + 1) o g)

      next : ((r o : ℕ) → length (left r o) + (n - r) + 1 ≤ k → r < n → o ≤ s → length (left r o) ≤ (s - o) / 15 + (n - (r + 1)) * (s / 15))
          → length (left (r + 1) 0) + (n - (r + 1)) + 1 ≤ k → (b : Bool) → ltb (r + 1) n ≡ b → length (left (r + 1) 0) ≤ (n - (r + 1)) * (s / 15)
      next ih j true t =
          let g : r + 1 < n = ltb-true _ _ t in
          let e : n - (r + 1) ≡ suc (n - (r + 1 + 1)) = omega arith in
          let p : (n - (r + 1)) * (s / 15) ≡ (n - (r + 1 + 1)) * (s / 15) + s / 15 = ap (λ q. q * (s / 15)) e ∙ suc-mul (n - (r + 1 + 1)) (s / 15) in
          omega (arith, ih (r + 1) 0 j g (omega arith), p)
      next ih j false t = omega (arith, none 0 (ltb-false _ _ t))

      go : ((r o : ℕ) → length (left r o) + (n - r) + 1 ≤ k → r < n → o ≤ s → length (left r o) ≤ (s - o) / 15 + (n - (r + 1)) * (s / 15))
          → (e : Entry) → entry_at image s n r o ≡ e → length (left r o) ≤ (s - o) / 15 + (n - (r + 1)) * (s / 15)
      go ih (Entry.Stands x sound) e =
          let t = here f r o x sound e in
          let c : length (left r o) ≡ suc (length (left r (o + x.len))) = ap (λ (v : Inventory). length v.items) t.rest in
          let i = ih r (o + x.len) (omega arith) l t.inside in
          omega (arith, c, i, t.inside, t.least)
      go ih Entry.Ends e =
          let (_, q) = from_ends f r o e in
          let c : length (left r o) ≡ length (left (r + 1) 0) = ap (λ (v : Inventory). length v.items) q in
          omega (arith, c, next ih (omega arith) (ltb (r + 1) n) refl)
      go ih (Entry.Bad g) e = let c : length (left r o) ≡ 0 = ap (λ (v : Inventory). length v.items) (from_bad f r o g e).1 in omega (arith, c)
      go ih Entry.Over e = let c : length (left r o) ≡ 0 = ap (λ (v : Inventory). length v.items) (from_over f r o e).1 in omega (arith, c)
      go ih (Entry.Refused w) e = absurd (not_refused f r o w e)

-- On any image: a pass that makes a call for each record, for each region and one more has come to its end, with all of them.
pub pass_whole : (image : List ℕ) (s n k : ℕ) → calls_for (inventory image s n) n ≤ k → pass_from k image s n 0 0 ≡ whole (inventory image s n)
pass_whole image s n k h = go (geometry image s n) refl k h
  where
    refuses : geometry image s n ≡ false → (k : ℕ) → 1 ≤ k → pass_from k image s n 0 0 ≡ whole (inventory image s n)
    refuses g zero l = absurd (omega arith)
    refuses g (suc k) l = pass_step k image s n 0 0 _ (at_refused image s n g) ∙ sym (ap whole (all_refused image s n g))

    go : (b : Bool) → geometry image s n ≡ b → (k : ℕ) → calls_for (inventory image s n) n ≤ k → pass_from k image s n 0 0 ≡ whole (inventory image s n)
    go true g k h =
        let f = geometry_fits g in
        let c : length (inventory image s n).items ≡ length (left f 0 0) = ap (λ (v : Inventory). length v.items) (from_first f) in
        passes f k 0 0 (omega arith) ∙ ap whole (sym (from_first f))
    go false g k h = refuses g k (omega arith)

-- So many calls are enough on any chip.
calls_few : (image : List ℕ) (s n : ℕ) → Fits image s n → calls_for (inventory image s n) n ≤ most_calls s n
calls_few image s n f =
    let c : length (inventory image s n).items ≡ length (left f 0 0) = ap (λ (v : Inventory). length v.items) (from_first f) in
    let i = few f (length (left f 0 0) + (n - 0) + 1) 0 0 (omega arith) f.shape.n_least (omega arith) in
    let e : n ≡ suc (n - (0 + 1)) = omega (arith, f.shape.n_least) in
    let p : n * (s / 15) ≡ (n - (0 + 1)) * (s / 15) + s / 15 = ap (λ q. q * (s / 15)) e ∙ suc-mul (n - (0 + 1)) (s / 15) in
    let q : n * (s / 15 + 1) ≡ n * (s / 15) + n * 1 = mul-add n (s / 15) 1 in
    omega (arith, c, i, p, q, mul-one n)

-- So many calls are enough on any image: where it is no chip, the first one says so.
pub calls_few_any : (image : List ℕ) (s n : ℕ) → calls_for (inventory image s n) n ≤ most_calls s n
calls_few_any image s n = go (geometry image s n) refl
  where
    go : (b : Bool) → geometry image s n ≡ b → calls_for (inventory image s n) n ≤ most_calls s n
    go true g = calls_few image s n (geometry_fits g)
    go false g =
        let c : length (inventory image s n).items ≡ 0 = ap (λ (v : Inventory). length v.items) (all_refused image s n g) in
        let q : n * (s / 15 + 1) ≡ n * (s / 15) + n * 1 = mul-add n (s / 15) 1 in
        omega (arith, c, q, mul-one n)
