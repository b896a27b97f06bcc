-- From one place of a walk to another: the records that it passes on the way.
-- Assumes nothing.
use Prim.Native.Nat.{ℕ, zero, suc, ◌+◌, ◌-◌, ◌≤◌}
use native.Mathlib.Omega.{arith}
use mathlib.Core.Path.{◌≡◌, refl, ◌∙◌, ap, subst}
use mathlib.Core.List.{List, [], ◌∷◌, ◌++◌, append-nil}
use lib.ListN.{length}
use Rattle.format.specs.declared.Record.{Record}
use Rattle.region.specs.declared.Stop.{Stop}
use Rattle.region.specs.declared.Stop.TheVariants.{End}
use Rattle.std.specs.Prelude.{Result, Ok, Err}
use Rattle.region.specs.Walk.{met_at, View, passed, walk_from, records, ending}
use Rattle.region.proofs.Steps.{found_fits, found_at, end_short, walk_stop, walk_found, place_of, stop_place}

-- The walk of r comes from o to p over these records.
pub data Reach (r : List ℕ) : ℕ → ℕ → List Record → Type 0 where
  here : {o : ℕ} → Reach r o o []
  past : {o p : ℕ} {x : Record} {xs : List Record} → met_at r o ≡ Ok x → Reach r (o + x.len) p xs → Reach r o p (x ∷ xs)

pub reach_le : {r : List ℕ} {o p : ℕ} {xs : List Record} → Reach r o p xs → o ≤ p
reach_le {o} here = omega arith
reach_le (past h k) = let l = reach_le k in omega arith

pub reach_join : {r : List ℕ} {o p q : ℕ} {xs ys : List Record} → Reach r o p xs → Reach r p q ys → Reach r o q (xs ++ ys)
reach_join here k = k
reach_join (past h j) k = past h (reach_join j k)

abbrev pub after : List Record → View → View
after xs v = record { recs = xs ++ v.recs; stop = v.stop }

pub reach_walk : {r : List ℕ} {o p : ℕ} {xs : List Record} → Reach r o p xs → walk_from r o ≡ after xs (walk_from r p)
reach_walk here = refl
reach_walk {r} (past {o} {p} {x} {xs} h k) = walk_found r o x h ∙ ap (passed x) (reach_walk k)

-- What a walk from o finds, and the place where it stops.
pub record Walked (r : List ℕ) (o : ℕ) (v : View) : Type 0 where
  pub place : ℕ
  pub reach : Reach r o place v.recs
  pub stops : met_at r place ≡ Err v.stop

walked_in : (r : List ℕ) (n o : ℕ) → length r - o ≤ n → Walked r o (walk_from r o)
walked_in r zero o h =
    let q = end_short r o (omega arith) in
    rw (walk_stop r o (End o) q) (record { place = o; reach = here; stops = q })
walked_in r (suc n) o h = go (walked_in r n) (met_at r o) refl
  where
    go : ((p : ℕ) → length r - p ≤ n → Walked r p (walk_from r p)) → (s : Result Record Stop) → met_at r o ≡ s → Walked r o (walk_from r o)
    go ih (Err s) q = rw (walk_stop r o s q) (record { place = o; reach = here; stops = q })
    go ih (Ok x) q =
        let f = found_fits r o x q in
        let w = ih (o + x.len) (omega arith) in
        rw (walk_found r o x q) (record { place = w.place; reach = past q w.reach; stops = w.stops })

pub walked : (r : List ℕ) (o : ℕ) → Walked r o (walk_from r o)
walked r o = walked_in r (length r - o) o (omega arith)

pub is_walk : {r : List ℕ} {o : ℕ} {v : View} → Walked r o v → walk_from r o ≡ v
is_walk {r} {o} {v} w = reach_walk w.reach ∙ rw (walk_stop r w.place v.stop w.stops, append-nil)

-- the records of a region lie before the place where its walk stops
pub reach_stop : (r : List ℕ) → Reach r 0 (place_of (ending r)) (records r)
reach_stop r =
    let w = walked r 0 in
    subst (λ (p : ℕ). Reach r 0 p (records r)) (stop_place _ _ (ending r) w.stops) w.reach

pub stands_stop : (r : List ℕ) → met_at r (place_of (ending r)) ≡ Err (ending r)
stands_stop r =
    let w = walked r 0 in
    subst (λ (p : ℕ). met_at r p ≡ Err (ending r)) (stop_place _ _ (ending r) w.stops) w.stops

pub reach_within : {r : List ℕ} {o p : ℕ} {xs : List Record} → o ≤ length r → Reach r o p xs → p ≤ length r
reach_within l here = l
reach_within {r} l (past {o} {p} {x} h k) = let f = found_fits r o x h in reach_within f.1 k

-- A record among those that a walk passes stands at its place.
pub record Split (r : List ℕ) (o p : ℕ) (a : List Record) (x : Record) (b : List Record) : Type 0 where
  pub to : Reach r o x.at a
  pub stands : met_at r x.at ≡ Ok x
  pub from : Reach r (x.at + x.len) p b

pub split : {r : List ℕ} {o p : ℕ} (a : List Record) (x : Record) (b : List Record) → Reach r o p (a ++ x ∷ b) → Split r o p a x b
split {r} {p} [] x b (past {o} h k) =
    let e = found_at r o x h in
    record {
      to = subst (λ (q : ℕ). Reach r o q []) e here;
      stands = subst (λ (q : ℕ). met_at r q ≡ Ok x) e h;
      from = subst (λ (q : ℕ). Reach r (q + x.len) p b) e k;
    }
split {r = r} {o = o} {p = p} (y ∷ a) x b (past h k) = let s = split {o = o + y.len} a x b k in record { to = past h s.to; stands = s.stands; from = s.from }

pub split_records : (r : List ℕ) (a : List Record) (x : Record) (b : List Record) → records r ≡ a ++ x ∷ b → Split r 0 (place_of (ending r)) a x b
split_records r a x b e = split a x b (subst (λ (xs : List Record). Reach r 0 (place_of (ending r)) xs) e (reach_stop r))
