-- A search, a step at a time, and what it says of the record that it finds.
-- Assumes nothing.
use Prim.Native.Nat.{ℕ, ◌+◌}
use native.Mathlib.Omega.{arith}
use mathlib.Core.Path.{◌≡◌, refl, sym, ap}
use mathlib.Core.Bool.{Bool, true, false, cond}
use mathlib.Core.List.{List, [], ◌∷◌, ◌++◌}
use Rattle.chip.proofs.Lists.{Every}
use Rattle.format.specs.declared.Record.{Record}
use Rattle.region.specs.declared.Stop.{Stop}
use Rattle.region.specs.declared.Stop.TheVariants.{End, Bad}
use Rattle.std.specs.Prelude.{Ok, Err}
use Rattle.region.specs.declared.Event.{Event}
use Rattle.region.specs.Walk.{met_at, walk_from, event_of, first_of}
pub use Rattle.region.specs.Words.{None, First}
use Rattle.region.proofs.Steps.{walk_stop, walk_found}

-- the search from a place on
abbrev pub first_from : (Record → Bool) → List ℕ → ℕ → Event
first_from test r o = first_of test (walk_from r o).recs (walk_from r o).stop

pub first_stop : (test : Record → Bool) (r : List ℕ) (o : ℕ) (s : Stop) → met_at r o ≡ Err s → first_from test r o ≡ event_of s
unfolding first_of
first_stop test r o s h = rw (walk_stop r o s h)

pub first_found : (test : Record → Bool) (r : List ℕ) (o : ℕ) (x : Record) (b : Bool) → met_at r o ≡ Ok x → test x ≡ b
    → first_from test r o ≡ cond b (Event.Live x) (first_from test r (o + x.len))
unfolding first_of
first_found test r o x b h e = rw (walk_found r o x h, e)

not_live : (s : Stop) (x : Record) → event_of s ≡ Event.Live x → ⊥
not_live (End o) x h = let z : ◌≡◌ {A = ℕ} 0 1 = cc in omega arith
not_live (Bad f o) x h = let z : ◌≡◌ {A = ℕ} 0 1 = cc in omega arith

pub first_live : (test : Record → Bool) (xs : List Record) (s : Stop) (x : Record) → first_of test xs s ≡ Event.Live x → First test xs x
unfolding first_of
first_live test [] s x h = absurd (not_live s x h)
first_live test (y ∷ ys) s x h = go (first_live test ys s x) (test y) refl h
  where
    go : (first_of test ys s ≡ Event.Live x → First test ys x) → (b : Bool) → test y ≡ b → cond b (Event.Live y) (first_of test ys s) ≡ Event.Live x → First test (y ∷ ys) x
    go ih true p q =
        let e : y ≡ x = cc in
        record { before = []; after = ys; split = rw e; passes = rw (← e) p; first = Every.none }
    go ih false p q =
        let f = ih q in
        record { before = y ∷ f.before; after = f.after; split = ap (λ (l : List Record). y ∷ l) f.split; passes = f.passes; first = Every.also p f.first }

-- where no record passes, the stop decides, and only there
pub none_passes : (test : Record → Bool) (xs : List Record) (s : Stop) → None test xs → first_of test xs s ≡ event_of s
unfolding first_of
none_passes test [] s Every.none = refl
none_passes test (x ∷ xs) s (Every.also p n) = rw p (none_passes test xs s n)

event_once : (s t : Stop) → event_of s ≡ event_of t → s ≡ t
event_once (End o) (End p) h = cc
event_once (End o) (Bad f p) h = absurd (let z : ◌≡◌ {A = ℕ} 0 1 = cc in omega arith)
event_once (Bad f o) (End p) h = absurd (let z : ◌≡◌ {A = ℕ} 0 1 = cc in omega arith)
event_once (Bad f o) (Bad g p) h = cc

pub stop_decides : (test : Record → Bool) (xs : List Record) (s t : Stop) → first_of test xs s ≡ event_of t → None test xs × (s ≡ t)
unfolding first_of
stop_decides test [] s t h = (Every.none, event_once s t h)
stop_decides test (y ∷ ys) s t h = go (stop_decides test ys s t) (test y) refl h
  where
    go : (first_of test ys s ≡ event_of t → None test ys × (s ≡ t)) → (b : Bool) → test y ≡ b → cond b (Event.Live y) (first_of test ys s) ≡ event_of t → None test (y ∷ ys) × (s ≡ t)
    go ih true p q = absurd (not_live t y (sym q))
    go ih false p q = let (n, e) = ih q in (Every.also p n, e)

-- a first record that passes decides
pub is_first : (test : Record → Bool) (a : List Record) (x : Record) (b : List Record) (s : Stop) → None test a → test x ≡ true → first_of test (a ++ x ∷ b) s ≡ Event.Live x
unfolding first_of
is_first test [] x b s Every.none p = rw p
is_first test (y ∷ a) x b s (Every.also q n) p = rw q (is_first test a x b s n p)
