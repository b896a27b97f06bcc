-- The Rust's rule, `increment_region_offset` of tickv.rs, and a search that goes by it: what the probe order is held against.
use Rattle.std.specs.Prelude.{ℕ, zero, suc, ◌+◌, ◌-◌, ◌≡◌, List, [], ◌∷◌, Bool, true, false, cond, ◌&&◌, ltb}
use Rattle.std.proofs.Math.Option.{Option, none, some}

-- R14.1: the crate's offset from the home region: 0, or d above 0, or -d below 0.
pub data Offset : Type 0 where
  same : Offset
  plus : ℕ → Offset
  minus : ℕ → Offset

-- R14.1: the crate's next offset, `match new_offset`: 0 gives 1, d gives -d, and -d gives d + 1.
unfoldable pub turned : Offset → Offset
turned same = plus 1
turned (plus d) = minus d
turned (minus d) = plus (suc d)

-- R14.1: the region at an offset, `region + new_offset`, with 0 for what is below 0.
unfoldable pub region : ℕ → Offset → ℕ
region h same = h
region h (plus d) = h + d
region h (minus d) = h - d

-- R14.1: `region + new_offset < 0`.
unfoldable pub too_small : ℕ → Offset → Bool
too_small h same = false
too_small h (plus d) = false
too_small h (minus d) = ltb h d

-- R14.1: the crate's `increment_region_offset`: its loop for so many turns, with its flags `too_big` and `too_small`.
unfoldable pub increment : ℕ → ℕ → ℕ → Bool → Bool → Offset → Option Offset
increment zero n h big small o = none
increment (suc t) n h big small o =
    cond (big && small) none
    (cond (ltb (n - 1) (region h (turned o))) (increment t n h true small (turned o))
    (cond (too_small h (turned o)) (increment t n h big true (turned o)) (some (turned o))))

-- R14.1, R2.3: the regions that the crate's search looks at from an offset on: it asks for the next offset anew each time, until there is none.
pub data Visits (t n h : ℕ) : Offset → List ℕ → Type 0 where
  last : {o : Offset} → increment t n h false false o ≡ none → Visits t n h o (region h o ∷ [])
  more : {o q : Offset} {l : List ℕ} → increment t n h false false o ≡ some q → Visits t n h q l → Visits t n h o (region h o ∷ l)
