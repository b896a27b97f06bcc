-- Keys, home regions and the probe order, for n regions.
use Rattle.std.specs.Prelude.{ℕ, zero, suc, ◌+◌, ◌-◌, ◌%◌, ◌^◌, Bool, true, false, not, ◌&&◌, eqb, leb, ltb}
use mathlib.Core.List.{List, [], ◌∷◌, ◌++◌, Memᴰ}

-- R2.1: a key is a 64-bit number other than 0 and 2^64 - 1. The code's keys are 64-bit numbers by their type.
abbrev pub allowed_key : ℕ → Bool
allowed_key key = not (eqb key 0) && not (eqb key (2 ^ 64 - 1))

-- R2.2: a key's home region is (key mod 65,536) mod N.
abbrev pub home : ℕ → ℕ → ℕ
home key n = key % 65536 % n

-- R2.3: what is outside is left out: x where the test holds, and nothing where it does not.
unfoldable pub keep : Bool → ℕ → List ℕ
keep true x = x ∷ []
keep false x = []

-- R2.3: h + d, then h - d, at the distance d from home h; numbers below 0 and from N on are left out, and the order does not wrap round.
unfoldable pub around : ℕ → ℕ → ℕ → List ℕ
around n h d = keep (ltb (h + d) n) (h + d) ++ keep (leb d h) (h - d)

-- R2.3: h + 1, h - 1, h + 2, h - 2 and so on: k distances, from d outwards.
unfoldable pub outward : ℕ → ℕ → ℕ → ℕ → List ℕ
outward n h d zero = []
outward n h d (suc k) = around n h d ++ outward n h (suc d) k

-- R2.3: the home region h, then what lies around it, outwards. No number inside is n or more away from home.
unfoldable pub probe : ℕ → ℕ → List ℕ
probe n h = h ∷ outward n h 1 n

-- R2.3: a key's probe order.
abbrev pub probes : ℕ → ℕ → List ℕ
probes key n = probe n (home key n)

-- R2.4: each region comes exactly once: no element of the list comes again in it.
pub data Distinct : List ℕ → Type 0 where
  none : Distinct []
  one : {x : ℕ} {l : List ℕ} → (Memᴰ x l → ⊥) → Distinct l → Distinct (x ∷ l)
