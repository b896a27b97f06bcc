-- What a crate above may rely on: the probe order of a key has each of the n regions exactly once, home first.
-- The arguments are in Order.antt and Rust.antt.
use Prim.Native.Nat.{ℕ, ◌≤◌, ◌<◌}
use mathlib.Core.Path.{◌≡◌, refl}
use mathlib.Core.List.{List, Memᴰ}
use mathlib.Core.Logic.{◌↔◌}
use native.Mathlib.Nat.{mod-lt}
use native.Mathlib.Omega.{arith}
use lib.ListN.{length, get_or}
use Rattle.probe.specs.Probe.{home, probe, probes}
pub use Rattle.probe.specs.Probe.{Distinct, none, one}
use Rattle.probe.proofs.Order.{probe-length, probe_lt, probe_has, probe_once, probe_member, probe_distinct}
use Rattle.probe.specs.Rust.{Visits, same}
use Rattle.probe.proofs.Rust.{rust_visits}

-- R2.2: a home region is one of the n.
pub home_lt : (key n : ℕ) → 0 < n → home key n < n
home_lt key n p = mod-lt _ p

-- R2.4: the order has n places.
pub probes-length : (key n : ℕ) → 0 < n → length (probes key n) ≡ n
probes-length key n p = probe-length n _ (home_lt key n p)

-- R2.3: numbers below 0 and from N on are left out: what stands at a place is one of the n regions.
pub in_range : (key n i : ℕ) → i < n → get_or (probes key n) i 0 < n
in_range key n i p = probe_lt n _ (home_lt key n (omega arith)) i p

-- R2.4: each region comes: it has a place.
pub has_place : (key n r : ℕ) → r < n → (i : ℕ) × (i < n) × (get_or (probes key n) i 0 ≡ r)
has_place key n r p = probe_has n _ (home_lt key n (omega arith)) r p

-- R2.4: it comes once: no two places have the same region.
pub once : (key n i j : ℕ) → i < n → j < n → get_or (probes key n) i 0 ≡ get_or (probes key n) j 0 → i ≡ j
once key n i j p q e = probe_once n _ (home_lt key n (omega arith)) i j p q e

-- R2.4: the same of the list as a whole: its members are the n regions, and none of them comes again in it.
pub members : (key n r : ℕ) → 0 < n → (r < n) ↔ Memᴰ r (probes key n)
members key n r p = probe_member n _ (home_lt key n p) r

pub probes_distinct : (key n : ℕ) → 0 < n → Distinct (probes key n)
probes_distinct key n p = probe_distinct n _ (home_lt key n p)

-- R2.3: the order begins at the home region.
pub starts_home : (key n : ℕ) → get_or (probes key n) 0 0 ≡ home key n
unfolding probe
starts_home key n = refl

-- R14.1: a search that goes by the crate's `increment_region_offset`, from the offset 0 on, looks at just these regions in this order.
-- The crate sets its loop no limit of turns. Here any limit from three on gives the same.
pub rust_order : (key n turns : ℕ) (l : List ℕ) → 0 < n → 3 ≤ turns → Visits turns n (home key n) same l ↔ (l ≡ probes key n)
rust_order key n turns l p q = rust_visits turns n _ l q (home_lt key n p)
