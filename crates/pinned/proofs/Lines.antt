-- The lines of `When`, R6.1 to R6.10: which numbers they have, which of them come before reading, and which no initialise and no get is on.
-- Assumes nothing.
use Prim.Native.Nat.{ℕ, ◌≤◌}
use native.Mathlib.Omega.{arith}
use mathlib.Core.Path.{◌≡◌, refl}
use mathlib.Core.List.{List}
use Rattle.std.specs.Prelude.{Option}
use Rattle.format.specs.declared.Fault.{Fault}
use Rattle.store.specs.Call.{Call, get, initialise}
use Rattle.pinned.specs.When.{Reads, Looks, get_looks, remove_looks, append_looks, MeetsBad, in_lookup, in_collect, When}

-- R7.2: the lines of `When`: 1 to 3 come before reading, 4 to 10 after it.
data Line (image : List ℕ) (s n k : ℕ) (c : Call) : Type 0 where
  first : 1 ≤ k → k ≤ 3 → Line image s n k c
  later : 4 ≤ k → k ≤ 10 → Reads image s n c → Line image s n k c

line : {image : List ℕ} {s n k : ℕ} {c : Call} → When image s n k c → Line image s n k c
line (When.bad_geometry h) = first (omega arith) (omega arith)
line (When.bad_key f b) = first (omega arith) (omega arith)
line (When.object_too_large f b l) = first (omega arith) (omega arith)
line (When.key_not_found reads looks e) = later (omega arith) (omega arith) reads
line (When.key_already_exists reads e) = later (omega arith) (omega arith) reads
line (When.flash_full reads e f) = later (omega arith) (omega arith) reads
line (When.unsupported_version reads m) = later (omega arith) (omega arith) reads
line (When.corrupt_data reads m) = later (omega arith) (omega arith) reads
line (When.place_not_blank reads e f b) = later (omega arith) (omega arith) reads
line (When.buffer_too_small reads e l) = later (omega arith) (omega arith) reads
line (When.invalid_check_sum reads e l b) = later (omega arith) (omega arith) reads

pub line_some : {image : List ℕ} {s n k : ℕ} {c : Call} → When image s n k c → (1 ≤ k) × (k ≤ 10)
line_some w = go (line w)
  where
    go : {image : List ℕ} {s n k : ℕ} {c : Call} → Line image s n k c → (1 ≤ k) × (k ≤ 10)
    go (first l h) = (l, omega arith)
    go (later l h reads) = (omega arith, h)

pub line_reads : {image : List ℕ} {s n k : ℕ} {c : Call} → When image s n k c → 4 ≤ k → Reads image s n c
line_reads w = go (line w)
  where
    go : {image : List ℕ} {s n k : ℕ} {c : Call} → Line image s n k c → 4 ≤ k → Reads image s n c
    go (first l h) m = absurd (omega arith)
    go (later l h reads) m = reads

-- R5.9: initialise has lines 1 and 2 alone: it stores no value, answers by no lookup of its own, and is no collect.
no_looks : {c : Call} {key k : ℕ} {need : Option ℕ} → Looks c k need → c ≡ initialise key → ⊥
no_looks get_looks e = let z : ◌≡◌ {A = ℕ} 0 1 = cc in omega arith
no_looks remove_looks e = let z : ◌≡◌ {A = ℕ} 0 1 = cc in omega arith
no_looks append_looks e = let z : ◌≡◌ {A = ℕ} 0 1 = cc in omega arith

no_meets : {image : List ℕ} {s n key : ℕ} {c : Call} {f : Fault} → MeetsBad image s n f c → c ≡ initialise key → ⊥
no_meets (in_lookup looks e) h = no_looks looks h
no_meets (in_collect b) h = let z : ◌≡◌ {A = ℕ} 0 1 = cc in omega arith

pub initialise_line : {image : List ℕ} {s n k key : ℕ} → When image s n k (initialise key) → k ≤ 2
initialise_line (When.bad_geometry h) = omega arith
initialise_line (When.bad_key f b) = omega arith
initialise_line (When.object_too_large f b l) = absurd (omega arith)
initialise_line (When.key_not_found reads looks e) = absurd (no_looks looks refl)
initialise_line (When.unsupported_version reads m) = absurd (no_meets m refl)
initialise_line (When.corrupt_data reads m) = absurd (no_meets m refl)

-- Get stores no value and needs no room.
pub get_line : {image buffer : List ℕ} {s n k key : ℕ} → When image s n k (get key buffer) → (k ≡ 3 → ⊥) × (k ≡ 5 → ⊥) × (k ≡ 6 → ⊥)
get_line (When.bad_geometry h) = (λ e. omega arith, λ e. omega arith, λ e. omega arith)
get_line (When.bad_key f b) = (λ e. omega arith, λ e. omega arith, λ e. omega arith)
get_line (When.object_too_large f b l) = absurd (omega arith)
get_line (When.key_not_found reads looks e) = (λ e. omega arith, λ e. omega arith, λ e. omega arith)
get_line (When.unsupported_version reads m) = (λ e. omega arith, λ e. omega arith, λ e. omega arith)
get_line (When.corrupt_data reads m) = (λ e. omega arith, λ e. omega arith, λ e. omega arith)
get_line (When.buffer_too_small reads e l) = (λ e. omega arith, λ e. omega arith, λ e. omega arith)
get_line (When.invalid_check_sum reads e l b) = (λ e. omega arith, λ e. omega arith, λ e. omega arith)
