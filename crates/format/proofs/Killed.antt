-- What makes a record dead: as many bytes as said, and each is a byte.
-- Assumes nothing.
use Prim.Native.Nat.{ℕ, zero, suc, ◌-◌, ◌%◌, ◌≤◌, ◌<◌}
use native.Mathlib.Omega.{arith}
use mathlib.Core.Path.{◌≡◌, refl, ◌∙◌}
use mathlib.Core.List.{[]}
use lib.ListN.{length, get_or, replicate, length-append, length-replicate}
use Rattle.chip.specs.Chip.{Bytes}
use Rattle.chip.proofs.Laws.{bytes_cons, bytes_append}
use Rattle.format.specs.declared.Record.{Record}
use Rattle.format.specs.declared.Removal.{Removal}
use Rattle.format.specs.Layout.{dead_header, kill_bytes, kill_length}
use Rattle.format.proofs.Numbers.{no_bytes}
use Rattle.format.proofs.Bytes.{length-header, header_bytes}

-- The header and the zeros are bytes.

pub zero_bytes_lem : (n : ℕ) → Bytes (replicate n 0)
zero_bytes_lem zero = no_bytes
zero_bytes_lem (suc n) = bytes_cons 0 (replicate n 0) (omega arith) (zero_bytes_lem n)

pub dead_bytes : (x : Record) → x.version < 256 → x.len ≤ 4095 → Bytes (dead_header x)
dead_bytes x v h = header_bytes x.version (x.flags % 8) x.len x.key v (omega arith) h

-- They are as many as said, and each is a byte.
pub kill_length_lem : (how : Removal) (x : Record) → 15 ≤ x.len → length (kill_bytes how x) ≡ kill_length how x
kill_length_lem Removal.Invalidate x h = refl
kill_length_lem Removal.Zeroise x h =
    length-append (dead_header x) (replicate (x.len - 11) 0)
    ∙ omega (arith, length-header x.version (x.flags % 8) x.len x.key, length-replicate {A = ℕ} (x.len - 11) 0)

pub kill_bytes_lem : (how : Removal) (x : Record) → x.version < 256 → x.len ≤ 4095 → Bytes (kill_bytes how x)
kill_bytes_lem Removal.Invalidate x v h = bytes_cons (get_or (dead_header x) 1 0) [] (dead_bytes x v h 1) no_bytes
kill_bytes_lem Removal.Zeroise x v h = bytes_append (dead_header x) (replicate (x.len - 11) 0) (dead_bytes x v h) (zero_bytes_lem (x.len - 11))
