-- Get's buffer under a refusal that copies nothing.
-- Assumes nothing.
use Prim.Native.Nat.{ℕ, ◌≤◌, ◌<◌}
use native.Mathlib.Omega.{arith}
use mathlib.Core.Path.{◌≡◌, refl}
use mathlib.Core.Bool.{Bool, true, false, cond}
use mathlib.Core.List.{List}
use lib.Dec.{ltb}
use lib.ListN.{length}
use Rattle.std.specs.Prelude.{Result, Err, Ok}
use Rattle.chip.specs.Geometry.{region_of}
use Rattle.format.specs.Layout.{check_sum_fits}
use Rattle.region.specs.Walk.{bytes_in, value_length}
use Rattle.refusals.specs.declared.Refusal.{Refusal}
use Rattle.lookup.specs.declared.Hit.{Hit}
use Rattle.lookup.specs.Turns.{hit_of}
use Rattle.plans.specs.declared.Success.TheVariants.{Complete}
use Rattle.plans.specs.Answers.{refusal}
use Rattle.store.specs.Read.{got_by, get_of}

pub refused_buffer : (image : List ℕ) (s n key : ℕ) (buffer : List ℕ) → 1 ≤ refusal (get_of image s n key buffer).answer → refusal (get_of image s n key buffer).answer < 9
    → (get_of image s n key buffer).buffer ≡ buffer
unfolding get_of
refused_buffer image s n key buffer = go (hit_of image s n key)
  where
    copies : (len : ℕ) (b d : Bool) → 1 ≤ refusal (cond b (Err (Refusal.BufferTooSmall len)) (cond d (Ok (Complete len)) (Err Refusal.InvalidCheckSum)))
        → refusal (cond b (Err (Refusal.BufferTooSmall len)) (cond d (Ok (Complete len)) (Err Refusal.InvalidCheckSum))) < 9 → ⊥
    copies len true d l h = omega arith
    copies len false true l h = omega arith
    copies len false false l h = omega arith

    go : (hit : Result Hit Refusal) → 1 ≤ refusal (got_by s image buffer hit).answer → refusal (got_by s image buffer hit).answer < 9 → (got_by s image buffer hit).buffer ≡ buffer
    go (Err w) l h = refl
    go (Ok t) l h = absurd (copies (value_length t.rec) (ltb (length buffer) (value_length t.rec)) (check_sum_fits (bytes_in (region_of s image t.region) t.rec)) l h)
