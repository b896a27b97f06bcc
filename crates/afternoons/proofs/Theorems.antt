-- The worked examples R15.1 to R15.10, as one statement about the store's definitions. Assumes nothing.
use mathlib.Core.Path.{◌≡◌, refl}
use mathlib.Core.List.{List, [], ◌∷◌, map}
use Rattle.crc32.specs.Crc.{shift, shifts, feed, run, checksum}
use Rattle.chip.specs.Chip.{written, is_blank}
use Rattle.chip.specs.Geometry.{sized, geometry, numbers}
use Rattle.probe.specs.Probe.{keep, around, outward, probe}
use Rattle.format.specs.Layout.{big_endian, little_endian, record_bytes, check_sum_fits, big_endian_at}
use Rattle.region.specs.Walk.{met_of, walk_in, walk_from, first_of}
use Rattle.refusals.specs.Refusals.{first_refusal}
use Rattle.lookup.specs.Turns.{look_from, hit_of}
use Rattle.plans.specs.Writes.{applied}
use Rattle.store.specs.Read.{get_of}
use Rattle.store.specs.Write.{append_of, remove_of}
use Rattle.store.specs.Collect.{collect_in, collect_of}
use Rattle.afternoons.specs.Table.{Case, blank, after_three, into_two, after49, after_key5, after_invalidate, after_collect, after_zeroise, version2, with_length, table}

-- The two lists of each line are the same.
abbrev Agree : List Case → Type 0
Agree [] = Unit {0}
Agree (c ∷ cs) = (c.computed ≡ c.stated) × Agree cs

-- Where the lines agree, so do the columns.
columns : (cases : List Case) → Agree cases → map (λ (c : Case). c.computed) cases ≡ map (λ (c : Case). c.stated) cases
columns [] h = refl
columns (c ∷ cs) h = λ i. h.0 i ∷ columns cs h.1 i

-- R15.1 to R15.10: what the definitions compute is what the rules state, in one statement about one table.
-- Each line is closed, so it computes. It is one `refl` a line, for two columns compared as a whole take more steps than a check allows.
pub afternoons : map (λ (c : Case). c.computed) table ≡ map (λ (c : Case). c.stated) table
unfolding shift shifts feed run checksum written is_blank sized geometry keep around outward probe big_endian little_endian record_bytes check_sum_fits big_endian_at met_of walk_in walk_from first_of first_refusal look_from hit_of applied get_of append_of remove_of numbers collect_in collect_of blank after_three into_two after49 after_key5 after_invalidate after_collect after_zeroise version2 with_length table
afternoons = columns table ((refl, (refl, (refl, (refl, (refl, (refl, (refl, (refl, (refl, (refl, (refl, (refl, (refl, (refl, (refl, (refl, (refl, (refl, (refl, tt))))))))))))))))))))
