-- One run, computed: the host's definitions on a closed case.
-- Assumes nothing.
use mathlib.Core.Path.{◌≡◌, refl}
use mathlib.Core.List.{List, [], ◌∷◌}
use Rattle.std.specs.Prelude.{Ok}
use Rattle.chip.specs.Chip.{erased, is_blank}
use Rattle.chip.specs.Geometry.{sized}
use Rattle.probe.specs.Probe.{keep, around, outward, probe}
use Rattle.format.specs.Layout.{big_endian, little_endian, record_bytes}
use Rattle.region.specs.Walk.{met_of, walk_in, walk_from, first_of}
use Rattle.plans.specs.declared.Success.TheVariants.{Written}
use Rattle.store.specs.Call.{initialise}
use Rattle.running.specs.declared.Request.{Request}
use Rattle.rule.specs.Rule.{rule, call_fits}
use Rattle.steps.specs.Step.{stepped, region_after, buffer_after}
use Rattle.stepwise.specs.Begins.{fresh_of}
use Rattle.runs.specs.Host.{Run, Beat, ready, waiting, begun, drive}

-- A blank chip of one region of 64 bytes is initialised, its main key is 1.
abbrev blank_run : List Beat → Run
blank_run beats = drive 64 beats (begun (fresh_of (initialise 1) 64 1) (erased 64) (erased 64) [] [])

-- With a wait before the first read and one before the second, in which two bytes of it are there: get's read finds no key, the region is erased, append reads it and writes a
-- record of 15 bytes.
pub initialised : ((blank_run (waiting [] ∷ ready ∷ ready ∷ waiting (1 ∷ 2 ∷ []) ∷ ready ∷ ready ∷ [])).host.request ≡ Request.Answers (Ok Written))
    × ((blank_run (waiting [] ∷ ready ∷ ready ∷ waiting (1 ∷ 2 ∷ []) ∷ ready ∷ ready ∷ [])).did ≡ Request.Read 0 ∷ Request.Erase 0 ∷ Request.Read 0 ∷ Request.Write 0 15 0 ∷ [])
unfolding sized keep around outward probe first_of walk_from walk_in met_of is_blank rule call_fits stepped region_after buffer_after drive record_bytes big_endian little_endian
initialised = (refl, refl)
