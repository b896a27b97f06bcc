-- What each of the sixteen exports' contracts allows: its answer, and what it leaves in the bytes that it was lent to alter. The contracts cite these
-- names, and exports says of each that it allows one result.
use Rattle.std.specs.Prelude.{ℕ, ◌≡◌, List}
use Rattle.crc32.specs.Crc.{checksum}
use Rattle.format.specs.declared.Removal.{Removal}
use Rattle.store.specs.Read.{get_of}
use Rattle.store.specs.Write.{append_of, remove_of, initialise_of}
use Rattle.store.specs.Collect.{collect_of}
use Rattle.lending.specs.Lending.{located_of}
use Rattle.entries.specs.Entries.{shown_at}
use Rattle.sights.specs.declared.CFound.{CFound}
use Rattle.sights.specs.declared.CEntry.{CEntry}
use Rattle.sights.specs.Sights.{part_numbers, shown_numbers}
use Rattle.running.specs.Starts.{get_started, append_started, remove_started, collect_started, initialise_started}
use Rattle.replies.specs.declared.CAnswer.{CAnswer}
use Rattle.replies.specs.Answers.{answer_numbers}
use Rattle.operations.specs.declared.COperation.{COperation}
use Rattle.numbers.specs.declared.CStart.{CStart}
use Rattle.numbers.specs.declared.CStepped.{CStepped}
use Rattle.numbers.specs.Packs.{start_numbers}
use Rattle.stilefray.specs.Stepped.{step_numbers, step_region, step_buffer}

-- The one-call form: an answer, and get's buffer or the image at exit.

-- R5.2: get, its answer in numbers (R12.1), and the buffer at exit.
abbrev pub GetKeyAllows : List ℕ → ℕ → ℕ → ℕ → List ℕ → CAnswer → List ℕ → Type 0
GetKeyAllows image s n key buffer r buffer' = (r ≡ answer_numbers (get_of image s n key buffer).answer) × (buffer' ≡ (get_of image s n key buffer).buffer)

-- R5.3, R5.4: append, its answer in numbers, and the image at exit.
abbrev pub AppendKeyAllows : List ℕ → ℕ → ℕ → ℕ → List ℕ → CAnswer → List ℕ → Type 0
AppendKeyAllows image s n key value r image' = (r ≡ answer_numbers (append_of image s n key value).answer) × (image' ≡ (append_of image s n key value).image)

-- R5.5: invalidate, the same.
abbrev pub InvalidateKeyAllows : List ℕ → ℕ → ℕ → ℕ → CAnswer → List ℕ → Type 0
InvalidateKeyAllows image s n key r image' =
    (r ≡ answer_numbers (remove_of Removal.Invalidate image s n key).answer) × (image' ≡ (remove_of Removal.Invalidate image s n key).image)

-- R5.6: zeroise, the same.
abbrev pub ZeroiseKeyAllows : List ℕ → ℕ → ℕ → ℕ → CAnswer → List ℕ → Type 0
ZeroiseKeyAllows image s n key r image' =
    (r ≡ answer_numbers (remove_of Removal.Zeroise image s n key).answer) × (image' ≡ (remove_of Removal.Zeroise image s n key).image)

-- R5.7, R5.8: collect, the same.
abbrev pub GarbageCollectAllows : List ℕ → ℕ → ℕ → CAnswer → List ℕ → Type 0
GarbageCollectAllows image s n r image' = (r ≡ answer_numbers (collect_of image s n).answer) × (image' ≡ (collect_of image s n).image)

-- R5.9: initialise, the same.
abbrev pub InitialiseAllows : List ℕ → ℕ → ℕ → ℕ → CAnswer → List ℕ → Type 0
InitialiseAllows image s n key r image' = (r ≡ answer_numbers (initialise_of image s n key).answer) × (image' ≡ (initialise_of image s n key).image)

-- The stepped form's starts: a refusal's number and the numbers of a running operation.

-- R8.2, R12.6: get's start, in numbers, with the length of its buffer.
abbrev pub StartGetAllows : ℕ → ℕ → ℕ → ℕ → CStart → Type 0
StartGetAllows s n key capacity r = r ≡ start_numbers (get_started s n key capacity)

-- R8.2, R12.6: append's start, with the length of its value.
abbrev pub StartAppendAllows : ℕ → ℕ → ℕ → ℕ → CStart → Type 0
StartAppendAllows s n key len r = r ≡ start_numbers (append_started s n key len)

-- R8.2, R12.6: invalidate's start.
abbrev pub StartInvalidateAllows : ℕ → ℕ → ℕ → CStart → Type 0
StartInvalidateAllows s n key r = r ≡ start_numbers (remove_started Removal.Invalidate s n key)

-- R8.2, R12.6: zeroise's start.
abbrev pub StartZeroiseAllows : ℕ → ℕ → ℕ → CStart → Type 0
StartZeroiseAllows s n key r = r ≡ start_numbers (remove_started Removal.Zeroise s n key)

-- R8.2, R12.6: collect's start.
abbrev pub StartCollectAllows : ℕ → ℕ → CStart → Type 0
StartCollectAllows s n r = r ≡ start_numbers (collect_started s n)

-- R8.2, R12.6: initialise's start.
abbrev pub StartInitialiseAllows : ℕ → ℕ → ℕ → CStart → Type 0
StartInitialiseAllows s n key r = r ≡ start_numbers (initialise_started s n key)

-- R8.3, R12.7: a step: its numbers, and region buffer and buffer at exit.
abbrev pub StepAllows : COperation → ℕ → List ℕ → List ℕ → List ℕ → CStepped → List ℕ → List ℕ → Type 0
StepAllows op reply region value buffer r region' buffer' =
    (r ≡ step_numbers op reply region value buffer) × (region' ≡ step_region op reply region value buffer) × (buffer' ≡ step_buffer op reply region value buffer)

-- R5.10: the checksum alone, of any bytes.
abbrev pub ChecksumAllows : List ℕ → ℕ → Type 0
ChecksumAllows bytes r = r ≡ checksum bytes

-- Looking into a chip: nothing that is lent is altered.

-- R16.1, R16.2, R16.11: where a key's value lies, in numbers.
abbrev pub FindValueAllows : List ℕ → ℕ → ℕ → ℕ → CFound → Type 0
FindValueAllows image s n key r = r ≡ part_numbers (located_of image s n key)

-- R16.4, R16.5, R16.11: what stands at a place of a region, and where to go on, in numbers.
abbrev pub RecordAtAllows : List ℕ → ℕ → ℕ → ℕ → ℕ → CEntry → Type 0
RecordAtAllows image s n region place r = r ≡ shown_numbers s region (shown_at image s n region place)
