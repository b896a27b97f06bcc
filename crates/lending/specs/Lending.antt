-- A key's value where it lies in the image, for any image, S, N and key: what is answered, where the value begins, and its bytes.
use Rattle.std.specs.Prelude.{ℕ, ◌+◌, ◌*◌, cond, List, [], take, drop, Result, Err, Ok}
use Rattle.chip.specs.Geometry.{region_of}
use Rattle.format.specs.declared.Record.{Record}
use Rattle.format.specs.Layout.{header_length}
use Rattle.region.specs.Walk.{value_length}
use Rattle.entries.specs.Entries.{sound_in}
use Rattle.refusals.specs.declared.Refusal.{Refusal}
use Rattle.lookup.specs.declared.Hit.{Hit}
use Rattle.lookup.specs.Turns.{hit_of}
use Rattle.plans.specs.declared.Success.TheVariants.{Complete, Written, Freed}
use Rattle.plans.specs.Answers.{Answer}
use Rattle.lending.specs.declared.Part.{Part}

-- R16.1: the checksum is looked at first: the value's length if it is right, and else InvalidCheckSum.
-- R16.2: the value's first byte stands behind the record's header. By the record, its region, and the image place where that begins.
abbrev pub located_in : List ℕ → ℕ → Record → Result Part Refusal
located_in region start x =
    cond (sound_in region x)
    (Ok (record { place = start + x.at + header_length x.version; len = value_length x }))
    (Err Refusal.InvalidCheckSum)

-- R16.1: a live record decides: its value. A bad place decides, or no region: the refusal.
abbrev pub located_by : ℕ → List ℕ → Result Hit Refusal → Result Part Refusal
located_by s image (Err w) = Err w
located_by s image (Ok h) = located_in (region_of s image h.region) (h.region * s) h.rec

-- R16.1, R16.2: get's lookup, where the value lies, or why it is refused.
unfoldable pub located_of : List ℕ → ℕ → ℕ → ℕ → Result Part Refusal
located_of image s n key = located_by s image (hit_of image s n key)

-- R16.1: what is answered: Complete with the value's length, or the refusal.
abbrev pub answer_of : Result Part Refusal → Answer
answer_of (Ok part) = Ok (Complete part.len)
answer_of (Err w) = Err w

-- R16.2: the image place of the value's first byte. Where it is refused the place is 0.
abbrev pub place_of : Result Part Refusal → ℕ
place_of (Ok part) = part.place
place_of (Err w) = 0

-- R16.1: the companion: get's answer, for a buffer that the value fits.
abbrev pub companion_of : List ℕ → ℕ → ℕ → ℕ → Answer
companion_of image s n key = answer_of (located_of image s n key)

-- R16.3: the part of the image that an answer with a place says: so many bytes from there on, and none where it is refused.
-- (Written and Freed do not come: nothing is written here.)
abbrev pub part_at : List ℕ → ℕ → Answer → List ℕ
part_at image place (Ok (Complete len)) = take len (drop place image)
part_at image place (Ok Written) = []
part_at image place (Ok (Freed bytes)) = []
part_at image place (Err w) = []

-- R16.3: the key's value, as a part of the image.
abbrev pub value_of : List ℕ → ℕ → ℕ → ℕ → List ℕ
value_of image s n key = part_at image (place_of (located_of image s n key)) (companion_of image s n key)
