-- Get in one call: for any image, S, N, key and buffer, what it answers and leaves.
use Rattle.std.specs.Prelude.{ℕ, List, length, Result, Err, Ok}
use Rattle.chip.specs.Geometry.{region_of}
use Rattle.lookup.specs.declared.Hit.{Hit}
use Rattle.lookup.specs.Turns.{hit_of}
use Rattle.values.specs.Values.{read_answer, read_buffer}
use Rattle.refusals.specs.declared.Refusal.{Refusal}
use Rattle.plans.specs.Answers.{Answer}

-- R7.5: the one answer of get, and the one content of its buffer afterwards
pub record Got : Type 0 where
  pub answer : Answer
  pub buffer : List ℕ

-- R5.2: a live record decides: its value into the buffer. A bad place decides, or no region: the refusal, and the buffer stays.
abbrev pub got_by : ℕ → List ℕ → List ℕ → Result Hit Refusal → Got
got_by s image buffer (Err w) = record { answer = Err w; buffer = buffer }
got_by s image buffer (Ok h) =
    record { answer = read_answer (region_of s image h.region) h.rec (length buffer); buffer = read_buffer (region_of s image h.region) h.rec buffer }

-- R5.2: get in one call.
unfoldable pub get_of : List ℕ → ℕ → ℕ → ℕ → List ℕ → Got
get_of image s n key buffer = got_by s image buffer (hit_of image s n key)
