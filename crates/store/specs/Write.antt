-- Append, the two removals and initialise in one call: for any image, S, N, key and value, what each answers and leaves.
use Rattle.std.specs.Prelude.{ℕ, ◌*◌, cond, List, [], length, Result, Ok, Err, Some}
use Rattle.chip.specs.Chip.{erased}
use Rattle.probe.specs.Probe.{probes}
use Rattle.format.specs.declared.Removal.{Removal}
use Rattle.format.specs.Layout.{record_length}
use Rattle.refusals.specs.declared.Refusal.{Refusal}
use Rattle.lookup.specs.declared.Looked.{Looked}
use Rattle.lookup.specs.declared.Hit.{Hit}
use Rattle.refusals.specs.Refusals.{first_refusal}
use Rattle.lookup.specs.Turns.{lookup_in, hit_of}
use Rattle.plans.specs.declared.Then.{Then}
use Rattle.plans.specs.declared.Plan.{Plan}
use Rattle.plans.specs.Answers.{starts_anew, Answer}
use Rattle.plans.specs.Writes.{listed, applied}
use Rattle.planning.specs.Planning.{append_plan, remove_plan}
use Rattle.store.specs.Read.{get_of}

-- R7.5: the one answer of a call, and the one image afterwards
pub record Done : Type 0 where
  pub answer : Answer
  pub image : List ℕ

-- R7.3: a refused call alters no byte of the image
abbrev pub refused : Refusal → List ℕ → Done
refused w image = record { answer = Err w; image = image }

-- R7.1: the plans of append and of the removals end with an answer. The other three cases do not come: their BadCall only fills the lines, and the
-- one-call form never answers it (pinned: `at_most_ten`).
abbrev pub end_of : Then → Answer
end_of (Then.Ends answer) = answer
end_of (Then.Seek aim i seen) = Err Refusal.BadCall
end_of (Then.Sweep r k) = Err Refusal.BadCall
end_of (Then.Gives r x anew) = Err Refusal.BadCall

-- R5.4, R5.5, R5.6: what append and the removals come to, by their plan: its one write is done, or none where it refuses, and its answer is theirs.
-- Both forms have the same plan, and that is why they end alike (R9.7).
abbrev pub carried : ℕ → ℕ → List ℕ → List ℕ → Plan → Done
carried s key value image p = record { answer = end_of p.next; image = applied s key value (listed p.edits) image }

-- R5.3, R5.4: append, by what its lookup came to.
abbrev pub append_by : ℕ → List ℕ → ℕ → List ℕ → Looked → Done
append_by s image key value looked = carried s key value image (append_plan looked)

-- R5.3, R7.2: where the arguments are refused nothing is read; else the key is looked up over all N regions.
abbrev pub append_after : List ℕ → ℕ → ℕ → ℕ → List ℕ → Result (Unit {0}) Refusal → Done
append_after image s n key value (Err w) = refused w image
append_after image s n key value (Ok u) =
    append_by s image key value (lookup_in key (Some (record_length (length value))) s image (probes key n))

-- R5.3, R5.4: append in one call.
unfoldable pub append_of : List ℕ → ℕ → ℕ → ℕ → List ℕ → Done
append_of image s n key value = append_after image s n key value (first_refusal image s n key (length value))

-- R5.5, R5.6: a removal, by what its lookup came to: the checksum is not looked at.
abbrev pub remove_by : Removal → ℕ → List ℕ → ℕ → Result Hit Refusal → Done
remove_by how s image key hit = carried s key [] image (remove_plan how hit)

-- R5.5, R5.6: invalidate and zeroise in one call.
unfoldable pub remove_of : Removal → List ℕ → ℕ → ℕ → ℕ → Done
remove_of how image s n key = remove_by how s image key (hit_of image s n key)

-- R5.9: by the answer of a get of the main key into an empty buffer. Complete: nothing changes. Refused by 4, 7, 8, 9 or 10: every region is
-- erased and the main key is appended with an empty value, Written.
abbrev pub initialise_by : List ℕ → ℕ → ℕ → ℕ → Answer → Done
initialise_by image s n key answer = cond (starts_anew answer) (append_of (erased (n * s)) s n key []) (record { answer = answer; image = image })

-- R5.9: initialise in one call.
unfoldable pub initialise_of : List ℕ → ℕ → ℕ → ℕ → Done
initialise_of image s n key = initialise_by image s n key (get_of image s n key []).answer
