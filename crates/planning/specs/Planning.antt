-- The plan of an operation after its lookup: a refusal, an answer, or edits and what follows them. One row for each aim in `need_of` and in `plan`,
-- and one in `lent_for` (plans, Fits).
use Rattle.std.specs.Prelude.{ℕ, Bool, true, false, ◌&&◌, cond, Result, Err, Ok, Option, Some, None}
use Rattle.format.specs.declared.Record.{Record}
use Rattle.format.specs.declared.Removal.{Removal}
use Rattle.format.specs.Layout.{record_length}
use Rattle.refusals.specs.declared.Refusal.{Refusal}
use Rattle.lookup.specs.declared.Room.{Room}
use Rattle.lookup.specs.declared.Looked.{Looked}
use Rattle.lookup.specs.declared.Hit.{Hit}
use Rattle.lookup.specs.Turns.{refused_by, hit_by}
use Rattle.plans.specs.declared.Success.{Success}
use Rattle.plans.specs.declared.Aim.{Aim}
use Rattle.plans.specs.declared.Edit.{Edit}
use Rattle.plans.specs.declared.Edits.{Edits}
use Rattle.plans.specs.declared.Then.{Then}
use Rattle.plans.specs.declared.Plan.{Plan}
use Rattle.plans.specs.Answers.{starts_anew, Answer}
use Rattle.plans.specs.Writes.{follows, ends, refuses, look}

-- R5.4: what an aim's lookup is for: append's gathers room for its record, where a value of so many bytes is lent, the others gather nothing
abbrev pub need_of : Aim → ℕ → Option ℕ
need_of Aim.Get len = None
need_of Aim.Append len = Some (record_length len)
need_of (Aim.Remove how) len = None
need_of Aim.Initialise len = None

-- R8.8: Written is answered after these are done
abbrev pub writes : Edits → Plan
writes es = record { edits = es; next = Then.Ends (Ok Success.Written) }

-- R5.2: a live record decides, and its value is given. Where `again` is true this is initialise's get (R5.9).
abbrev pub gives : ℕ → Record → Bool → Plan
gives r x again = follows (Then.Gives r x again)

-- R5.9: every region is erased and the main key is appended with an empty value
abbrev pub anew : ℕ → Plan
anew n = record { edits = Edits.Erases 0 n; next = look Aim.Append }

-- R5.2: a live record decides, and its value is given. A bad place decides, or no region: the refusal.
abbrev pub get_plan : Result Hit Refusal → Plan
get_plan (Ok h) = gives h.region h.rec false
get_plan (Err w) = refuses w

-- R5.4: no region has room: FlashFull. A byte of the record's place there is not 255: CorruptData, and no other region is tried. Else one write
-- puts the record at o: Written.
abbrev pub place_plan : Option Room → Plan
place_plan None = refuses Refusal.FlashFull
place_plan (Some room) = cond room.blank (writes (Edits.One (Edit.Lay room.region room.at))) (refuses Refusal.CorruptData)

-- R5.3: a live record decides: KeyAlreadyExists. A bad place decides: its refusal. R5.4: no region decides: the first that has room.
abbrev pub append_plan : Looked → Plan
append_plan (Looked.Live r x) = refuses (refused_by (Looked.Live r x))
append_plan (Looked.Bad f p) = refuses (refused_by (Looked.Bad f p))
append_plan (Looked.Through seen) = place_plan seen.room

-- R5.5, R5.6: refused as get is by a bad place or by no region. Else the record that decides is made dead by its one write: Written.
abbrev pub remove_plan : Removal → Result Hit Refusal → Plan
remove_plan how (Ok h) = writes (Edits.One (Edit.Kill how h.region h.rec))
remove_plan how (Err w) = refuses w

-- R5.9: a get of the main key into an empty buffer. A lookup that finds none is refused by 4, 7 or 8, and every region is erased.
abbrev pub initialise_plan : ℕ → Result Hit Refusal → Plan
initialise_plan n (Ok h) = gives h.region h.rec true
initialise_plan n (Err w) = anew n

-- R5.2, R5.3, R5.5, R5.6, R5.9: what each operation does after its lookup
abbrev pub plan : Aim → ℕ → Looked → Plan
plan Aim.Get n looked = get_plan (hit_by looked)
plan Aim.Append n looked = append_plan looked
plan (Aim.Remove how) n looked = remove_plan how (hit_by looked)
plan Aim.Initialise n looked = initialise_plan n (hit_by looked)

-- R5.9: a value was given, with this answer. Where initialise's get is refused every region is erased; else this is the answer.
abbrev pub given_plan : ℕ → Bool → Answer → Plan
given_plan n again answer = cond (again && starts_anew answer) (anew n) (ends answer)
