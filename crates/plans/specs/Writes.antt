-- What is lent to an operation; edits: what one writes or erases, and a list of them; a plan that has none.
use Rattle.std.specs.Prelude.{ℕ, ◌+◌, ◌-◌, ◌*◌, cond, List, [], ◌∷◌, map, ltb, Option, Some, None, Err}
use Rattle.std.proofs.lemmas.List.Edits.{sets}
use Rattle.chip.specs.Chip.{written}
use Rattle.chip.specs.Geometry.{erase_region, numbers}
use Rattle.format.specs.Layout.{record_length, record_bytes, kill_place, kill_length, kill_bytes}
use Rattle.lookup.specs.Gather.{unseen}
use Rattle.refusals.specs.declared.Refusal.{Refusal}
use Rattle.plans.specs.declared.Aim.{Aim}
use Rattle.plans.specs.declared.Lent.{Lent}
use Rattle.plans.specs.declared.Edit.{Edit}
use Rattle.plans.specs.declared.Edits.{Edits}
use Rattle.plans.specs.declared.Then.{Then}
use Rattle.plans.specs.declared.Plan.{Plan}
use Rattle.plans.specs.Answers.{Answer}

-- What is lent.

-- R8.2, R5.9: the length of append's value. Where none is lent initialise appends an empty one.
abbrev pub value_lent : Lent → ℕ
value_lent Lent.Nothing = 0
value_lent (Lent.Value len) = len
value_lent (Lent.Buffer len) = 0

-- R8.3, R5.9: the value itself. Where none is lent it is not looked at, and initialise appends an empty one.
abbrev pub value_of : Lent → List ℕ → List ℕ
value_of Lent.Nothing value = []
value_of (Lent.Value len) value = value
value_of (Lent.Buffer len) value = []

-- R8.2, R5.9: the length of get's buffer. Where none is lent initialise gets into an empty one.
abbrev pub buffer_lent : Lent → ℕ
buffer_lent Lent.Nothing = 0
buffer_lent (Lent.Value len) = 0
buffer_lent (Lent.Buffer len) = len

-- An edit.

-- R8.4: the region that is written or erased
abbrev pub in_region : Edit → ℕ
in_region (Edit.Lay r o) = r
in_region (Edit.Kill how r x) = r
in_region (Edit.Erase r) = r

-- R8.4: where in its region its bytes begin
abbrev pub start_of : Edit → ℕ
start_of (Edit.Lay r o) = o
start_of (Edit.Kill how r x) = kill_place how x
start_of (Edit.Erase r) = 0

-- R3.1, R3.7: its bytes, of the call (key and value) or of the record alone, and never of what the region holds; an erase has none
abbrev pub bytes_of : ℕ → List ℕ → Edit → List ℕ
bytes_of key value (Edit.Lay r o) = record_bytes key value
bytes_of key value (Edit.Kill how r x) = kill_bytes how x
bytes_of key value (Edit.Erase r) = []

-- R3.2, R3.7: how many they are, for a value of so many bytes
abbrev pub size_of : ℕ → Edit → ℕ
size_of len (Edit.Lay r o) = record_length len
size_of len (Edit.Kill how r x) = kill_length how x
size_of len (Edit.Erase r) = 0

-- R1.4: what a write makes of an image: its bytes go, by AND, to the image place that is its region's first plus where they begin.
abbrev pub wrote : ℕ → ℕ → List ℕ → Edit → List ℕ → List ℕ
wrote s key value e image = written image (in_region e * s + start_of e) (bytes_of key value e)

-- R1.3, R1.4: what an edit makes of an image: one write, or one erase.
abbrev pub edited : ℕ → ℕ → List ℕ → Edit → List ℕ → List ℕ
edited s key value (Edit.Lay r o) image = wrote s key value (Edit.Lay r o) image
edited s key value (Edit.Kill how r x) image = wrote s key value (Edit.Kill how r x) image
edited s key value (Edit.Erase r) image = erase_region s r image

-- R8.6: the bytes to write lie in the region buffer at their own place in the region, and the rest stays as it was.
abbrev pub laid_in : ℕ → List ℕ → Edit → List ℕ → List ℕ
laid_in key value e region = sets region (start_of e) (bytes_of key value e)

-- A list of edits.

-- R8.10: what an operation has still to write or erase, one after the other.
abbrev pub listed : Edits → List Edit
listed Edits.Nil = []
listed (Edits.One e) = e ∷ []
listed (Edits.Two e f) = e ∷ f ∷ []
listed (Edits.Three e f g) = e ∷ f ∷ g ∷ []
listed (Edits.Erases i m) = map Edit.Erase (numbers i (m - i))

-- R9.7: what is left is done one after the other: the image that a list of edits makes of another
unfoldable pub applied : ℕ → ℕ → List ℕ → List Edit → List ℕ → List ℕ
applied s key value [] image = image
applied s key value (e ∷ es) image = applied s key value es (edited s key value e image)

-- R9.7: what is left is done one after the other: the first of it, which comes next. In a run of erases with none left there is none (R8.10).
abbrev pub first : Edits → Option Edit
first Edits.Nil = None
first (Edits.One e) = Some e
first (Edits.Two e f) = Some e
first (Edits.Three e f g) = Some e
first (Edits.Erases i m) = cond (ltb i m) (Some (Edit.Erase i)) None

-- R9.7: what is left is done one after the other: the others, which are left once the first is done
abbrev pub rest : Edits → Edits
rest Edits.Nil = Edits.Nil
rest (Edits.One e) = Edits.Nil
rest (Edits.Two e f) = Edits.One f
rest (Edits.Three e f g) = Edits.Two f g
rest (Edits.Erases i m) = cond (ltb i m) (Edits.Erases (i + 1) m) Edits.Nil

-- A plan with nothing to write.

-- R8.10: nothing is left to write or erase, and what comes behind it comes at once
abbrev pub follows : Then → Plan
follows next = record { edits = Edits.Nil; next = next }

-- R7.1: an answer, with nothing written
abbrev pub ends : Answer → Plan
ends answer = follows (Then.Ends answer)

-- R7.3: a refusal, with nothing written
abbrev pub refuses : Refusal → Plan
refuses w = ends (Err w)

-- R5.1: a lookup begins, at the first region of the probe order
abbrev pub look : Aim → Then
look aim = Then.Seek aim 0 unseen
