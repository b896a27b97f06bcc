-- The services of every call on an image, in this order and no others, over the definitions of the one-call form. A refusal ends the list where it is
-- known.
use Rattle.std.specs.Prelude.{ℕ, ◌*◌, ◌≡◌, cond, length, Result, Ok, Err}
use mathlib.Core.List.{List, [], ◌∷◌, ◌++◌, map, Memᴰ}
use Rattle.chip.specs.Chip.{erased}
use Rattle.chip.specs.Geometry.{geometry, region_of, erase_region, numbers}
use Rattle.probe.specs.Probe.{probes}
use Rattle.format.specs.declared.Record.{Record}
use Rattle.format.specs.declared.Fault.{Fault}
use Rattle.format.specs.declared.Removal.{Removal}
use Rattle.format.specs.Layout.{record_bytes, kill_bytes}
use Rattle.region.specs.declared.Event.{Event}
use Rattle.refusals.specs.Refusals.{first_refusal}
use Rattle.lookup.specs.declared.Hit.{Hit}
use Rattle.lookup.specs.Turns.{lookup_in, regions_read, hit_of}
use Rattle.plans.specs.declared.Aim.{Aim}
use Rattle.plans.specs.declared.Plan.{Plan}
use Rattle.sweeping.specs.declared.Verdict.{Verdict}
use Rattle.plans.specs.Answers.{starts_anew}
use Rattle.plans.specs.Writes.{listed}
use Rattle.planning.specs.Planning.{need_of, anew, plan}
use Rattle.sweeping.specs.Sweeps.{verdict}
use Rattle.store.specs.Read.{get_of}
use Rattle.store.specs.Call.{Call, get, append, remove, collect, initialise, answer_of, image_after}
use Rattle.lookup.specs.Words.{Passed}
use Rattle.pinned.specs.Words.{Decides}
use Rattle.pinned.specs.Left.{Dead, erased_by}
use Rattle.running.specs.declared.Request.{Request}
use Rattle.running.specs.Waits.{request_edit}
use Rattle.runs.specs.Host.{Run, service_done, buffer_of}
use Rattle.refusals.specs.declared.Refusal.{Refusal}

-- R7.2: refusals 1, 2 and 3 are known before any byte is read: then no service comes.
abbrev pub unless_refused : Result (Unit {0}) Refusal → List Request → List Request
unless_refused (Err w) asked = []
unless_refused (Ok u) asked = asked

-- R9.1: get's reads: of the regions in probe order, up to the one that decides. Of an aim's lookup, where a value of so many bytes is lent.
abbrev pub reads : Aim → ℕ → ℕ → List ℕ → ℕ → ℕ → List Request
reads aim len key image s n = map Request.Read (regions_read key (need_of aim len) s image (probes key n))

-- R8.4: a request for each edit of a plan.
abbrev pub edits : ℕ → ℕ → Plan → List Request
edits s len p = map (request_edit s len) (listed p.edits)

-- R9.2, R9.3: append reads all N regions, then comes one write; invalidate and zeroise have get's reads, then one write: the reads of the lookup,
-- then the edits of its plan.
abbrev pub reads_and_edits : Aim → ℕ → ℕ → List ℕ → ℕ → ℕ → List Request
reads_and_edits aim len key image s n = reads aim len key image s n ++ edits s len (plan aim n (lookup_in key (need_of aim len) s image (probes key n)))

-- R9.4: collect, for each region in number order a read and, where it is to be erased, its erase; a bad place ends it (R5.8).
unfoldable pub collect_services : ℕ → List ℕ → List ℕ → List Request
collect_services s image [] = []
collect_services s image (r ∷ rs) = Request.Read r ∷ elim (verdict r (region_of s image r)) [
  | Verdict.Stands ↦ collect_services s image rs
  | Verdict.Erase ↦ Request.Erase r ∷ collect_services s (erase_region s r image) rs
  | Verdict.Bad f p ↦ []
]

-- R9.5: where initialise must erase: erases of all regions in number order, then append's services.
abbrev pub anew_services : ℕ → ℕ → ℕ → List Request
anew_services key s n = edits s 0 (anew n) ++ reads_and_edits Aim.Append 0 key (erased (n * s)) s n

-- R9.1, R9.2, R9.3, R9.4, R9.5: the services of a call on an image.
unfoldable pub services : Call → List ℕ → ℕ → ℕ → List Request
services (get key buffer) image s n = unless_refused (first_refusal image s n key 0) (reads Aim.Get 0 key image s n)
services (append key value) image s n = unless_refused (first_refusal image s n key (length value)) (reads_and_edits Aim.Append (length value) key image s n)
services (remove how key) image s n = unless_refused (first_refusal image s n key 0) (reads_and_edits (Aim.Remove how) 0 key image s n)
services collect image s n = cond (geometry image s n) (collect_services s image (numbers 0 n)) []
services (initialise key) image s n =
    unless_refused (first_refusal image s n key 0)
    (reads Aim.Initialise 0 key image s n ++ cond (starts_anew (get_of image s n key []).answer) (anew_services key s n) [])

-- What the services make of the image.

-- R3.7: the bytes of a removal's one write, known from the record that the lookup found.
abbrev pub hit_bytes : Removal → Result Hit Refusal → List ℕ
hit_bytes how (Ok h) = kill_bytes how h.rec
hit_bytes how (Err w) = []

-- R9.2, R9.3, R9.5: the bytes of the one write that a call may ask for: append's new record, what makes a removal's dead, or the main key's record.
abbrev pub bytes_written : Call → List ℕ → ℕ → ℕ → List ℕ
bytes_written (get key buffer) image s n = []
bytes_written (append key value) image s n = record_bytes key value
bytes_written (remove how key) image s n = hit_bytes how (hit_of image s n key)
bytes_written collect image s n = []
bytes_written (initialise key) image s n = record_bytes key []

-- R9.7: the image with services of a list done, one after the other.
unfoldable pub services_done : ℕ → List ℕ → List Request → List ℕ → List ℕ
services_done s bytes [] image = image
services_done s bytes (q ∷ qs) image = services_done s bytes qs (service_done s bytes q image)

-- R9.4, R9.5: the region of a request that is an erase, before those of the rest.
abbrev pub erased_on : Request → List ℕ → List ℕ
erased_on (Request.Read r) rest = rest
erased_on (Request.Write a e p) rest = rest
erased_on (Request.Erase r) rest = r ∷ rest
erased_on (Request.Answers answer) rest = rest

-- R9.4, R9.5: the regions that a list of services erases, in its order.
unfoldable pub erases_in : List Request → List ℕ
erases_in [] = []
erases_in (q ∷ qs) = erased_on q (erases_in qs)

-- R5.7, R5.9: the regions that a call erases: collect the dead ones, initialise all where it must erase, the others none.
abbrev pub erases_of : Call → List ℕ → ℕ → ℕ → List ℕ
erases_of (get key buffer) image s n = []
erases_of (append key value) image s n = []
erases_of (remove how key) image s n = []
erases_of collect image s n = erased_by image s n
erases_of (initialise key) image s n = cond (starts_anew (get_of image s n key []).answer) (numbers 0 n) []

-- R9.1: the regions that a lookup of a key reads, in probe order up to the one that decides; all of them where none decides.
pub data UpTo (image : List ℕ) (s key : ℕ) (order : List ℕ) : List ℕ → Type 0 where
  live_decides : {r : ℕ} {x : Record} (d : Decides image s key order r (Event.Live x)) → UpTo image s key order (d.before ++ r ∷ [])
  bad_decides : {r o : ℕ} {f : Fault} (d : Decides image s key order r (Event.Bad f o)) → UpTo image s key order (d.before ++ r ∷ [])
  none_decides : ((q : ℕ) → Memᴰ q order → Passed image s key q) → UpTo image s key order order

-- R9.4: collect's services where no bad place ends it: each region is read in its turn, and erased at once if it is dead.
pub data Sweeps (s : ℕ) (image : List ℕ) : List ℕ → List Request → Type 0 where
  none : Sweeps s image [] []
  stood : {r : ℕ} {rs : List ℕ} {qs : List Request} → (Dead (region_of s image r) → ⊥) → Sweeps s image rs qs → Sweeps s image (r ∷ rs) (Request.Read r ∷ qs)
  was_dead : {r : ℕ} {rs : List ℕ} {qs : List Request} → Dead (region_of s image r) → Sweeps s image rs qs → Sweeps s image (r ∷ rs) (Request.Read r ∷ Request.Erase r ∷ qs)

-- R9.7: how a run of a call ends that was lent this buffer: with the answer, the image and the buffer of the one-call form, and these services done.
pub record Ends (c : Call) (image : List ℕ) (s n : ℕ) (buffer : List ℕ) (run : Run) : Type 0 where
  pub answer : run.host.request ≡ Request.Answers (answer_of c image s n)
  pub image_is : run.host.image ≡ image_after c image s n
  pub buffer_is : run.host.buffer ≡ buffer_of c image s n buffer
  pub did : run.did ≡ services c image s n
