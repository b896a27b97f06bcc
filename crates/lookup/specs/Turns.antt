-- A lookup of a key over the regions of an image, one region at a time. Its policy stands here, once: `turn` says what a region's event does to what has
-- been gathered, `close` how a lookup ends that no region decided.
use Rattle.std.specs.declared.ops.ControlFlow.TheVariants.{Break, Continue}
use Rattle.std.specs.declared.ops.ControlFlow.{ControlFlow}
use Rattle.std.specs.Prelude.{ℕ, ◌+◌, ◌*◌, List, [], ◌∷◌, length, Result, Ok, Err, Option, None}
use Rattle.chip.specs.Geometry.{region_of}
use Rattle.probe.specs.Probe.{probes}
use Rattle.format.specs.declared.Record.{Record}
use Rattle.region.specs.declared.Want.{Want}
use Rattle.region.specs.declared.Event.{Event}
use Rattle.region.specs.Walk.{event_in}
use Rattle.refusals.specs.declared.Refusal.{Refusal}
use Rattle.lookup.specs.declared.Seen.{Seen}
use Rattle.lookup.specs.declared.Looked.{Looked}
use Rattle.lookup.specs.declared.Hit.{Hit}
use Rattle.refusals.specs.Refusals.{refusal_of, first_refusal}
use Rattle.lookup.specs.Gather.{unseen, noted}

-- R5.1: a live record of the key or a bad place decides. A region that ends does not, and the lookup goes on.
abbrev pub turn : Seen → Option ℕ → ℕ → List ℕ → Event → ControlFlow Looked Seen
turn seen need r region (Event.Live x) = Break (Looked.Live r x)
turn seen need r region (Event.Bad f o) = Break (Looked.Bad f (r * length region + o))
turn seen need r region (Event.End o) = Continue (noted seen need r region o)

-- R5.1: no region is left, and none decided
abbrev pub close : Seen → Looked
close seen = Looked.Through seen

-- R5.1: one more region is walked for the key, number r
abbrev pub turn_of : Seen → ℕ → Option ℕ → ℕ → List ℕ → ControlFlow Looked Seen
turn_of seen key need r region = turn seen need r region (event_in region (Want.Key key))

-- R5.1: where a region decides no region after it is looked at, and else the lookup goes on: what is made of either
abbrev pub on_turn : {A : Type 0} → ControlFlow Looked Seen → (Looked → A) → (Seen → A) → A
on_turn (Break looked) stop more = stop looked
on_turn (Continue seen) stop more = more seen

-- R5.1: the regions of a list are walked in its order, with so much gathered before them
unfoldable pub look_from : Seen → ℕ → Option ℕ → ℕ → List ℕ → List ℕ → Looked
look_from seen key need s image [] = close seen
look_from seen key need s image (r ∷ rs) =
    on_turn (turn_of seen key need r (region_of s image r)) (λ looked. looked) (λ more. look_from more key need s image rs)

-- R5.1: the lookup of a key over the regions of a list
abbrev pub lookup_in : ℕ → Option ℕ → ℕ → List ℕ → List ℕ → Looked
lookup_in key need s image rs = look_from unseen key need s image rs

-- R9.1: the regions that it reads, up to the one that decides, with so much gathered before them
unfoldable pub read_from : Seen → ℕ → Option ℕ → ℕ → List ℕ → List ℕ → List ℕ
read_from seen key need s image [] = []
read_from seen key need s image (r ∷ rs) =
    r ∷ on_turn (turn_of seen key need r (region_of s image r)) (λ looked. []) (λ more. read_from more key need s image rs)

-- R9.1: the regions of a list that the lookup of a key reads
abbrev pub regions_read : ℕ → Option ℕ → ℕ → List ℕ → List ℕ → List ℕ
regions_read key need s image rs = read_from unseen key need s image rs

-- R6.4, R6.5, R6.7, R6.8: what refuses by how a lookup ended: no region decides, a live record of append's key does, or a bad place does
abbrev pub refused_by : Looked → Refusal
refused_by (Looked.Live r x) = Refusal.KeyAlreadyExists
refused_by (Looked.Bad f p) = refusal_of f
refused_by (Looked.Through seen) = Refusal.KeyNotFound

-- R5.2: a live record that was found, and its region.
abbrev pub hits : ℕ → Record → Result Hit Refusal
hits r x = Ok (record { region = r; rec = x })

-- R5.2, R5.5, R5.6: the key's live record and its region, or the refusal by a bad place or by no region: what get and the removals look for.
abbrev pub hit_by : Looked → Result Hit Refusal
hit_by (Looked.Live r x) = hits r x
hit_by (Looked.Bad f p) = Err (refused_by (Looked.Bad f p))
hit_by (Looked.Through seen) = Err (refused_by (Looked.Through seen))

-- R7.2: where the arguments are refused nothing is read; else the key is looked up in its probe order.
abbrev pub hit_after : List ℕ → ℕ → ℕ → ℕ → Result (Unit {0}) Refusal → Result Hit Refusal
hit_after image s n key (Err w) = Err w
hit_after image s n key (Ok u) = hit_by (lookup_in key None s image (probes key n))

-- R5.1: the lookup that get and the removals begin with, behind the refusals of the arguments.
unfoldable pub hit_of : List ℕ → ℕ → ℕ → ℕ → Result Hit Refusal
hit_of image s n key = hit_after image s n key (first_refusal image s n key 0)
