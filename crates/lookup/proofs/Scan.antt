-- A lookup, one region at a time, and what it says where it ends. `Looks` is the lookup as its turns: every law on a lookup is an induction over it.
-- Assumes nothing.
use Prim.Native.Nat.{ℕ, ◌+◌, ◌*◌, ◌≤◌, ◌<◌}
use native.Mathlib.Omega.{arith}
use mathlib.Core.Path.{◌≡◌, refl, sym, ◌∙◌, ap, subst}
use mathlib.Core.Bool.{Bool, true, false, not, cond}
use mathlib.Core.List.{List, [], ◌∷◌, Memᴰ}
use lib.Dec.{ltb, leb}
use lib.ListN.{length, take, drop}
use borrow.Author.Tests.{le-leb, lt-leb, leb-true, ltb-false}
use Rattle.std.specs.Prelude.{Ok, Err, Option, Some, None}
use Rattle.chip.specs.Chip.{is_blank}
use Rattle.chip.specs.Geometry.{Fits, geometry, region_of}
use Rattle.chip.proofs.Image.{geometry_fits, region-length}
use Rattle.probe.specs.Probe.{allowed_key, probes}
use Rattle.probe.proofs.Theorems.{members}
use Rattle.format.specs.declared.Record.{Record}
use Rattle.format.specs.declared.Fault.{Fault}
use Rattle.region.specs.declared.Stop.{Stop}
use Rattle.region.specs.declared.Want.{Want}
use Rattle.region.specs.declared.Event.{Event}
use Rattle.region.specs.Walk.{ending, event_of, event_in}
use Rattle.region.proofs.Steps.{place_of}
use Rattle.region.proofs.Theorems.{stop_decides, stop_within, live_decides, records_within, records_short}
use Rattle.refusals.specs.declared.Refusal.{Refusal}
use Rattle.lookup.specs.declared.Room.{Room}
use Rattle.lookup.specs.declared.Seen.{Seen}
use Rattle.lookup.specs.declared.Looked.{Looked}
use Rattle.refusals.specs.Refusals.{first_refusal}
use Rattle.lookup.specs.Gather.{with_room, or_room, room_at, noted, some_room}
use Rattle.lookup.specs.Turns.{turn, close, on_turn, look_from, lookup_in}
use Rattle.lookup.specs.Words.{room_on, first_room}

-- A lookup of a key as its turns: over the regions of a list, with so much gathered before them, it ends like this.
pub data Looks (key : ℕ) (need : Option ℕ) (s : ℕ) (image : List ℕ) : Seen → List ℕ → Looked → Type 0 where
  over : {seen : Seen} → Looks key need s image seen [] (close seen)
  live : {seen : Seen} {r : ℕ} {rs : List ℕ} {x : Record} → event_in (region_of s image r) (Want.Key key) ≡ Event.Live x → Looks key need s image seen (r ∷ rs) (Looked.Live r x)
  bad : {seen : Seen} {r : ℕ} {rs : List ℕ} {f : Fault} {o : ℕ} → event_in (region_of s image r) (Want.Key key) ≡ Event.Bad f o
      → Looks key need s image seen (r ∷ rs) (Looked.Bad f (r * length (region_of s image r) + o))
  more : {seen : Seen} {r : ℕ} {rs : List ℕ} {o : ℕ} {looked : Looked} → event_in (region_of s image r) (Want.Key key) ≡ Event.End o
      → Looks key need s image (noted seen need r (region_of s image r) o) rs looked → Looks key need s image seen (r ∷ rs) looked

module _ (key : ℕ) (need : Option ℕ) (s : ℕ) (image : List ℕ) where
  pub looks : (seen : Seen) (rs : List ℕ) → Looks key need s image seen rs (look_from seen key need s image rs)
  unfolding look_from
  looks seen [] = Looks.over
  looks seen (r ∷ rs) = go (λ more. looks more rs) (event_in (region_of s image r) (Want.Key key)) refl
    where
      go : ((more : Seen) → Looks key need s image more rs (look_from more key need s image rs))
          → (e : Event) → event_in (region_of s image r) (Want.Key key) ≡ e
          → Looks key need s image seen (r ∷ rs) (on_turn (turn seen need r (region_of s image r) e) (λ looked. looked) (λ more. look_from more key need s image rs))
      go ih (Event.Live x) p = Looks.live p
      go ih (Event.Bad f o) p = Looks.bad p
      go ih (Event.End o) p = Looks.more p (ih (noted seen need r (region_of s image r) o))

  -- a lookup that ends so, as its turns
  pub looks_so : {seen : Seen} {rs : List ℕ} {looked : Looked} → look_from seen key need s image rs ≡ looked → Looks key need s image seen rs looked
  looks_so {seen} {rs} e = subst (Looks key need s image seen rs) e (looks seen rs)

  -- and back: turns determine how it ends
  pub looks_is : {seen : Seen} {rs : List ℕ} {looked : Looked} → Looks key need s image seen rs looked → look_from seen key need s image rs ≡ looked
  unfolding look_from
  looks_is Looks.over = refl
  looks_is (Looks.live e) = rw e
  looks_is (Looks.bad e) = rw e
  looks_is (Looks.more e rest) = rw e (looks_is rest)

  -- Where it ends at a live record: its region is one of the list, and the record is what decides there.
  pub live_from : {seen : Seen} {rs : List ℕ} {r : ℕ} {x : Record} → Looks key need s image seen rs (Looked.Live r x)
      → Memᴰ r rs × (event_in (region_of s image r) (Want.Key key) ≡ Event.Live x)
  live_from (Looks.live e) = (Memᴰ.head refl, e)
  live_from (Looks.more e rest) = let (m, p) = live_from rest in (Memᴰ.tail m, p)

-- a bad place, or the end, lies in the region
pub within : (region : List ℕ) (key : ℕ) (stop : Stop) → event_in region (Want.Key key) ≡ event_of stop → place_of stop ≤ length region
within region key stop e = let (_, same) = stop_decides region (Want.Key key) stop e in rw (← same) (stop_within region)

-- A live record that a search found lies in its region.
pub found_lies : (region : List ℕ) (key : ℕ) (x : Record) → event_in region (Want.Key key) ≡ Event.Live x
    → (15 ≤ x.len) × (x.len ≤ 4095) × (x.at + x.len ≤ length region)
found_lies region key x e =
    let first = live_decides region (Want.Key key) x e in
    let (least, fits) = records_within region first.before x first.after first.split in
    (least, records_short region first.before x first.after first.split, fits)

pub record Found (image : List ℕ) (s n key r : ℕ) (x : Record) : Type 0 where
  pub number : r < n
  pub event : event_in (region_of s image r) (Want.Key key) ≡ Event.Live x
  pub least : 15 ≤ x.len
  pub short : x.len ≤ 4095
  pub fits : x.at + x.len ≤ s

pub found : {image : List ℕ} {s n : ℕ} (key : ℕ) (need : Option ℕ) (r : ℕ) (x : Record) → Fits image s n → lookup_in key need s image (probes key n) ≡ Looked.Live r x → Found image s n key r x
found {image} {s} {n} key need r x f h =
    let (m, e) = live_from key need s image (looks_so key need s image h) in
    let number : r < n = (members key n r f.shape.n_least).1 m in
    let (least, short, fits) = found_lies (region_of s image r) key x e in
    record { number = number; event = e; least = least; short = short; fits = rw (region-length f number) at fits }

-- What is gathered.

abbrev room_or : Option Room → Room → Room
room_or None room = room
room_or (Some room) other = room

-- where the same room is said twice
pub same_room : {r o q p : ℕ} {t b : Bool} → some_room r o t ≡ some_room q p b → (r ≡ q) × (o ≡ p) × (t ≡ b)
same_room {r} {o} {q} {p} {t} {b} h =
    let given : Option Room → Room = λ room. room_or room (record { region = r; at = o; blank = t }) in
    (ap (λ (room : Option Room). (given room).region) h, ap (λ (room : Option Room). (given room).at) h, ap (λ (room : Option Room). (given room).blank) h)

-- what holds of none, of every room that is not blank and of every one that is, holds of any
pub room_cases : (P : Option Room → Type 0) → P None → ((r o : ℕ) → P (some_room r o false)) → ((r o : ℕ) → P (some_room r o true)) → (room : Option Room) → P room
room_cases P none unblank blank None = none
room_cases P none unblank blank (Some room) = go room.region room.at room.blank
  where
    go : (r o : ℕ) (t : Bool) → P (some_room r o t)
    go r o false = unblank r o
    go r o true = blank r o

or_assoc : (a b c : Option Room) → or_room (or_room a b) c ≡ or_room a (or_room b c)
or_assoc None b c = refl
or_assoc (Some room) b c = refl

or_nowhere : (a : Option Room) → or_room a None ≡ a
or_nowhere None = refl
or_nowhere (Some room) = refl

-- A lookup for room that goes through all regions has gathered the first region with room.
pub gathers : (key len s : ℕ) (image : List ℕ) {seen got : Seen} {rs : List ℕ} → Looks key (Some len) s image seen rs (Looked.Through got)
    → got.room ≡ or_room seen.room (first_room len s image rs)
unfolding first_room
gathers key len s image {seen} Looks.over = sym (or_nowhere seen.room)
gathers key len s image {seen} (Looks.more {r = r} {rs = rs} {o = o} e rest) =
    let (_, stop) = stop_decides (region_of s image r) (Want.Key key) (Stop.End o) e in
    gathers key len s image rest ∙ or_assoc seen.room (room_at len r o (region_of s image r)) (first_room len s image rs)
    ∙ ap (λ (t : Stop). or_room seen.room (or_room (room_on len r (region_of s image r) t) (first_room len s image rs))) (sym stop)

pub gathered_first : (key len s : ℕ) (image rs : List ℕ) {got : Seen} → lookup_in key (Some len) s image rs ≡ Looked.Through got → got.room ≡ first_room len s image rs
gathered_first key len s image rs h = gathers key len s image (looks_so key (Some len) s image h)

-- Where there is room: the region is one of the list, and its records end at the place.
pub record Roomy (image : List ℕ) (s len r o : ℕ) (blank : Bool) : Type 0 where
  pub ends : ending (region_of s image r) ≡ Stop.End o
  pub enough : o + len ≤ length (region_of s image r)
  pub blankness : blank ≡ is_blank (take len (drop o (region_of s image r)))

pub room_from : (len s : ℕ) (image rs : List ℕ) (r o : ℕ) (blank : Bool) → first_room len s image rs ≡ some_room r o blank
    → Memᴰ r rs × Roomy image s len r o blank
unfolding first_room
room_from len s image [] r o blank h = absurd (let z : ◌≡◌ {A = ℕ} 0 1 = cc in omega arith)
room_from len s image (q ∷ rs) r o blank h = go (room_from len s image rs r o blank) (ending (region_of s image q)) refl h
  where
    later : (first_room len s image rs ≡ some_room r o blank → Memᴰ r rs × Roomy image s len r o blank) → first_room len s image rs ≡ some_room r o blank
        → Memᴰ r (q ∷ rs) × Roomy image s len r o blank
    later ih h = let (m, e) = ih h in (Memᴰ.tail m, e)

    here : (p : ℕ) → ending (region_of s image q) ≡ Stop.End p → (b : Bool) → leb (p + len) (length (region_of s image q)) ≡ b
        → (first_room len s image rs ≡ some_room r o blank → Memᴰ r rs × Roomy image s len r o blank)
        → or_room (cond b (some_room q p (is_blank (take len (drop p (region_of s image q))))) None) (first_room len s image rs) ≡ some_room r o blank
        → Memᴰ r (q ∷ rs) × Roomy image s len r o blank
    here p e true t ih h =
        let (same, place, bit) = same_room (sym h) in
        (Memᴰ.head same, rw (same, place) (record { ends = e; enough = leb-true _ _ t; blankness = bit }))
    here p e false t ih h = later ih h

    go : (first_room len s image rs ≡ some_room r o blank → Memᴰ r rs × Roomy image s len r o blank)
        → (e : Stop) → ending (region_of s image q) ≡ e → or_room (room_on len q (region_of s image q) e) (first_room len s image rs) ≡ some_room r o blank
        → Memᴰ r (q ∷ rs) × Roomy image s len r o blank
    go ih (Stop.End p) e h = here p e (leb (p + len) (length (region_of s image q))) refl ih h
    go ih (Stop.Bad f p) e h = later ih h

-- What is allowed before anything is read.
pub fine : (image : List ℕ) (s n key len : ℕ) → first_refusal image s n key len ≡ Ok tt → Fits image s n × (allowed_key key ≡ true) × (len ≤ 4079)
unfolding first_refusal
fine image s n key len h = go (geometry image s n) refl (allowed_key key) refl (ltb 4079 len) refl h
  where
    go : (a : Bool) → geometry image s n ≡ a → (b : Bool) → allowed_key key ≡ b → (c : Bool) → ltb 4079 len ≡ c
        → cond (not a) (Err Refusal.BadGeometry) (cond (not b) (Err Refusal.BadKey) (cond c (Err Refusal.ObjectTooLarge) (Ok (tt {0})))) ≡ Ok tt
        → Fits image s n × (allowed_key key ≡ true) × (len ≤ 4079)
    go true p true q false t h = (geometry_fits p, q, ltb-false _ _ t)
    go true p true q true t h = absurd (let z : ◌≡◌ {A = ℕ} 0 1 = cc in omega arith)
    go true p false q c t h = absurd (let z : ◌≡◌ {A = ℕ} 0 1 = cc in omega arith)
    go false p b q c t h = absurd (let z : ◌≡◌ {A = ℕ} 0 1 = cc in omega arith)
