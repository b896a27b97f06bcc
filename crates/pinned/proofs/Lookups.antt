-- A lookup's ends and the first room, in the words of specs/Words.antt: one induction over the lookup's turns gives the case, one over the regions
-- passed gives the way back.
-- Assumes nothing.
use Prim.Native.Nat.{ℕ, ◌+◌, ◌*◌, ◌<◌}
use native.Mathlib.Omega.{arith}
use mathlib.Core.Path.{◌≡◌, refl, sym, ◌∙◌, ap}
use mathlib.Core.Bool.{Bool, true, false, cond}
use mathlib.Core.List.Memᴰ
use mathlib.Core.List.{List, [], ◌∷◌, ◌++◌, append-nil, Memᴰ}
use mathlib.Core.Logic.{◌↔◌, ⊎_elim}
use lib.Dec.{leb}
use lib.ListN.{length, take, drop}
use borrow.Author.Tests.{le-leb, leb-true, leb-false}
use Rattle.std.specs.Prelude.{Option, None}
use Rattle.chip.specs.Chip.{is_blank}
use Rattle.chip.specs.Geometry.{region_of}
use Rattle.format.specs.declared.Record.{Record}
use Rattle.format.specs.declared.Fault.{Fault}
use Rattle.region.specs.declared.Stop.{Stop}
use Rattle.region.specs.declared.Want.{Want}
use Rattle.region.specs.declared.Event.{Event}
use Rattle.region.specs.Walk.{ending, event_in}
use Rattle.lookup.specs.declared.Room.{Room}
use Rattle.lookup.specs.declared.Seen.{Seen}
use Rattle.lookup.specs.declared.Looked.{Looked}
use Rattle.lookup.specs.Gather.{unseen, or_room, some_room}
use Rattle.lookup.specs.Turns.{turn, lookup_in}
use Rattle.lookup.specs.Words.{room_on, first_room, goes_on, Passed}
use Rattle.lookup.proofs.Scan.{Looks, looks_so, looks_is, same_room}
use Rattle.pinned.specs.Words.{Decides, HasRoom, FirstRoom}

module _ (image : List ℕ) (s key : ℕ) where
  -- A region is passed where the walk for the key comes to the end.
  pub end_passed : (q : ℕ) {o : ℕ} → event_in (region_of s image q) (Want.Key key) ≡ Event.End o → Passed image s key q
  end_passed q e = ap (λ (t : Event). goes_on (turn unseen None q (region_of s image q) t)) e

  pub passed_end : (q : ℕ) → Passed image s key q → (o : ℕ) × (event_in (region_of s image q) (Want.Key key) ≡ Event.End o)
  passed_end q h = go (event_in (region_of s image q) (Want.Key key)) h
    where
      go : (e : Event) → goes_on (turn unseen None q (region_of s image q) e) ≡ true → (o : ℕ) × (e ≡ Event.End o)
      go (Event.Live x) h = absurd (let z : ◌≡◌ {A = ℕ} 0 1 = cc in omega arith)
      go (Event.Bad f o) h = absurd (let z : ◌≡◌ {A = ℕ} 0 1 = cc in omega arith)
      go (Event.End o) h = (o, refl)

  abbrev AllPassed : List ℕ → Type 0
  AllPassed order = (q : ℕ) → Memᴰ q order → Passed image s key q

  -- From the turns to the words.

  data Ends (order : List ℕ) : Looked → Type 0 where
    live : {r : ℕ} {x : Record} → Decides image s key order r (Event.Live x) → Ends order (Looked.Live r x)
    bad : {r o : ℕ} {f : Fault} → Decides image s key order r (Event.Bad f o) → Ends order (Looked.Bad f (r * length (region_of s image r) + o))
    through : {seen : Seen} → AllPassed order → Ends order (Looked.Through seen)

  first : {q : ℕ} {rs : List ℕ} {e : Event} → event_in (region_of s image q) (Want.Key key) ≡ e → Decides image s key (q ∷ rs) q e
  first {rs = rs} e = record { before = []; after = rs; split = refl; passed = λ p m. absurd (Memᴰ.not-nil m); here = e }

  with_one : {q : ℕ} {rs : List ℕ} → Passed image s key q → AllPassed rs → AllPassed (q ∷ rs)
  with_one {q} h k p m = ⊎_elim (λ (e : p ≡ q). rw e h) (k p) (Memᴰ.cases_cons m)

  later : {q r : ℕ} {rs : List ℕ} {e : Event} → Passed image s key q → Decides image s key rs r e → Decides image s key (q ∷ rs) r e
  later {q} h d = record { before = q ∷ d.before; after = d.after; split = ap (λ (l : List ℕ). q ∷ l) d.split; passed = with_one h d.passed; here = d.here }

  onward : {q : ℕ} {rs : List ℕ} {l : Looked} → Passed image s key q → Ends rs l → Ends (q ∷ rs) l
  onward h (live d) = live (later h d)
  onward h (bad d) = bad (later h d)
  onward h (through k) = through (with_one h k)

  ends : {need : Option ℕ} {seen : Seen} {order : List ℕ} {l : Looked} → Looks key need s image seen order l → Ends order l
  ends Looks.over = through (λ q m. absurd (Memᴰ.not-nil m))
  ends (Looks.live e) = live (first e)
  ends (Looks.bad e) = bad (first e)
  ends (Looks.more {r = q} e rest) = onward (end_passed q e) (ends rest)

  -- And back.

  past : (need : Option ℕ) (before rs : List ℕ) {l : Looked} → AllPassed before → ((seen : Seen) → Looks key need s image seen rs l) → (seen : Seen) → Looks key need s image seen (before ++ rs) l
  past need [] rs h looks seen = looks seen
  past need (q ∷ before) rs h looks seen = let (o, e) = passed_end q (h q (Memᴰ.head refl)) in Looks.more e (past need before rs (λ p m. h p (Memᴰ.tail m)) looks _)

  decided : (need : Option ℕ) {order : List ℕ} {r : ℕ} {e : Event} {l : Looked} (d : Decides image s key order r e)
      → ((seen : Seen) → Looks key need s image seen (r ∷ d.after) l) → lookup_in key need s image order ≡ l
  decided need {r = r} d looks = ap (lookup_in key need s image) d.split ∙ looks_is key need s image (past need d.before (r ∷ d.after) d.passed looks unseen)

  all_through : (need : Option ℕ) (order : List ℕ) (seen : Seen) → AllPassed order → (got : Seen) × Looks key need s image seen order (Looked.Through got)
  all_through need [] seen h = (seen, Looks.over)
  all_through need (q ∷ rs) seen h =
      let (o, e) = passed_end q (h q (Memᴰ.head refl)) in
      let (got, rest) = all_through need rs _ (λ p m. h p (Memᴰ.tail m)) in
      (got, Looks.more e rest)

  module _ (need : Option ℕ) (order : List ℕ) where
    pub live_is : (r : ℕ) (x : Record) → (lookup_in key need s image order ≡ Looked.Live r x) ↔ Decides image s key order r (Event.Live x)
    live_is r x = (λ h. go (ends (looks_so key need s image h)), λ d. decided need d (λ seen. Looks.live d.here))
      where
        go : Ends order (Looked.Live r x) → Decides image s key order r (Event.Live x)
        go (live d) = d

    pub bad_is : (f : Fault) (p : ℕ)
        → (lookup_in key need s image order ≡ Looked.Bad f p)
        ↔ ((r : ℕ) × (o : ℕ) × (r * length (region_of s image r) + o ≡ p) × Decides image s key order r (Event.Bad f o))
    bad_is f p = (λ h. go (ends (looks_so key need s image h)) refl, λ (r, o, e, d). decided need d (λ seen. Looks.bad d.here) ∙ ap (Looked.Bad f) e)
      where
        go : {l : Looked} → Ends order l → l ≡ Looked.Bad f p → (r : ℕ) × (o : ℕ) × (r * length (region_of s image r) + o ≡ p) × Decides image s key order r (Event.Bad f o)
        go (live d) h = absurd (let z : ◌≡◌ {A = ℕ} 0 1 = cc in omega arith)
        go (bad {r = r} {o = o} {f = g} d) h =
            let a : f ≡ g = cc in
            let b : r * length (region_of s image r) + o ≡ p = cc in
            (r, o, b, rw a d)
        go (through k) h = absurd (let z : ◌≡◌ {A = ℕ} 0 1 = cc in omega arith)

    pub through_is : ((seen : Seen) × (lookup_in key need s image order ≡ Looked.Through seen)) ↔ AllPassed order
    through_is = (λ (seen, h). go (ends (looks_so key need s image h)), λ k. let (got, t) = all_through need order unseen k in (got, looks_is key need s image t))
      where
        go : {seen : Seen} → Ends order (Looked.Through seen) → AllPassed order
        go (through k) = k

-- The first room.
module _ (image : List ℕ) (s len : ℕ) where
  abbrev is_blank_at : ℕ → ℕ → Bool
  is_blank_at r o = is_blank (take len (drop o (region_of s image r)))

  no_room_here : (q : ℕ) (rs : List ℕ) → ((p : ℕ) → HasRoom image s len q p → ⊥) → first_room len s image (q ∷ rs) ≡ first_room len s image rs
  unfolding first_room
  no_room_here q rs h = go (ending (region_of s image q)) refl
    where
      fits : (p : ℕ) → ending (region_of s image q) ≡ Stop.End p → (b : Bool) → leb (p + len) (length (region_of s image q)) ≡ b
          → or_room (cond b (some_room q p (is_blank_at q p)) None) (first_room len s image rs) ≡ first_room len s image rs
      fits p e true t = absurd (h p (record { ends = e; enough = leb-true _ _ t }))
      fits p e false t = refl

      go : (stop : Stop) → ending (region_of s image q) ≡ stop → or_room (room_on len q (region_of s image q) stop) (first_room len s image rs) ≡ first_room len s image rs
      go (Stop.End p) e = fits p e (leb (p + len) (length (region_of s image q))) refl
      go (Stop.Bad f p) e = refl

  no_room_in : (before rs : List ℕ) → ((q p : ℕ) → Memᴰ q before → HasRoom image s len q p → ⊥) → first_room len s image (before ++ rs) ≡ first_room len s image rs
  no_room_in [] rs h = refl
  no_room_in (q ∷ before) rs h =
      no_room_here q (before ++ rs) (λ p. h q p (Memᴰ.head refl)) ∙ no_room_in before rs (λ q p m. h q p (Memᴰ.tail m))

  room_here : {r o : ℕ} (rs : List ℕ) → HasRoom image s len r o → first_room len s image (r ∷ rs) ≡ some_room r o (is_blank_at r o)
  unfolding first_room
  room_here {r} {o} rs h =
      ap (λ (stop : Stop). or_room (room_on len r (region_of s image r) stop) (first_room len s image rs)) h.ends
      ∙ rw (le-leb (o + len) (length (region_of s image r)) h.enough)

  first_is : {order : List ℕ} {r o : ℕ} → FirstRoom image s len order r o → first_room len s image order ≡ some_room r o (is_blank_at r o)
  first_is {r = r} f = ap (first_room len s image) f.split ∙ no_room_in f.before (r ∷ f.after) f.passed ∙ room_here f.after f.here

  data Rooms (order : List ℕ) : Option Room → Type 0 where
    at : {r o : ℕ} → FirstRoom image s len order r o → Rooms order (some_room r o (is_blank_at r o))
    nowhere : ((q p : ℕ) → Memᴰ q order → HasRoom image s len q p → ⊥) → Rooms order None

  rooms : (order : List ℕ) → Rooms order (first_room len s image order)
  unfolding first_room
  rooms [] = nowhere (λ q p m h. Memᴰ.not-nil m)
  rooms (q ∷ rs) = go (ending (region_of s image q)) refl (rooms rs)
    where
      with_one : {ps : List ℕ} → ((p : ℕ) → HasRoom image s len q p → ⊥) → ((r p : ℕ) → Memᴰ r ps → HasRoom image s len r p → ⊥)
          → (r p : ℕ) → Memᴰ r (q ∷ ps) → HasRoom image s len r p → ⊥
      with_one h k r p m has = ⊎_elim (λ (e : r ≡ q). h p (rw (sym e) has)) (λ t. k r p t has) (Memᴰ.cases_cons m)

      onward : {room : Option Room} → ((p : ℕ) → HasRoom image s len q p → ⊥) → Rooms rs room → Rooms (q ∷ rs) room
      onward h (at f) = at (record { before = q ∷ f.before; after = f.after; split = ap (λ (l : List ℕ). q ∷ l) f.split; passed = with_one h f.passed; here = f.here })
      onward h (nowhere k) = nowhere (with_one h k)

      fits : (p : ℕ) → ending (region_of s image q) ≡ Stop.End p → (b : Bool) → leb (p + len) (length (region_of s image q)) ≡ b → Rooms rs (first_room len s image rs)
          → Rooms (q ∷ rs) (or_room (cond b (some_room q p (is_blank_at q p)) None) (first_room len s image rs))
      fits p e true t ih =
          at (record { before = []; after = rs; split = refl; passed = λ r o m h. Memᴰ.not-nil m; here = record { ends = e; enough = leb-true _ _ t } })
      fits p e false t ih =
          onward
          (λ o h.
          let same : o ≡ p = let a = h.ends in cc in
          let more : length (region_of s image q) < p + len = leb-false _ _ t in
          let l = h.enough in
          omega arith)
          ih

      go : (stop : Stop) → ending (region_of s image q) ≡ stop → Rooms rs (first_room len s image rs)
          → Rooms (q ∷ rs) (or_room (room_on len q (region_of s image q) stop) (first_room len s image rs))
      go (Stop.End p) e ih = fits p e (leb (p + len) (length (region_of s image q))) refl ih
      go (Stop.Bad f p) e ih = onward (λ o h. let a = h.ends in let z : ◌≡◌ {A = ℕ} 0 1 = cc in omega arith) ih

  pub room_at : (order : List ℕ) (r o : ℕ) (blank : Bool) → (first_room len s image order ≡ some_room r o blank) ↔ (FirstRoom image s len order r o × (blank ≡ is_blank_at r o))
  room_at order r o blank = (λ h. go (rooms order) h, λ (f, e). first_is f ∙ ap (some_room r o) (sym e))
    where
      go : {room : Option Room} → Rooms order room → room ≡ some_room r o blank → FirstRoom image s len order r o × (blank ≡ is_blank_at r o)
      go (at {r = q} {o = p} f) h =
          let (a, b, c) = same_room (sym h) in
          rw (a, b) (f, c)
      go (nowhere k) h = absurd (let z : ◌≡◌ {A = ℕ} 0 1 = cc in omega arith)

  pub room_nowhere : (order : List ℕ) → (first_room len s image order ≡ None) ↔ ((q p : ℕ) → Memᴰ q order → HasRoom image s len q p → ⊥)
  unfolding first_room
  room_nowhere order = (λ h. go (rooms order) h, λ k. ap (first_room len s image) (sym (append-nil order)) ∙ no_room_in order [] k)
    where
      go : {room : Option Room} → Rooms order room → room ≡ None → (q p : ℕ) → Memᴰ q order → HasRoom image s len q p → ⊥
      go (at f) h = absurd (let z : ◌≡◌ {A = ℕ} 0 1 = cc in omega arith)
      go (nowhere k) h = k
