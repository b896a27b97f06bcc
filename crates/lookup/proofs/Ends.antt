-- What a lookup's end says: where it is no live record, where it is one, and where there is room.
-- Assumes nothing.
use Prim.Native.Nat.{ℕ, ◌+◌, ◌*◌, ◌^◌, ◌≤◌, ◌<◌}
use native.Mathlib.Omega.{arith}
use mathlib.Core.Path.{◌≡◌, refl, sym, ◌∙◌, ap}
use mathlib.Core.Bool.{Bool}
use mathlib.Core.List.{List}
use lib.ListN.{length, take, drop}
use Rattle.lookup.specs.Gather.{some_room}
use Rattle.std.specs.Prelude.{Result, Ok, Err, Some, None}
use Rattle.chip.specs.Geometry.{Fits, region_of}
use Rattle.chip.specs.Chip.{is_blank}
use Rattle.chip.proofs.Image.{place_small, region_inside, region-length}
use Rattle.probe.specs.Probe.{probes}
use Rattle.probe.proofs.Theorems.{members}
use Rattle.format.specs.declared.Record.{Record}
use Rattle.lookup.specs.declared.Seen.{Seen}
use Rattle.lookup.specs.declared.Looked.{Looked}
use Rattle.lookup.specs.declared.Hit.{Hit}
use Rattle.refusals.specs.Refusals.{first_refusal}
use Rattle.lookup.specs.Turns.{lookup_in, hit_by, hit_after, hit_of, hits}
use Rattle.lookup.proofs.Scan.{Found, found, fine, gathered_first, room_from}
use Rattle.refusals.specs.declared.Refusal.{Refusal}

-- A live record that was found: the image is allowed, and the record lies in it.
pub record Held (image : List ℕ) (s n key r : ℕ) (x : Record) : Type 0 where
  pub fit : Fits image s n
  pub found : Found image s n key r x
  pub inside : r * s + s ≤ length image
  pub small : length image < 2 ^ 32
  pub size : length (region_of s image r) ≡ s

held_of : {image : List ℕ} {s n key r : ℕ} {x : Record} → Fits image s n → Found image s n key r x → Held image s n key r x
held_of f o = record { fit = f; found = o; inside = region_inside f o.number; small = place_small f; size = region-length f o.number }

pub held : (image : List ℕ) (s n key r : ℕ) (x : Record) → hit_of image s n key ≡ hits r x → Held image s n key r x
unfolding hit_of
held image s n key r x h = check (first_refusal image s n key 0) refl h
  where
    look : Fits image s n → (l : Looked) → lookup_in key None s image (probes key n) ≡ l → hit_by l ≡ hits r x → Held image s n key r x
    look f (Looked.Live q y) e h = held_of f (found key None r x f (e ∙ (let same : ◌≡◌ {A = Hit} (record { region = q; rec = y }) (record { region = r; rec = x }) = cc in ap (λ (t : Hit). Looked.Live t.region t.rec) same)))
    look f (Looked.Bad g p) e h = absurd (let z : ◌≡◌ {A = ℕ} 0 1 = cc in omega arith)
    look f (Looked.Through seen) e h = absurd (let z : ◌≡◌ {A = ℕ} 0 1 = cc in omega arith)

    check : (c : Result (Unit {0}) Refusal) → first_refusal image s n key 0 ≡ c → hit_after image s n key c ≡ hits r x → Held image s n key r x
    check (Err w) e h = absurd (let z : ◌≡◌ {A = ℕ} 0 1 = cc in omega arith)
    check (Ok u) e h = look (fine image s n key 0 e).0 (lookup_in key None s image (probes key n)) refl h

-- Append's place lies in the image.
pub record Placed (image : List ℕ) (s n len r o : ℕ) : Type 0 where
  pub fit : Fits image s n
  pub number : r < n
  pub inside : r * s + s ≤ length image
  pub small : length image < 2 ^ 32
  pub size : length (region_of s image r) ≡ s
  pub enough : o + len ≤ s

pub placed_at : (image : List ℕ) (s n key len r o : ℕ) (blank : Bool) (seen : Seen) → Fits image s n
    → lookup_in key (Some len) s image (probes key n) ≡ Looked.Through seen → seen.room ≡ some_room r o blank
    → Placed image s n len r o × (blank ≡ is_blank (take len (drop o (region_of s image r))))
placed_at image s n key len r o blank seen f h e =
    let (m, y) = room_from len s image (probes key n) r o blank (sym (gathered_first key len s image (probes key n) h) ∙ e) in
    let number = (members key n r f.shape.n_least).1 m in
    let size = region-length f number in (
      record { fit = f; number = number; inside = region_inside f number; small = place_small f; size = size; enough = rw size at y.enough },
      y.blankness,
    )
