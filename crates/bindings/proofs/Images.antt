-- An image of which one region changed: what that does to its live records, and that it stays well-formed.
-- Assumes nothing.
use Prim.Native.Nat.{ℕ, zero, suc, ◌+◌, ◌*◌, ◌≤◌, ◌<◌}
use native.Mathlib.Omega.{arith}
use mathlib.Core.Path.{◌≡◌, refl, sym, ◌∙◌, ap, subst}
use mathlib.Core.Bool.{Bool, true, false}
use mathlib.Core.Logic.{◌⊎◌, inl, inr, ⊎_elim}
use mathlib.Core.List.Memᴰ
use mathlib.Core.List.{List, [], ◌∷◌, Memᴰ}
use lib.Dec.{eqb}
use lib.Bits.{and_le_r}
use lib.ListN.{length, get_or, drop, set}
use lib.Seq.{sets}
use borrow.Author.Tests.{eqb-true, eqb-false}
use Rattle.chip.specs.Chip.{Bytes, written, erased, is_blank}
use Rattle.chip.specs.Geometry.{Shape, Fits, region_of, erase_region}
use Rattle.chip.proofs.Lists.{Every}
use Rattle.chip.proofs.Laws.{bytes_cons}
use Rattle.chip.proofs.Theorems.{write_clears}
use Rattle.chip.proofs.Image.{region_written_same, region_written_other, region_erased_same, region_erased_other, fits_written, fits_erased, erased_regions, fits_blank}
use Rattle.probe.specs.Probe.{allowed_key}
use Rattle.format.specs.declared.Record.{Record}
use Rattle.region.specs.declared.Stop.{Stop}
use Rattle.format.specs.Layout.{live}
use Rattle.region.specs.Walk.{View, records, bytes_in}
use Rattle.format.proofs.Numbers.{no_bytes}
use Rattle.region.proofs.Theorems.{blank_region}
use Rattle.pinned.proofs.Swept.{every_member}
use Rattle.bindings.specs.WellFormed.{Stored, Live, WellFormed}
use Rattle.bindings.proofs.Sound.{Sound, sound_blank}

pub same_or_not : (q r : ℕ) → (q ≡ r) ⊎ (q ≡ r → ⊥)
same_or_not q r = go (eqb q r) refl
  where
    go : (b : Bool) → eqb q r ≡ b → (q ≡ r) ⊎ (q ≡ r → ⊥)
    go true e = inl (eqb-true q r e)
    go false e = inr (eqb-false q r e)

-- Region by region.

pub every_of : {A : Type 0} {P : A → Type 0} (xs : List A) → ((x : A) → Memᴰ x xs → P x) → Every P xs
every_of [] h = Every.none
every_of (x ∷ xs) h = Every.also (h x (Memᴰ.head refl)) (every_of xs (λ y m. h y (Memᴰ.tail m)))

pub sound_region : {s n : ℕ} {image : List ℕ} → WellFormed s n image → (r : ℕ) → r < n → Sound (region_of s image r)
sound_region {s} {n} {image} w r h =
    let (o, e) = w.no_bad r h in
    record {
      end = o;
      ends = e;
      good = every_of (records (region_of s image r)) (λ x m. record {
        flags = w.flags r x (record { number = h; member = m });
        length_most = w.lengths r x (record { number = h; member = m });
        sum = λ l. w.sums r x (record { stored = record { number = h; member = m }; alive = l });
      });
      tail = w.tails r o h e;
    }

-- the clauses that speak of two records, or of keys
pub record Keyed (s n : ℕ) (image : List ℕ) : Type 0 where
  pub keys : (r : ℕ) (x : Record) → Live s n image r x → allowed_key x.key ≡ true
  pub once : (r q : ℕ) (x y : Record) → Live s n image r x → Live s n image q y → x.key ≡ y.key → (r ≡ q) × (x ≡ y)

end_same : {t : Stop} {o p : ℕ} → t ≡ Stop.End o → t ≡ Stop.End p → o ≡ p
end_same a b = cc

pub from_regions : {s n : ℕ} {image : List ℕ} → Fits image s n → Bytes image → ((r : ℕ) → r < n → Sound (region_of s image r)) → Keyed s n image → WellFormed s n image
from_regions {s} {n} {image} f v sound k = record {
  fits = f;
  bytes = v;
  no_bad = λ r h. ((sound r h).end, (sound r h).ends);
  flags = λ r x t. (every_member (sound r t.number).good t.member).flags;
  lengths = λ r x t. (every_member (sound r t.number).good t.member).length_most;
  tails = λ r o h e. subst (λ (p : ℕ). is_blank (drop p (region_of s image r)) ≡ true) (end_same (sound r h).ends e) (sound r h).tail;
  sums = λ r x l. (every_member (sound r l.stored.number).good l.stored.member).sum l.alive;
  keys = k.keys;
  once = k.once;
}

-- Bytes: a write ANDs, and an erase gives 255.

set_bytes : (image : List ℕ) (at b : ℕ) → Bytes image → b < 256 → Bytes (set image at b)
set_bytes [] at b v h = v
set_bytes (x ∷ image) zero b v h = bytes_cons b image h (λ k. v (suc k))
set_bytes (x ∷ image) (suc at) b v h = bytes_cons x (set image at b) (v 0) (set_bytes image at b (λ k. v (suc k)) h)

written_bytes : (image : List ℕ) (at : ℕ) (new : List ℕ) → Bytes image → Bytes (written image at new)
written_bytes image at new v k = omega (arith, write_clears image at new k, and_le_r (get_or (written image at new) k 0) (get_or image k 0), v k)

sets_bytes : (image : List ℕ) (at : ℕ) (new : List ℕ) → Bytes image → Bytes new → Bytes (sets image at new)
sets_bytes image at [] v h = v
sets_bytes image at (b ∷ new) v h = sets_bytes (set image at b) (suc at) new (set_bytes image at b v (h 0)) (λ k. h (suc k))

erased_bytes : (size : ℕ) → Bytes (erased size)
erased_bytes zero = no_bytes
erased_bytes (suc size) = bytes_cons 255 (erased size) (omega arith) (erased_bytes size)

-- One region changed.

pub record Changed (s n : ℕ) (image image' : List ℕ) (r : ℕ) (region' : List ℕ) : Type 0 where
  pub fits : Fits image' s n
  pub bytes : Bytes image'
  pub number : r < n
  pub this : region_of s image' r ≡ region'
  pub others : (q : ℕ) → (q ≡ r → ⊥) → region_of s image' q ≡ region_of s image q

pub write_changes : {s n : ℕ} {image : List ℕ} (r o : ℕ) (b : List ℕ) → Fits image s n → Bytes image → r < n → o + length b ≤ s
    → Changed s n image (written image (r * s + o) b) r (written (region_of s image r) o b)
write_changes {s} {n} {image} r o b f v h l = record {
  fits = fits_written f (r * s + o) b;
  bytes = written_bytes image (r * s + o) b v;
  number = h;
  this = region_written_same s r image o b l;
  others = region_written_other s r image o b l;
}

pub erase_changes : {s n : ℕ} {image : List ℕ} (r : ℕ) → Fits image s n → Bytes image → r < n → Changed s n image (erase_region s r image) r (erased s)
erase_changes {s} {n} {image} r f v h = record {
  fits = fits_erased f r;
  bytes = sets_bytes image (r * s) (erased s) v (erased_bytes s);
  number = h;
  this = region_erased_same f h;
  others = region_erased_other s r image;
}

-- What a change does to the live records of its region: those that are new, and those that are gone. All others keep their bytes.
pub record Effect (region' region : List ℕ) (New Gone : Record → Type 0) : Type 0 where
  pub from : (x : Record) → Memᴰ x (records region') → live x ≡ true → (Memᴰ x (records region) × (bytes_in region' x ≡ bytes_in region x) × (Gone x → ⊥)) ⊎ New x
  pub to : (x : Record) → Memᴰ x (records region) → live x ≡ true → (Gone x → ⊥) → Memᴰ x (records region') × (bytes_in region' x ≡ bytes_in region x)
  pub new : (x : Record) → New x → Memᴰ x (records region') × (live x ≡ true)

module _ {s n : ℕ} {image image' : List ℕ} {r : ℕ} {region' : List ℕ} {New Gone : Record → Type 0}
    (c : Changed s n image image' r region') (e : Effect region' (region_of s image r) New Gone) where
  -- a live record afterwards was live before, with the same bytes, or is new
  pub live_before : (q : ℕ) (x : Record) → Live s n image' q x
      → (Live s n image q x × (bytes_in (region_of s image' q) x ≡ bytes_in (region_of s image q) x) × (q ≡ r → Gone x → ⊥)) ⊎ ((q ≡ r) × New x)
  live_before q x l = ⊎_elim here there (same_or_not q r)
    where
      there : (q ≡ r → ⊥) → (Live s n image q x × (bytes_in (region_of s image' q) x ≡ bytes_in (region_of s image q) x) × (q ≡ r → Gone x → ⊥)) ⊎ ((q ≡ r) × New x)
      there d =
          let same = c.others q d in
          inl (record { stored = record { number = l.stored.number; member = subst (λ (t : List ℕ). Memᴰ x (records t)) same l.stored.member }; alive = l.alive }, ap (λ (t : List ℕ). bytes_in t x) same, λ p. absurd (d p))

      here : q ≡ r → (Live s n image q x × (bytes_in (region_of s image' q) x ≡ bytes_in (region_of s image q) x) × (q ≡ r → Gone x → ⊥)) ⊎ ((q ≡ r) × New x)
      here p =
          let same : region_of s image' q ≡ region' = ap (region_of s image') p ∙ c.this in
          let back : region_of s image r ≡ region_of s image q = ap (region_of s image) (sym p) in
          ⊎_elim
          (λ k. inl (record { stored = record { number = l.stored.number; member = subst (λ (t : List ℕ). Memᴰ x (records t)) back k.0 }; alive = l.alive }, ap (λ (t : List ℕ). bytes_in t x) same ∙ k.1 ∙ ap (λ (t : List ℕ). bytes_in t x) back, λ _. k.2))
          (λ w. inr (p, w))
          (e.from x (subst (λ (t : List ℕ). Memᴰ x (records t)) same l.stored.member) l.alive)

  -- a live record before is live afterwards, with the same bytes, unless it is gone
  pub live_after : (q : ℕ) (x : Record) → Live s n image q x → (q ≡ r → Gone x → ⊥) → Live s n image' q x × (bytes_in (region_of s image' q) x ≡ bytes_in (region_of s image q) x)
  live_after q x l g = ⊎_elim here there (same_or_not q r)
    where
      there : (q ≡ r → ⊥) → Live s n image' q x × (bytes_in (region_of s image' q) x ≡ bytes_in (region_of s image q) x)
      there d =
          let same = c.others q d in
          (record { stored = record { number = l.stored.number; member = subst (λ (t : List ℕ). Memᴰ x (records t)) (sym same) l.stored.member }; alive = l.alive }, ap (λ (t : List ℕ). bytes_in t x) same)

      here : q ≡ r → Live s n image' q x × (bytes_in (region_of s image' q) x ≡ bytes_in (region_of s image q) x)
      here p =
          let same : region_of s image' q ≡ region' = ap (region_of s image') p ∙ c.this in
          let back : region_of s image r ≡ region_of s image q = ap (region_of s image) (sym p) in
          let k = e.to x (subst (λ (t : List ℕ). Memᴰ x (records t)) (sym back) l.stored.member) l.alive (g p) in
          (record { stored = record { number = l.stored.number; member = subst (λ (t : List ℕ). Memᴰ x (records t)) (sym same) k.0 }; alive = l.alive }, ap (λ (t : List ℕ). bytes_in t x) same ∙ k.1 ∙ ap (λ (t : List ℕ). bytes_in t x) back)

  pub live_new : (x : Record) → New x → Live s n image' r x
  live_new x w =
      let (m, l) = e.new x w in
      record { stored = record { number = c.number; member = subst (λ (t : List ℕ). Memᴰ x (records t)) (sym c.this) m }; alive = l }

  -- the image stays well-formed where the region is sound, and a new record's key is allowed and was not there
  pub well_formed_after : WellFormed s n image → Sound region' → ((x : Record) → New x → allowed_key x.key ≡ true)
      → ((x y : Record) → New x → New y → x ≡ y) → ((x y : Record) (q : ℕ) → New x → Live s n image q y → x.key ≡ y.key → ⊥) → WellFormed s n image'
  well_formed_after w sound allowed single fresh = from_regions c.fits c.bytes regions (record { keys = keys; once = once })
    where
      regions : (q : ℕ) → q < n → Sound (region_of s image' q)
      regions q h = ⊎_elim (λ p. subst Sound (sym (ap (region_of s image') p ∙ c.this)) sound) (λ d. subst Sound (sym (c.others q d)) (sound_region w q h)) (same_or_not q r)

      keys : (q : ℕ) (x : Record) → Live s n image' q x → allowed_key x.key ≡ true
      keys q x l = ⊎_elim (λ k. w.keys q x k.0) (λ k. allowed x k.1) (live_before q x l)

      once : (p q : ℕ) (x y : Record) → Live s n image' p x → Live s n image' q y → x.key ≡ y.key → (p ≡ q) × (x ≡ y)
      once p q x y a b k =
          ⊎_elim
          (λ old. ⊎_elim (λ old'. w.once p q x y old.0 old'.0 k) (λ new'. absurd (fresh y x p new'.1 old.0 (sym k))) (live_before q y b))
          (λ new. ⊎_elim (λ old'. absurd (fresh x y q new.1 old'.0 k)) (λ new'. (new.0 ∙ sym new'.0, single x y new.1 new'.1)) (live_before q y b))
          (live_before p x a)

-- A blank image is well-formed, and has no live record.

pub blank_not_stored : (s n r : ℕ) (x : Record) → Stored s n (erased (n * s)) r x → ⊥
blank_not_stored s n r x t = Memᴰ.not-nil (subst (λ (l : List Record). Memᴰ x l) (ap records (erased_regions s t.number) ∙ ap (λ (v : View). v.recs) (blank_region s)) t.member)

pub blank_well_formed : {s n : ℕ} → Shape s n → WellFormed s n (erased (n * s))
blank_well_formed {s} {n} h =
    from_regions (fits_blank h) (erased_bytes (n * s)) (λ r l. subst Sound (sym (erased_regions s l)) (sound_blank s))
    (record { keys = λ r x l. absurd (blank_not_stored s n r x l.stored); once = λ r q x y l m k. absurd (blank_not_stored s n r x l.stored) })
