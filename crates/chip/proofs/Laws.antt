-- A write, a byte at a time; a blank part, a byte at a time; where a write leaves the new bytes as they are; and that AND adds no bit.
-- Assumes nothing.
use Prim.Native.Nat.{ℕ, zero, suc, ◌+◌, ◌*◌, ◌/◌, ◌%◌, ◌^◌, ◌<◌, min}
use native.Mathlib.Nat.{add-zero}
use native.Mathlib.Omega.{arith}
use mathlib.Core.Path.{◌≡◌, refl, sym, ◌∙◌, ap}
use mathlib.Core.Bool.{Bool, true, false, ◌&&◌}
use mathlib.Core.List.{List, [], ◌∷◌, ◌++◌}
use lib.Arith.{bin_ind}
use lib.Bits.{bit_and, and_step, and_comm, and_mask, and_block, and_zero_r, and_self}
use lib.Dec.{eqb}
use lib.ListN.{length, get_or, take, set}
use lib.Seq.{sets, get_or-set_other}
use borrow.Author.Tests.{eq-eqb, eqb-true}
use Rattle.std.specs.Prelude.{fold}
use Rattle.chip.specs.Chip.{Bytes, written, erased, is_blank}
use Rattle.chip.proofs.Runs.{written_run, run_length}

-- A write.

pub length-written : (image : List ℕ) (at : ℕ) (new : List ℕ) → length (written image at new) ≡ length image
length-written = run_length written_run

-- A list of bytes: each below 256.

pub bytes_cons : (b : ℕ) (l : List ℕ) → b < 256 → Bytes l → Bytes (b ∷ l)
bytes_cons b l h t zero = h
bytes_cons b l h t (suc k) = t k

pub bytes_append : (l m : List ℕ) → Bytes l → Bytes m → Bytes (l ++ m)
bytes_append [] m h t = t
bytes_append (b ∷ l) m h t = bytes_cons b (l ++ m) (h 0) (bytes_append l m (λ k. h (suc k)) t)

-- Where the AND of old and new is the new byte at each place, a write stores.

pub written_stores : (image : List ℕ) (at : ℕ) (new : List ℕ)
    → ((k : ℕ) → k < length new → bit_and (get_or image (at + k) 0) (get_or new k 0) ≡ get_or new k 0)
    → written image at new ≡ sets image at new
unfolding written
written_stores image at [] h = refl
written_stores image at (b ∷ new) h =
    let e : bit_and (get_or image at 0) b ≡ b = rw (add-zero at) at (h 0 (omega arith)) in
    rw e
    (written_stores (set image at b) (suc at) new
    (λ k l.
    let s : suc at + k ≡ at + suc k = omega arith in
    let o : get_or (set image at b) (suc at + k) 0 ≡ get_or image (at + suc k) 0 = get_or-set_other image at (suc at + k) b 0 (omega arith) ∙ ap (λ (p : ℕ). get_or image p 0) s in
    ap (λ (x : ℕ). bit_and x (get_or new k 0)) o ∙ h (suc k) (omega arith)))

-- over 255 the AND is the new byte
pub and_blank : (b : ℕ) → b < 256 → bit_and 255 b ≡ b
and_blank b h = let e : b % 2 ^ 8 ≡ b = omega arith in and_comm 255 b ∙ and_mask b 8 ∙ e

-- the AND of a byte and itself without the top bit is the latter
pub and_clear : (b : ℕ) → bit_and b (b % 128) ≡ b % 128
and_clear b =
    let e : b / 128 * 2 ^ 7 + b % 128 ≡ b = omega arith in
    let z : 0 * 2 ^ 7 + b % 128 ≡ b % 128 = omega arith in
    let k = and_block 7 (b / 128) 0 (b % 128) (b % 128) (omega arith) (omega arith) in
    let m : bit_and (b / 128) 0 * 2 ^ 7 + bit_and (b % 128) (b % 128) ≡ b % 128 = rw (and_zero_r, and_self) z in
    (λ i. bit_and (sym e i) (sym z i)) ∙ k ∙ m

-- `bit_and x y ≡ x`: every bit of x is one of y. AND is associative, by induction on the digits, so this goes on from one to the next.

and_three : (a b c : ℕ) → bit_and (bit_and a b) c ≡ bit_and (bit_and (a / 2) (b / 2)) (c / 2) * 2 + min (min (a % 2) (b % 2)) (c % 2)
and_three a b c =
    let half : bit_and a b / 2 ≡ bit_and (a / 2) (b / 2) = omega (arith, and_step a b) in
    let low : bit_and a b % 2 ≡ min (a % 2) (b % 2) = omega (arith, and_step a b) in
    and_step (bit_and a b) c ∙ (λ i. bit_and (half i) (c / 2) * 2 + min (low i) (c % 2))

pub and_assoc : (a b c : ℕ) → bit_and (bit_and a b) c ≡ bit_and a (bit_and b c)
and_assoc =
    bin_ind (λ (a : ℕ). (b c : ℕ) → bit_and (bit_and a b) c ≡ bit_and a (bit_and b c)) (λ b c. refl)
    (λ a ih b c.
    let m : min (min (a % 2) (b % 2)) (c % 2) ≡ min (min (b % 2) (c % 2)) (a % 2) = omega arith in
    let i : bit_and (bit_and (a / 2) (b / 2)) (c / 2) ≡ bit_and (bit_and (b / 2) (c / 2)) (a / 2) = ih (b / 2) (c / 2) ∙ and_comm (a / 2) (bit_and (b / 2) (c / 2)) in
    and_three a b c ∙ (λ j. i j * 2 + m j) ∙ sym (and_three b c a) ∙ and_comm (bit_and b c) a)

pub and_under : (a b : ℕ) → bit_and (bit_and a b) a ≡ bit_and a b
and_under a b = and_comm (bit_and a b) a ∙ sym (and_assoc a a b) ∙ ap (λ (x : ℕ). bit_and x b) (and_self a)

pub under_trans : (x y z : ℕ) → bit_and x y ≡ x → bit_and y z ≡ y → bit_and x z ≡ x
under_trans x y z p q = ap (λ (w : ℕ). bit_and w z) (sym p) ∙ and_assoc x y z ∙ ap (bit_and x) q ∙ p

pub set_under : (l : List ℕ) (i v : ℕ) → bit_and v (get_or l i 0) ≡ v → (k : ℕ) → bit_and (get_or (set l i v) k 0) (get_or l k 0) ≡ get_or (set l i v) k 0
set_under [] i v h k = refl
set_under (x ∷ l) zero v h zero = h
set_under (x ∷ l) zero v h (suc k) = and_self (get_or l k 0)
set_under (x ∷ l) (suc i) v h zero = and_self x
set_under (x ∷ l) (suc i) v h (suc k) = set_under l i v h k

-- A blank part.

pub blank_cons : (b : ℕ) (part : List ℕ) → is_blank (b ∷ part) ≡ true → (b ≡ 255) × (is_blank part ≡ true)
unfolding is_blank
blank_cons b part = go (eqb b 255) refl
  where
    go : (t : Bool) → eqb b 255 ≡ t → (t && is_blank part) ≡ true → (b ≡ 255) × (is_blank part ≡ true)
    go true e h = (eqb-true _ _ e, h)
    go false e h = absurd (let z : ◌≡◌ {A = Bool} true false = sym h in let w : ◌≡◌ {A = ℕ} 0 1 = cc in omega arith)

pub blank_at_lem : (part : List ℕ) → is_blank part ≡ true → (k : ℕ) → k < length part → get_or part k 0 ≡ 255
blank_at_lem [] h k l = absurd (omega arith)
blank_at_lem (b ∷ part) h zero l = (blank_cons b part h).0
blank_at_lem (b ∷ part) h (suc k) l = blank_at_lem part (blank_cons b part h).1 k (omega arith)

pub at_blank : (part : List ℕ) → ((k : ℕ) → k < length part → get_or part k 0 ≡ 255) → is_blank part ≡ true
unfolding is_blank
at_blank [] h = refl
at_blank (b ∷ part) h = rw (eq-eqb b 255 (h 0 (omega arith))) (at_blank part (λ k l. h (suc k) (omega arith)))

pub blank-take : (n : ℕ) (part : List ℕ) → is_blank part ≡ true → is_blank (take n part) ≡ true
unfolding is_blank
blank-take zero part h = refl
blank-take (suc n) [] h = refl
blank-take (suc n) (b ∷ part) h =
    let c = blank_cons b part h in
    rw (eq-eqb b 255 c.0) (blank-take n part c.1)

pub blank_erased : (n : ℕ) → is_blank (erased n) ≡ true
unfolding is_blank
blank_erased zero = refl
blank_erased (suc n) = blank_erased n

-- a part in two: the front decides, or what is behind it does
pub blank_append : (front behind : List ℕ) → is_blank (front ++ behind) ≡ (is_blank front && is_blank behind)
unfolding is_blank
blank_append [] behind = refl
blank_append (b ∷ front) behind = ap (λ (t : Bool). eqb b 255 && t) (blank_append front behind) ∙ nested (eqb b 255) (is_blank front) (is_blank behind)
  where
    nested : (t u v : Bool) → (t && (u && v)) ≡ ((t && u) && v)
    nested true u v = refl
    nested false u v = refl

pub blank_not : (part front behind : List ℕ) → part ≡ front ++ behind → is_blank front ≡ false → false ≡ is_blank part
blank_not part front behind p e = sym (ap is_blank p ∙ blank_append front behind ∙ ap (λ (t : Bool). t && is_blank behind) e)

pub blank_behind : (part front behind : List ℕ) → part ≡ front ++ behind → is_blank front ≡ true → is_blank behind ≡ is_blank part
blank_behind part front behind p e = sym (ap is_blank p ∙ blank_append front behind ∙ ap (λ (t : Bool). t && is_blank behind) e)

pub blank_end : (part : List ℕ) → length part ≡ 0 → true ≡ is_blank part
unfolding is_blank
blank_end [] e = refl
blank_end (b ∷ part) e = absurd (omega arith)

-- each byte in turn, where t is what those before it say
pub blank_folded : (part : List ℕ) (b : Bool) → b ≡ fold (λ (t : Bool) (x : ℕ). t && eqb x 255) true part → b ≡ is_blank part
unfolding is_blank
blank_folded part b e = e ∙ go true part
  where
    none : (part : List ℕ) → fold (λ (t : Bool) (x : ℕ). t && eqb x 255) false part ≡ false
    none [] = refl
    none (x ∷ part) = none part

    go : (t : Bool) (part : List ℕ) → fold (λ (t : Bool) (x : ℕ). t && eqb x 255) t part ≡ (t && is_blank part)
    go true [] = refl
    go true (x ∷ part) = go (eqb x 255) part
    go false part = none part
