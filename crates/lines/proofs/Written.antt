-- The digits that are put are the definitions', how long the lines are, and runs of bytes that are put one behind the other.
-- Assumes nothing.
use Prim.Native.Nat.{ℕ, zero, suc, ◌+◌, ◌-◌, ◌/◌, ◌%◌, ◌^◌, ◌≤◌, ◌<◌}
use native.Mathlib.Nat.{one-le-pow, pow-le-pow_right}
use native.Mathlib.Omega.{arith}
use mathlib.Core.Bool.{Bool, true, false, cond}
use mathlib.Core.Path.{◌≡◌, refl, sym, ◌∙◌, ap, subst}
use mathlib.Core.List.{List, [], ◌∷◌, ◌++◌, append_assoc}
use lib.Dec.{ltb, leb}
use lib.ListN.{length, take, length-append}
use lib.Seq.{sets, length-sets}
use borrow.Author.Tests.{ltb-true, ltb-false, leb-true, leb-false, lt-ltb}
use Rattle.io.specs.Digits.{last_digits, hex_digit_ascii, IsDigitCount}
use Rattle.chip.proofs.Lists.{sets-append}
use Rattle.format.specs.declared.Record.{Record}
use Rattle.format.specs.Layout.{live}
use Rattle.region.specs.Walk.{value_length}
use Rattle.lines.specs.declared.Page.{Page}
use Rattle.lines.specs.Pages.{HasRoom, Puts}
use Rattle.lines.specs.Text.{decimal_in, decimal, field, state, key_field, line_of, bad_line}

-- Digits.

suc_sub_one : (k : ℕ) → suc k - 1 ≡ k
suc_sub_one k = omega arith

digit : (d : ℕ) → d < 10 → hex_digit_ascii d ≡ 48 + d
digit d h = rw (lt-ltb d 10 h)

-- one digit, or those of a tenth and one behind them
step : (b : Bool) (k j n : ℕ) → ltb n 10 ≡ b → IsDigitCount 10 1 n (suc k) → (10 ≤ n → IsDigitCount 10 1 (n / 10) k → last_digits 10 k (n / 10) ≡ decimal_in j (n / 10))
    → last_digits 10 (suc k) n ≡ cond b ((48 + n) ∷ []) (decimal_in j (n / 10) ++ ((48 + n % 10) ∷ []))
step true zero j n e f more =
    let h : n < 10 = ltb-true n 10 e in
    let m : n % 10 ≡ n = omega arith in
    rw (digit (n % 10) (omega arith), m)
step true (suc k) j n e f more =
    let h : n < 10 = ltb-true n 10 e in
    let p : 10 ^ suc k ≤ n = rw suc_sub_one at (f.2 (omega arith)) in
    absurd (omega (arith, one-le-pow k 10 (omega arith)))
step false zero j n e f more =
    let h : 10 ≤ n = ltb-false n 10 e in
    let p : n < 10 ^ 1 = f.1 in
    absurd (omega arith)
step false (suc k) j n e f more =
    let a : n < 10 ^ suc (suc k) = f.1 in
    let b : 10 ^ suc k ≤ n = rw suc_sub_one at (f.2 (omega arith)) in
    let ih = more (ltb-false n 10 e) (omega arith, omega arith, λ l. rw suc_sub_one (omega arith)) in
    (λ i. ih i ++ (digit (n % 10) (omega arith) i ∷ []))

-- the fewest digits in base 10 are those of the definition, in any number of them that is enough
digits_in : (k j n : ℕ) → IsDigitCount 10 1 n k → n < j → last_digits 10 k n ≡ decimal_in j n
unfolding decimal_in
digits_in zero j n f h = absurd (omega (arith, f.0))
digits_in (suc k) zero n f h = absurd (omega arith)
digits_in (suc k) (suc j) n f h = step (ltb n 10) k j n refl f (λ l g. digits_in k j (n / 10) g (omega arith))

pub decimal_digits : (k n : ℕ) → IsDigitCount 10 1 n k → last_digits 10 k n ≡ decimal n
decimal_digits k n f = digits_in k (suc n) n f (omega arith)

-- a key is below 16 to the 16th, so that its digits are 16
pub sixteen : (key k : ℕ) → key < 18446744073709551616 → IsDigitCount 16 16 key k → k ≡ 16
sixteen key k h f = go (leb k 16) refl
  where
    go : (b : Bool) → leb k 16 ≡ b → k ≡ 16
    go true e = omega (arith, f.0, leb-true k 16 e)
    go false e =
        let l : 16 < k = leb-false k 16 e in
        let p : 16 ^ 16 ≤ 16 ^ (k - 1) = pow-le-pow_right (omega arith) {i = 16} {j = k - 1} (omega arith) in
        absurd (omega (arith, f.2 l))

-- a number below a power of ten has no more digits than the power has zeros
pub decimal-length : (k j n : ℕ) → n < 10 ^ suc k → length (decimal_in j n) ≤ suc k
unfolding decimal_in
decimal-length k zero n h = omega arith
decimal-length zero (suc j) n h = rw (lt-ltb n 10 (omega arith)) (omega arith)
decimal-length (suc k) (suc j) n h = go (ltb n 10) (decimal-length k j (n / 10) (omega arith))
  where
    go : (b : Bool) → length (decimal_in j (n / 10)) ≤ suc k → length (cond b ((48 + n) ∷ []) (decimal_in j (n / 10) ++ ((48 + n % 10) ∷ []))) ≤ suc (suc k)
    go true l = omega arith
    go false l = simp length-append (omega arith)

-- a number below 100,000 has five digits at most, and its field one byte more
pub short_decimal : (n : ℕ) → n < 100000 → length (decimal n) ≤ 5
short_decimal n h = decimal-length 4 (suc n) n (omega arith)

pub short_digits : (n k : ℕ) (text : List ℕ) → n < 100000 → IsDigitCount 10 1 n k → take k text ≡ last_digits 10 k n → length (take k text) ≤ 5
short_digits n k text h f e = omega (arith, ap length (e ∙ decimal_digits k n f), short_decimal n h)

pub short_field : (n e : ℕ) → n < 100000 → length (field n e) ≤ 6
short_field n e h = omega (arith, short_decimal n h, length-append (decimal n) (e ∷ []))

pub length-state : (x : Record) → length (state x) ≡ 5
length-state x = go (live x)
  where
    go : (b : Bool) → length {A = ℕ} (cond b (108 ∷ 105 ∷ 118 ∷ 101 ∷ 32 ∷ []) (100 ∷ 101 ∷ 97 ∷ 100 ∷ 32 ∷ [])) ≡ 5
    go true = refl
    go false = refl

-- One run of bytes behind the other is one run.
pub put_more : (p q r : Page) (b c : List ℕ) → Puts p b q → Puts q c r → Puts p (b ++ c) r
put_more p q r b c x y =
    (y.0 ∙ x.0, y.1 ∙ (λ i. sets (x.1 i) (x.2 i) c) ∙ sym (sets-append p.out.now p.at b c), omega (arith, x.2, y.2, length-append b c))

-- What room is left behind them.
pub room_left : (p q : Page) (b : List ℕ) (m k : ℕ) → Puts p b q → HasRoom p m → length b + k ≤ m → HasRoom q k
room_left p q b m k x h l = omega (arith, x.2, ap length x.1, length-sets p.out.now p.at b, h, l)

-- a line has 40 bytes at most, a bad place's 16
pub short_line : (r : ℕ) (x : Record) → r < 100000 → x.at < 100000 → x.len < 100000 → length (line_of r x) ≤ 40
unfolding line_of
short_line r x h k l =
    simp length-append (omega (arith, short_decimal r h, short_decimal x.at k, length-state x, short_decimal (value_length x) (omega arith)))

pub short_bad : (r o : ℕ) → r < 100000 → o < 100000 → length (bad_line r o) ≤ 16
unfolding bad_line
short_bad r o h k = simp length-append (omega (arith, short_decimal r h, short_decimal o k))

-- The functions' own: digits of a field, a record's line and a bad place's.

pub counted : (p q : Page) (n k end : ℕ) (text : List ℕ) → IsDigitCount 10 1 n k → take k text ≡ last_digits 10 k n → Puts p (take k text ++ (end ∷ [])) q
    → Puts p (field n end) q
counted p q n k end text f e x = subst (λ (b : List ℕ). Puts p (b ++ (end ∷ [])) q) (e ∙ decimal_digits k n f) x

pub keyed : (p q : Page) (key k : ℕ) (text : List ℕ) → key < 18446744073709551616 → IsDigitCount 16 16 key k → take k text ≡ last_digits 16 k key
    → Puts p (take k text ++ (32 ∷ [])) q → Puts p (key_field key) q
keyed p q key k text h f e x =
    let z : k ≡ 16 = sixteen key k h f in
    subst (λ (b : List ℕ). Puts p (b ++ (32 ∷ [])) q) (e ∙ ap (λ (m : ℕ). last_digits 16 m key) z) x

pub short_place : (r o end : ℕ) → r < 100000 → o < 100000 → length (field r 32 ++ field o end) ≤ 12
short_place r o end h k = omega (arith, length-append (field r 32) (field o end), short_field r 32 h, short_field o end k)

pub lined : (p p₁ p₂ p₃ p₄ : Page) (region : ℕ) (x : Record)
    → Puts p (field region 32 ++ field x.at 32) p₁ → Puts p₁ (state x) p₂ → Puts p₂ (key_field x.key) p₃ → Puts p₃ (field (x.len - 15) 10) p₄
    → Puts p (line_of region x) p₄
unfolding line_of
lined p p₁ p₂ p₃ p₄ region x a b c d =
    let value = field (value_length x) 10 in
    let key = key_field x.key in
    let behind = state x ++ (key ++ value) in
    subst (λ (t : List ℕ). Puts p t p₄) (append_assoc (field region 32) (field x.at 32) behind)
    (put_more p p₁ p₄ (field region 32 ++ field x.at 32) behind a (put_more p₁ p₂ p₄ (state x) (key ++ value) b (put_more p₂ p₃ p₄ key value c d)))

pub bad_lined : (p p₁ p₂ : Page) (region place : ℕ)
    → Puts p (98 ∷ 97 ∷ 100 ∷ 32 ∷ []) p₁ → Puts p₁ (field region 32 ++ field place 10) p₂ → Puts p (bad_line region place) p₂
unfolding bad_line
bad_lined p p₁ p₂ region place a b = put_more p p₁ p₂ (98 ∷ 97 ∷ 100 ∷ 32 ∷ []) (field region 32 ++ field place 10) a b
