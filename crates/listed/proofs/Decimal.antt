-- Numbers in decimal, written and read: what is written is read back, and what is read is what is written.
-- Assumes nothing.
use Prim.Native.Nat.{ℕ, zero, suc, ◌+◌, ◌-◌, ◌*◌, ◌/◌, ◌%◌, ◌≤◌, ◌<◌}
use native.Mathlib.Nat.{add_assoc}
use native.Mathlib.Numerals.{add-one}
use native.Mathlib.Decide.{dec_lt}
use native.Mathlib.Omega.{arith}
use mathlib.Core.Path.{◌≡◌, refl, sym, ◌∙◌, ap}
use mathlib.Core.Bool.{Bool, true, false}
use mathlib.Core.List.{List, [], ◌∷◌, ◌++◌, append-nil, append_assoc}
use lib.ListN.{length, get_or, take, drop, length-append, take-append-drop}
use lib.Seq.{drop-cons, drop-drop, get_or-drop}
use borrow.Author.Tests.{lt-ltb, le-ltb, le-leb, leb-true}
use Rattle.chip.proofs.Image.{both}
use Rattle.lines.specs.Text.{decimal_in, decimal}
use Rattle.intake.specs.Intake.{is_digit, leads, Number, number_in, number_at}
use Rattle.intake.proofs.Digits.{digit_range}
use Rattle.intake.proofs.Taken.{byte_inside}

-- What is written.

by_size : (n : ℕ) {P : Type 0} → (n < 10 → P) → (10 ≤ n → P) → P
by_size n {P} f g = go (dec_lt n 10)
  where
    go : Dec (n < 10) → P
    go (yes h) = f h
    go (no h) = g (omega arith)

decimal_small : (k n : ℕ) → n < 10 → decimal_in (suc k) n ≡ (48 + n) ∷ []
unfolding decimal_in
decimal_small k n h = rw (lt-ltb n 10 h)

decimal_large : (k n : ℕ) → 10 ≤ n → decimal_in (suc k) n ≡ decimal_in k (n / 10) ++ ((48 + n % 10) ∷ [])
unfolding decimal_in
decimal_large k n h = rw (le-ltb n 10 h)

-- Where more digits are allowed, there are no more.
decimal_room : (k j n : ℕ) → n < k → n < j → decimal_in k n ≡ decimal_in j n
decimal_room zero j n h l = absurd (omega arith)
decimal_room (suc k) zero n h l = absurd (omega arith)
decimal_room (suc k) (suc j) n h l =
    by_size n
    (λ s. decimal_small k n s ∙ sym (decimal_small j n s))
    (λ b. decimal_large k n b ∙ ap (λ (x : List ℕ). x ++ ((48 + n % 10) ∷ [])) (decimal_room k j (n / 10) (omega arith) (omega arith)) ∙ sym (decimal_large j n b))

-- One digit more.
decimal_on : (v b : ℕ) → 1 ≤ v → is_digit b ≡ true → decimal (v * 10 + (b - 48)) ≡ decimal v ++ (b ∷ [])
decimal_on v b h e =
    let r = digit_range b e in
    let low : 48 ≤ b = r.0 in
    let high : b ≤ 57 = r.1 in
    let n = v * 10 + (b - 48) in
    let q : (v * 10 + (b - 48)) / 10 ≡ v = omega arith in
    let m : 48 + (v * 10 + (b - 48)) % 10 ≡ b = omega arith in
    decimal_large n n (omega arith)
    ∙ (λ i. decimal_in n (q i) ++ (m i ∷ []))
    ∙ ap (λ (x : List ℕ). x ++ (b ∷ [])) (decimal_room n (suc v) v (omega arith) (omega arith))

lead_range : (b : ℕ) → leads b ≡ true → (49 ≤ b) × (b ≤ 57)
lead_range b e = let t = both _ _ e in (leb-true _ _ t.0, leb-true _ _ t.1)

decimal_first : (b : ℕ) → leads b ≡ true → decimal (b - 48) ≡ b ∷ []
decimal_first b e =
    let r = lead_range b e in
    let low : 49 ≤ b = r.0 in
    let high : b ≤ 57 = r.1 in
    let m : 48 + (b - 48) ≡ b = omega arith in
    decimal_small (b - 48) (b - 48) (omega arith) ∙ ap (λ (x : ℕ). x ∷ []) m

-- What is read is what is written.

number_on : (b : ℕ) (m : List ℕ) (v o : ℕ) → is_digit b ≡ true → number_in (b ∷ m) v o ≡ number_in m (v * 10 + (b - 48)) (o + 1)
unfolding number_in
number_on b m v o e = rw e

number_off : (b : ℕ) (m : List ℕ) (v o : ℕ) → is_digit b ≡ false → number_in (b ∷ m) v o ≡ record { value = v; end = o }
unfolding number_in
number_off b m v o e = rw e

number_nil : (v o : ℕ) → number_in [] v o ≡ record { value = v; end = o }
unfolding number_in
number_nil v o = refl

-- Behind a number v, k digits more are read from these bytes, and they are those that the number then has more.
record Span (m : List ℕ) (v o : ℕ) : Type 0 where
  k : ℕ
  end_is : (number_in m v o).end ≡ o + k
  digits_are : decimal (number_in m v o).value ≡ decimal v ++ take k m

span_none : (m : List ℕ) (v o : ℕ) → number_in m v o ≡ record { value = v; end = o } → Span m v o
span_none m v o e =
    record {
      k = 0;
      end_is = ap (λ (x : Number). x.end) e ∙ omega arith;
      digits_are = ap (λ (x : Number). decimal x.value) e ∙ sym (append-nil (decimal v));
    }

span_one : (b : ℕ) (m : List ℕ) (v o : ℕ) → 1 ≤ v → is_digit b ≡ true → Span m (v * 10 + (b - 48)) (o + 1) → Span (b ∷ m) v o
span_one b m v o h e s =
    let n = number_on b m v o e in
    record {
      k = suc s.k;
      end_is = ap (λ (x : Number). x.end) n ∙ s.end_is ∙ omega arith;
      digits_are =
          ap (λ (x : Number). decimal x.value) n
          ∙ s.digits_are
          ∙ ap (λ (x : List ℕ). x ++ take s.k m) (decimal_on v b h e)
          ∙ append_assoc (decimal v) (b ∷ []) (take s.k m);
    }

spans : (m : List ℕ) (v o : ℕ) → 1 ≤ v → Span m v o
spans [] v o h = span_none [] v o (number_nil v o)
spans (b ∷ m) v o h = go (is_digit b) refl (spans m (v * 10 + (b - 48)) (o + 1) (omega arith))
  where
    go : (t : Bool) → is_digit b ≡ t → Span m (v * 10 + (b - 48)) (o + 1) → Span (b ∷ m) v o
    go true e s = span_one b m v o h e s
    go false e s = span_none (b ∷ m) v o (number_off b m v o e)

-- The number that is read at a place: its decimal is the bytes from there to its end.
pub record Stands (input : List ℕ) (at : ℕ) : Type 0 where
  pub k : ℕ
  pub end_is : (number_at input at).end ≡ at + k
  pub bytes_are : decimal (number_at input at).value ≡ take k (drop at input)

at_lead : (input : List ℕ) (at : ℕ) → leads (get_or input at 0) ≡ true → number_at input at ≡ number_in (drop at input) 0 at
unfolding number_at
at_lead input at e = rw e

at_none : (input : List ℕ) (at : ℕ) → leads (get_or input at 0) ≡ false → (number_at input at).value ≡ 0
unfolding number_at
at_none input at e = rw e

lead_digit : (b : ℕ) → leads b ≡ true → is_digit b ≡ true
lead_digit b e =
    let r = lead_range b e in
    let low : 48 ≤ b = omega (arith, r.0) in
    rw (le-leb 48 b low, le-leb b 57 r.1)

stands_lead : (input : List ℕ) (at : ℕ) → leads (get_or input at 0) ≡ true → Stands input at
stands_lead input at e =
    let b = get_or input at 0 in
    let low : 49 ≤ get_or input at 0 = (lead_range b e).0 in
    let i : at < length input = byte_inside input at b refl (omega arith) in
    let m = drop (suc at) input in
    let d : drop at input ≡ b ∷ m = drop-cons input at 0 i in
    let s = spans m (b - 48) (at + 1) (omega arith) in
    let z : 0 * 10 + (b - 48) ≡ b - 48 = omega arith in
    let n : number_at input at ≡ number_in m (b - 48) (at + 1) =
    at_lead input at e ∙ ap (λ (x : List ℕ). number_in x 0 at) d ∙ number_on b m 0 at (lead_digit b e) ∙ ap (λ (x : ℕ). number_in m x (at + 1)) z in
    record {
      k = suc s.k;
      end_is = ap (λ (x : Number). x.end) n ∙ s.end_is ∙ omega arith;
      bytes_are =
          ap (λ (x : Number). decimal x.value) n
          ∙ s.digits_are
          ∙ ap (λ (x : List ℕ). x ++ take s.k m) (decimal_first b e)
          ∙ sym (ap (take (suc s.k)) d);
    }

pub stands : (input : List ℕ) (at : ℕ) → 1 ≤ (number_at input at).value → Stands input at
stands input at h = go (leads (get_or input at 0)) refl
  where
    go : (t : Bool) → leads (get_or input at 0) ≡ t → Stands input at
    go true e = stands_lead input at e
    go false e = let z = at_none input at e in absurd (omega arith)

-- A number and the byte behind it, as bytes.
pub word_at : (input : List ℕ) (at c : ℕ) → 1 ≤ (number_at input at).value → get_or input (number_at input at).end 0 ≡ c → 0 < c
    → drop at input ≡ decimal (number_at input at).value ++ (c ∷ drop ((number_at input at).end + 1) input)
word_at input at c h e l =
    let s = stands input at h in
    let f = (number_at input at).end in
    let i : f < length input = byte_inside input f c e l in
    let d : drop f input ≡ c ∷ drop (f + 1) input = drop-cons input f 0 i ∙ (λ j. e j ∷ drop (sym (add-one f) j) input) in
    sym (take-append-drop s.k (drop at input))
    ∙ (λ j. sym s.bytes_are j ++ drop-drop s.k at input j)
    ∙ ap (λ (x : ℕ). decimal (number_at input at).value ++ drop x input) (sym s.end_is)
    ∙ ap (λ (x : List ℕ). decimal (number_at input at).value ++ x) d

-- What is written is read.

number_written : (k n : ℕ) (m : List ℕ) (o : ℕ) → n < k → number_in (decimal_in k n ++ m) 0 o ≡ number_in m n (o + length (decimal_in k n))
number_written zero n m o h = absurd (omega arith)
number_written (suc k) n m o h =
    by_size n
    (λ s.
    let d : is_digit (48 + n) ≡ true = rw (le-leb 48 (48 + n) (omega arith), le-leb (48 + n) 57 (omega arith)) in
    let z : 0 * 10 + (48 + n - 48) ≡ n = omega arith in
    ap (λ (x : List ℕ). number_in (x ++ m) 0 o) (decimal_small k n s)
    ∙ number_on (48 + n) m 0 o d
    ∙ ap (λ (x : ℕ). number_in m x (o + 1)) z
    ∙ ap (λ (x : List ℕ). number_in m n (o + length x)) (sym (decimal_small k n s)))
    (λ b.
    let c = 48 + n % 10 in
    let front = decimal_in k (n / 10) in
    let d : is_digit (48 + n % 10) ≡ true = rw (le-leb 48 (48 + n % 10) (omega arith), le-leb (48 + n % 10) 57 (omega arith)) in
    let z : n / 10 * 10 + (48 + n % 10 - 48) ≡ n = omega arith in
    ap (λ (x : List ℕ). number_in (x ++ m) 0 o) (decimal_large k n b)
    ∙ ap (λ (x : List ℕ). number_in x 0 o) (append_assoc front (c ∷ []) m)
    ∙ number_written k (n / 10) (c ∷ m) o (omega arith)
    ∙ number_on c m (n / 10) (o + length front) d
    ∙ ap (λ (x : ℕ). number_in m x (o + length front + 1)) z
    ∙ ap (λ (x : ℕ). number_in m n x) (add_assoc o (length front) 1 ∙ ap (λ (x : ℕ). o + x) (sym (length-append front (c ∷ []))))
    ∙ ap (λ (x : List ℕ). number_in m n (o + length x)) (sym (decimal_large k n b)))

-- The first digit of a number that is not 0 leads.
decimal_leads : (k n : ℕ) (m : List ℕ) → 1 ≤ n → n < k → leads (get_or (decimal_in k n ++ m) 0 0) ≡ true
decimal_leads zero n m h l = absurd (omega arith)
decimal_leads (suc k) n m h l =
    by_size n
    (λ s.
    let d : leads (48 + n) ≡ true = rw (le-leb 49 (48 + n) (omega arith), le-leb (48 + n) 57 (omega arith)) in
    ap (λ (x : List ℕ). leads (get_or (x ++ m) 0 0)) (decimal_small k n s) ∙ d)
    (λ b.
    let c = 48 + n % 10 in
    ap (λ (x : List ℕ). leads (get_or (x ++ m) 0 0)) (decimal_large k n b)
    ∙ ap (λ (x : List ℕ). leads (get_or x 0 0)) (append_assoc (decimal_in k (n / 10)) (c ∷ []) m)
    ∙ decimal_leads k (n / 10) (c ∷ m) (omega arith) (omega arith))

pub reads_back : (input : List ℕ) (at n c : ℕ) (rest : List ℕ) → drop at input ≡ decimal n ++ (c ∷ rest) → 1 ≤ n → is_digit c ≡ false
    → number_at input at ≡ record { value = n; end = at + length (decimal n) }
reads_back input at n c rest e h d =
    let g : get_or input at 0 ≡ get_or (decimal n ++ (c ∷ rest)) 0 0 =
    ap (λ (x : ℕ). get_or input x 0) (omega arith) ∙ sym (get_or-drop at input 0 0) ∙ ap (λ (x : List ℕ). get_or x 0 0) e in
    at_lead input at (ap leads g ∙ decimal_leads (suc n) n (c ∷ rest) h (omega arith))
    ∙ ap (λ (x : List ℕ). number_in x 0 at) e
    ∙ number_written (suc n) n (c ∷ rest) at (omega arith)
    ∙ number_off c rest n (at + length (decimal n)) d
