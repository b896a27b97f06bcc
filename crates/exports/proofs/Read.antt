-- What the numbers of a running operation and of a reply say of what they stand for.
-- Assumes nothing.
use Prim.Native.Nat.{ℕ, ◌≤◌, ◌<◌}
use native.Mathlib.Omega.{arith}
use mathlib.Core.Path.{◌≡◌, refl, sym, ◌∙◌, ap, subst}
use mathlib.Core.Bool.{Bool, true, false, cond, ◌&&◌, true≢false}
use mathlib.Core.Logic.{◌⊎◌, inl, inr}
use lib.Dec.{eqb}
use borrow.Author.Tests.{eqb-true, eqb-false}
use Rattle.std.specs.Prelude.{Option, Some, None, Ok}
use Rattle.chip.proofs.Image.{both}
use Rattle.format.specs.declared.Removal.{Removal}
use Rattle.lookup.specs.declared.Seen.{Seen}
use Rattle.lookup.specs.Gather.{unseen, with_room}
use Rattle.plans.specs.declared.Success.TheVariants.{Complete, Written, Freed}
use Rattle.plans.specs.declared.Aim.{Aim}
use Rattle.plans.specs.declared.Lent.{Lent}
use Rattle.plans.specs.declared.Edit.{Edit}
use Rattle.plans.specs.declared.Edits.{Edits}
use Rattle.plans.specs.declared.Then.{Then}
use Rattle.plans.specs.Answers.{Answer}
use Rattle.plans.specs.Writes.{value_lent, first}
use Rattle.running.specs.declared.Op.{Op}
use Rattle.running.specs.declared.Reply.{Reply}
use Rattle.running.specs.declared.Wait.{Wait}
use Rattle.running.specs.declared.Request.{Request}
use Rattle.running.specs.Waits.{wait_first, request_edit, request_for, request_of}
use Rattle.operations.specs.declared.COperation.{COperation}
use Rattle.operations.specs.Unpacks.{KnownOp, lent_in, record_in, edits_in, aim_in, gathered_in, next_in, read_as, own_fresh, own_lent, own_next, standing, unpacked, reply_number, known_reply}
use Rattle.rule.specs.Rule.{rule}
use Rattle.numbers.specs.Packs.{few, over_after, over, packed}
use Rattle.numbers.proofs.Own.{own}
use Rattle.numbers.proofs.Theorems.{unpacks_packed}

-- Numbers stand for one operation, or for none.

abbrev op_or : Op → KnownOp → Op
op_or a (KnownOp.Known x) = x
op_or a KnownOp.Unknown = a

abbrev is_known : KnownOp → Bool
is_known (KnownOp.Known x) = true
is_known KnownOp.Unknown = false

-- The operation that numbers stand for: each of its parts is read off them, and they are its own.
pub record Reads (o : COperation) (op : Op) : Type 0 where
  pub known : unpacked o ≡ KnownOp.Known op
  pub same_s : op.s ≡ o.s
  pub same_n : op.n ≡ o.n
  pub same_lent : op.lent ≡ lent_in o.lent o.len
  pub own_lent_lem : own_lent o.lent o.len ≡ true
  pub same_fresh : op.fresh ≡ eqb o.fresh 1
  pub own_fresh_lem : own_fresh o.fresh ≡ true
  pub same_next : op.plan.next ≡ next_in o
  pub few_left : few op.plan.edits ≡ true

-- An edit at most is read off the numbers, or a run of erases.
few_read : (o : COperation) → few (edits_in o) ≡ true
few_read o = go (eqb o.edit 0) (eqb o.edit 1) (eqb o.edit 2) (eqb o.edit 3) (eqb o.edit 4)
  where
    go : (a b c d e : Bool)
        → few (cond a Edits.Nil
        (cond b (Edits.One (Edit.Lay o.region o.at))
        (cond c (Edits.One (Edit.Kill Removal.Invalidate o.region (record_in o)))
        (cond d (Edits.One (Edit.Kill Removal.Zeroise o.region (record_in o)))
        (cond e (Edits.One (Edit.Erase o.region)) (Edits.Erases o.region o.at))))))
        ≡ true
    go true b c d e = refl
    go false true c d e = refl
    go false false true d e = refl
    go false false false true e = refl
    go false false false false true = refl
    go false false false false false = refl

pub reads : (o : COperation) (op : Op) → unpacked o ≡ KnownOp.Known op → Reads o op
unfolding unpacked read_as standing
reads o op e = go (standing o) refl e
  where
    go : (t : Bool) → standing o ≡ t → cond t (KnownOp.Known (read_as o)) KnownOp.Unknown ≡ KnownOp.Known op → Reads o op
    go true h z =
        let same : op ≡ read_as o = sym (ap (op_or op) z) in
        let (_, e1) = both (eqb o.layout 8) _ h in
        let (_, e2) = both (own_next o) _ e1 in
        let (fresh, e3) = both (own_fresh o.fresh) _ e2 in
        record {
          known = e;
          same_s = ap (λ (x : Op). x.s) same;
          same_n = ap (λ (x : Op). x.n) same;
          same_lent = ap (λ (x : Op). x.lent) same;
          own_lent_lem = (both (own_lent o.lent o.len) _ e3).0;
          same_fresh = ap (λ (x : Op). x.fresh) same;
          own_fresh_lem = fresh;
          same_next = ap (λ (x : Op). x.plan.next) same;
          few_left = ap (λ (x : Op). few x.plan.edits) same ∙ few_read o;
        }
    go false h z = absurd (true≢false (sym (ap is_known z)))

pub one_op : {o : COperation} {op op' : Op} → Reads o op → unpacked o ≡ KnownOp.Known op' → op' ≡ op
one_op {op = op} k e = ap (op_or op) (sym e ∙ k.known)

pub not_both : {o : COperation} {op : Op} → Reads o op → unpacked o ≡ KnownOp.Unknown → ⊥
not_both k e = true≢false (ap is_known (sym k.known ∙ e))

-- 6, after the end, is no number of what follows.
pub ended_unknown : (o : COperation) → o.next ≡ 6 → unpacked o ≡ KnownOp.Unknown
unfolding unpacked standing
ended_unknown o e = rw (no_next, none (eqb o.layout 8)) refl
  where
    no_next : own_next o ≡ false
    no_next = rw e

    none : (t : Bool) → (t && false) ≡ false
    none true = refl
    none false = refl

-- What is lent.

lent_read : (k len named : ℕ) → own_lent k len ≡ true
    → (lent_in k len ≡ Lent.Value named → (k ≡ 1) × (len ≡ named)) × (lent_in k len ≡ Lent.Buffer named → (k ≡ 2) × (len ≡ named))
lent_read k len named e = go (eqb k 0) (eqb k 1) refl refl e
  where
    lent_of : Bool → Bool → Lent
    lent_of a b = cond a Lent.Nothing (cond b (Lent.Value len) (Lent.Buffer len))

    go : (a b : Bool) → eqb k 0 ≡ a → eqb k 1 ≡ b → cond a (eqb len 0) (cond b true (eqb k 2)) ≡ true
        → (lent_of a b ≡ Lent.Value named → (k ≡ 1) × (len ≡ named)) × (lent_of a b ≡ Lent.Buffer named → (k ≡ 2) × (len ≡ named))
    go true b p q z = ((λ h. let z : ◌≡◌ {A = ℕ} 0 1 = cc in absurd (omega arith)), λ h. let z : ◌≡◌ {A = ℕ} 0 1 = cc in absurd (omega arith))
    go false true p q z = ((λ h. (eqb-true k 1 q, cc)), λ h. let z : ◌≡◌ {A = ℕ} 0 1 = cc in absurd (omega arith))
    go false false p q z = ((λ h. let z : ◌≡◌ {A = ℕ} 0 1 = cc in absurd (omega arith)), λ h. (eqb-true k 2 z, cc))

module _ {o : COperation} {op : Op} (k : Reads o op) where
  pub lent_value : {len : ℕ} → op.lent ≡ Lent.Value len → (o.lent ≡ 1) × (o.len ≡ len)
  lent_value e = (lent_read o.lent o.len _ k.own_lent_lem).0 (sym k.same_lent ∙ e)

  pub lent_buffer_lem : {len : ℕ} → op.lent ≡ Lent.Buffer len → (o.lent ≡ 2) × (o.len ≡ len)
  lent_buffer_lem e = (lent_read o.lent o.len _ k.own_lent_lem).1 (sym k.same_lent ∙ e)

  pub value_lent_lem : o.lent ≡ 1 → op.lent ≡ Lent.Value o.len
  value_lent_lem e = k.same_lent ∙ ap (λ (x : ℕ). lent_in x o.len) e

  pub buffer_lent_lem : o.lent ≡ 2 → op.lent ≡ Lent.Buffer o.len
  buffer_lent_lem e = k.same_lent ∙ ap (λ (x : ℕ). lent_in x o.len) e

  -- Whether a step was made.

  pub first_yet : op.fresh ≡ true → o.fresh ≡ 1
  first_yet e = eqb-true o.fresh 1 (sym k.same_fresh ∙ e)

  pub begun : op.fresh ≡ false → o.fresh ≡ 0
  begun e = eqb-true o.fresh 0 (sym (ap (λ (t : Bool). cond t true (eqb o.fresh 0)) (sym k.same_fresh ∙ e)) ∙ k.own_fresh_lem)

  pub is_first : o.fresh ≡ 1 → op.fresh ≡ true
  is_first e = k.same_fresh ∙ ap (λ (x : ℕ). eqb x 1) e

  pub is_begun : o.fresh ≡ 0 → op.fresh ≡ false
  is_begun e = k.same_fresh ∙ ap (λ (x : ℕ). eqb x 1) e

-- What follows.

-- a lookup of get
aim_get : (k : ℕ) → aim_in k ≡ Aim.Get → k ≡ 1
aim_get k e = go (eqb k 1) (eqb k 2) (eqb k 3) (eqb k 4) refl e
  where
    go : (a b c d : Bool) → eqb k 1 ≡ a
        → cond a Aim.Get (cond b Aim.Append (cond c (Aim.Remove Removal.Invalidate) (cond d (Aim.Remove Removal.Zeroise) Aim.Initialise))) ≡ Aim.Get → k ≡ 1
    go true b c d p h = eqb-true k 1 p
    go false true c d p h = let z : ◌≡◌ {A = ℕ} 0 1 = cc in absurd (omega arith)
    go false false true d p h = let z : ◌≡◌ {A = ℕ} 0 1 = cc in absurd (omega arith)
    go false false false true p h = let z : ◌≡◌ {A = ℕ} 0 1 = cc in absurd (omega arith)
    go false false false false p h = let z : ◌≡◌ {A = ℕ} 0 1 = cc in absurd (omega arith)

-- What is read off the number of what follows: a lookup where it is 1, else a sweep or an answer, and never a value that is to be given.
data Follows (o : COperation) : Then → Type 0 where
  seeks : {i : ℕ} {seen : Seen} → o.next ≡ 1 → Follows o (Then.Seek (aim_in o.aim) i seen)
  sweeps : {r k : ℕ} → Follows o (Then.Sweep r k)
  ends : {answer : Answer} → Follows o (Then.Ends answer)

follows_in : (o : COperation) → Follows o (next_in o)
follows_in o = go (eqb o.next 1) (eqb o.next 2) (eqb o.next 3) (eqb o.next 4) refl
  where
    go : (p q r t : Bool) → eqb o.next 1 ≡ p
        → Follows o
        (cond p (Then.Seek (aim_in o.aim) o.a (with_room (gathered_in o.tag o.b o.c) unseen))
        (cond q (Then.Sweep o.a o.b) (cond r (Then.Ends (Ok (Complete o.a))) (cond t (Then.Ends (Ok Written)) (Then.Ends (Ok (Freed o.a)))))))
    go true q r t e = seeks (eqb-true o.next 1 e)
    go false true r t e = sweeps
    go false false true t e = ends
    go false false false true e = ends
    go false false false false e = ends

seek_get : {o : COperation} {next : Then} {i : ℕ} {seen : Seen} → Follows o next → next ≡ Then.Seek Aim.Get i seen → (o.next ≡ 1) × (o.aim ≡ 1)
seek_get {o} (seeks n) e = (n, aim_get o.aim cc)
seek_get sweeps e = let z : ◌≡◌ {A = ℕ} 0 1 = cc in absurd (omega arith)
seek_get ends e = let z : ◌≡◌ {A = ℕ} 0 1 = cc in absurd (omega arith)

module _ {o : COperation} {op : Op} (k : Reads o op) where
  pub looks_get : {i : ℕ} {seen : Seen} → op.plan.next ≡ Then.Seek Aim.Get i seen → (o.next ≡ 1) × (o.aim ≡ 1)
  looks_get e = seek_get (follows_in o) (sym k.same_next ∙ e)

-- Once it has begun, an operation that has only its answer left has the number of the end.

-- an edit is asked for as a service
no_answer : (s len : ℕ) (e : Edit) {answer : Answer} → request_edit s len e ≡ Request.Answers answer → ⊥
no_answer s len (Edit.Lay r o) h = let z : ◌≡◌ {A = ℕ} 0 1 = cc in omega arith
no_answer s len (Edit.Kill how r x) h = let z : ◌≡◌ {A = ℕ} 0 1 = cc in omega arith
no_answer s len (Edit.Erase r) h = let z : ◌≡◌ {A = ℕ} 0 1 = cc in omega arith

left_over : {o : COperation} {t : Then} {answer : Answer} (s len key n : ℕ) (es : Edits) (f : Option Edit) → first es ≡ f → Follows o t
    → request_for s len (wait_first key n f t) ≡ Request.Answers answer → over_after es t ≡ true
left_over s len key n es (Some e) q w h = absurd (no_answer s len e h)
left_over s len key n es None q ends h = rw q
left_over s len key n es None q (seeks _) h = let z : ◌≡◌ {A = ℕ} 0 1 = cc in absurd (omega arith)
left_over s len key n es None q sweeps h = let z : ◌≡◌ {A = ℕ} 0 1 = cc in absurd (omega arith)

pub packed_over : (op : Op) → over op.plan ≡ true → (packed op).next ≡ 6
unfolding packed
packed_over op e = rw e

pub answers_ended : {o : COperation} {op : Op} {answer : Answer} → Reads o op → op.fresh ≡ false → request_of op ≡ Request.Answers answer → o.next ≡ 6
answers_ended {o} {op} k f h =
    let asked = ap (λ (t : Bool). request_for op.s (value_lent op.lent) (cond t Wait.Begin (wait_first op.key op.n (first op.plan.edits) op.plan.next))) (sym f) ∙ h in
    let follows = subst (Follows o) (sym k.same_next) (follows_in o) in
    let ended = left_over op.s (value_lent op.lent) op.key op.n op.plan.edits (first op.plan.edits) refl follows asked in
    ap (λ (x : COperation). x.next) (own o op k.known) ∙ packed_over op ended

-- Numbers of an operation that keeps the rule stand for it, unless they are those of the end.
pub stands_or_ended : (o : COperation) (op : Op) → rule op ≡ true → few op.plan.edits ≡ true → o ≡ packed op → (o.next ≡ 6) ⊎ (unpacked o ≡ KnownOp.Known op)
stands_or_ended o op r h e = go (over op.plan) refl
  where
    go : (t : Bool) → over op.plan ≡ t → (o.next ≡ 6) ⊎ (unpacked o ≡ KnownOp.Known op)
    go true v = inl (ap (λ (x : COperation). x.next) e ∙ packed_over op v)
    go false v = inr (ap unpacked e ∙ unpacks_packed op r h v)

-- Replies: the number of the one that is said, and none over 3.

-- What a number stands for.
data Says (y : ℕ) : Option Reply → Type 0 where
  says : (said : Reply) → y ≡ reply_number said → Says y (Some said)
  silent : 3 < y → Says y None

said_by : (y : ℕ) → Says y (known_reply y)
unfolding known_reply
said_by y = go (eqb y 0) (eqb y 1) (eqb y 2) (eqb y 3) refl refl refl refl
  where
    go : (a b c d : Bool) → eqb y 0 ≡ a → eqb y 1 ≡ b → eqb y 2 ≡ c → eqb y 3 ≡ d
        → Says y
        (cond a (Some Reply.Begin) (cond b (Some Reply.Done) (cond c (Some Reply.NotReady) (cond d (Some Reply.Failed) None))))
    go true b c d p q r t = says Reply.Begin (eqb-true y 0 p)
    go false true c d p q r t = says Reply.Done (eqb-true y 1 q)
    go false false true d p q r t = says Reply.NotReady (eqb-true y 2 r)
    go false false false true p q r t = says Reply.Failed (eqb-true y 3 t)
    go false false false false p q r t =
        let n0 : y ≡ 0 → ⊥ = eqb-false y 0 p in
        let n1 : y ≡ 1 → ⊥ = eqb-false y 1 q in
        let n2 : y ≡ 2 → ⊥ = eqb-false y 2 r in
        let n3 : y ≡ 3 → ⊥ = eqb-false y 3 t in
        silent (omega arith)

pub replied : {y : ℕ} {said : Reply} → known_reply y ≡ Some said → y ≡ reply_number said
replied {y} {said} e = go (subst (Says y) e (said_by y))
  where
    go : Says y (Some said) → y ≡ reply_number said
    go (says said h) = h

pub no_reply_over : (y : ℕ) → known_reply y ≡ None → 3 < y
no_reply_over y e = go (subst (Says y) e (said_by y))
  where
    go : Says y None → 3 < y
    go (silent l) = l

within : (said : Reply) → reply_number said ≤ 3
within Reply.Begin = omega arith
within Reply.Done = omega arith
within Reply.NotReady = omega arith
within Reply.Failed = omega arith

pub too_high : {y : ℕ} {said : Reply} → known_reply y ≡ Some said → 3 < y → ⊥
too_high {y} {said} f l =
    let number : y ≡ reply_number said = replied f in
    omega (arith, within said)

pub is_begin : (said : Reply) → reply_number said ≡ 0 → said ≡ Reply.Begin
is_begin Reply.Begin e = refl
is_begin Reply.Done e = absurd (omega arith)
is_begin Reply.NotReady e = absurd (omega arith)
is_begin Reply.Failed e = absurd (omega arith)

pub is_failed : (said : Reply) → reply_number said ≡ 3 → said ≡ Reply.Failed
is_failed Reply.Begin e = absurd (omega arith)
is_failed Reply.Done e = absurd (omega arith)
is_failed Reply.NotReady e = absurd (omega arith)
is_failed Reply.Failed e = refl
