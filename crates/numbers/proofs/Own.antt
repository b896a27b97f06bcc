-- Numbers that stand for a running operation are its own: with anything more in them they stand for none.
-- Assumes nothing.
use Prim.Native.Nat.{ℕ}
use mathlib.Core.Path.{◌≡◌, refl, sym, ap, ◌∙◌}
use mathlib.Core.Bool.{Bool, true, false, cond, ◌&&◌, true≢false}
use lib.Dec.{eqb, ltb}
use borrow.Author.Tests.{eqb-true, ne_eqb}
use Rattle.std.specs.Prelude.{None, Ok}
use Rattle.chip.proofs.Image.{both}
use Rattle.format.specs.declared.Removal.{Removal}
use Rattle.lookup.specs.Gather.{unseen, with_room, some_room}
use Rattle.plans.specs.declared.Success.TheVariants.{Complete, Written, Freed}
use Rattle.plans.specs.declared.Aim.{Aim}
use Rattle.plans.specs.declared.Lent.{Lent}
use Rattle.plans.specs.declared.Edit.{Edit}
use Rattle.plans.specs.declared.Edits.{Edits}
use Rattle.plans.specs.declared.Then.{Then}
use Rattle.plans.specs.Writes.{first}
use Rattle.running.specs.declared.Op.{Op}
use Rattle.operations.specs.declared.COperation.{COperation}
use Rattle.numbers.specs.declared.packs.Slot.{Slot}
use Rattle.numbers.specs.declared.packs.Next.{Next}
use Rattle.numbers.specs.Packs.{lent_number, lent_length, slot_of, few, aim_number, seek_numbers, next_numbers, is_nothing, over_after, fresh_number, packed}
use Rattle.operations.specs.Unpacks.{KnownOp, lent_in, record_in, edits_in, aim_in, gathered_in, next_in, read_as, own_fresh, own_lent, bare, own_edit, own_aim, own_gathered, plain, left_in, own_end, own_next, standing, unpacked}
use Rattle.numbers.proofs.Back.{whole_packed}

-- a number that is tested first
field : (x k : ℕ) (b : Bool) → (eqb x k && b) ≡ true → (x ≡ k) × (b ≡ true)
field x k b e = let p = both (eqb x k) b e in (eqb-true x k p.0, p.1)

-- Each part of the numbers is the number of what is read off it.

own_fresh_lem : (k : ℕ) → own_fresh k ≡ true → k ≡ fresh_number (eqb k 1)
own_fresh_lem k e = go (eqb k 1) refl e
  where
    go : (b : Bool) → eqb k 1 ≡ b → cond b true (eqb k 0) ≡ true → k ≡ fresh_number b
    go true l z = eqb-true k 1 l
    go false l z = eqb-true k 0 z

own_lent_lem : (k len : ℕ) → own_lent k len ≡ true → (k ≡ lent_number (lent_in k len)) × (len ≡ lent_length (lent_in k len))
own_lent_lem k len e = go (eqb k 0) (eqb k 1) refl refl e
  where
    go : (a b : Bool) → eqb k 0 ≡ a → eqb k 1 ≡ b → cond a (eqb len 0) (cond b true (eqb k 2)) ≡ true
        → (k ≡ lent_number (cond a Lent.Nothing (cond b (Lent.Value len) (Lent.Buffer len)))) × (len ≡ lent_length (cond a Lent.Nothing (cond b (Lent.Value len) (Lent.Buffer len))))
    go true b l m z = (eqb-true k 0 l, eqb-true len 0 z)
    go false true l m z = (eqb-true k 1 m, refl)
    go false false l m z = (eqb-true k 2 z, refl)

own_aim_lem : (k : ℕ) → own_aim k ≡ true → k ≡ aim_number (aim_in k)
own_aim_lem k e = go (eqb k 1) (eqb k 2) (eqb k 3) (eqb k 4) refl refl refl refl e
  where
    go : (a b c d : Bool) → eqb k 1 ≡ a → eqb k 2 ≡ b → eqb k 3 ≡ c → eqb k 4 ≡ d → cond a true (cond b true (cond c true (cond d true (eqb k 5)))) ≡ true
        → k ≡ aim_number (cond a Aim.Get (cond b Aim.Append (cond c (Aim.Remove Removal.Invalidate) (cond d (Aim.Remove Removal.Zeroise) Aim.Initialise))))
    go true b c d x y z w e = eqb-true k 1 x
    go false true c d x y z w e = eqb-true k 2 y
    go false false true d x y z w e = eqb-true k 3 z
    go false false false true x y z w e = eqb-true k 4 w
    go false false false false x y z w e = eqb-true k 5 e

-- the numbers of the edit, and of what follows

abbrev slot_in : COperation → Slot
slot_in o = record { edit = o.edit; version = o.version; flags = o.flags; region = o.region; at = o.at; size = o.size; found = o.found }

abbrev numbers_in : COperation → Next
numbers_in o = record { next = o.next; aim = o.aim; tag = o.tag; a = o.a; b = o.b; c = o.c }

-- with no record in them
is_bare : (o : COperation) (k r p : ℕ) → o.edit ≡ k → o.region ≡ r → o.at ≡ p → bare o ≡ true
    → slot_in o ≡ record { edit = k; version = 0; flags = 0; region = r; at = p; size = 0; found = 0 }
is_bare o k r p e f g z =
    let (size, y) = field o.size 0 _ z in
    let (found, x) = field o.found 0 _ y in
    let (version, w) = field o.version 0 _ x in
    let flags : o.flags ≡ 0 = eqb-true o.flags 0 w in
    λ i. record { edit = e i; version = version i; flags = flags i; region = f i; at = g i; size = size i; found = found i }

-- with one
is_kill : (o : COperation) (k : ℕ) → o.edit ≡ k
    → slot_in o ≡ record { edit = k; version = o.version; flags = o.flags; region = o.region; at = o.at; size = o.size; found = o.found }
is_kill o k e = λ i. record { edit = e i; version = o.version; flags = o.flags; region = o.region; at = o.at; size = o.size; found = o.found }

left_none : (o : COperation) → o.edit ≡ 0 → left_in o ≡ false
left_none o e = rw e

left_run : (o : COperation) → o.edit ≡ 5 → left_in o ≡ true → ltb o.region o.at ≡ true
left_run o e l = (rw e refl) ∙ l

-- The edit that was read is the one of the numbers, and there is one to do where they say so.
abbrev Edited : COperation → Edits → Type 0
Edited o es = (slot_in o ≡ slot_of es) × (few es ≡ true) × (left_in o ≡ true → is_nothing (first es) ≡ false)

own_edit_lem : (o : COperation) → own_edit o ≡ true → Edited o (edits_in o)
own_edit_lem o e = go (eqb o.edit 0) (eqb o.edit 1) (eqb o.edit 2) (eqb o.edit 3) (eqb o.edit 4) refl refl refl refl refl e
  where
    read : Bool → Bool → Bool → Bool → Bool → Edits
    read a b c d f =
        cond a Edits.Nil
        (cond b (Edits.One (Edit.Lay o.region o.at))
        (cond c (Edits.One (Edit.Kill Removal.Invalidate o.region (record_in o)))
        (cond d (Edits.One (Edit.Kill Removal.Zeroise o.region (record_in o)))
        (cond f (Edits.One (Edit.Erase o.region))
        (Edits.Erases o.region o.at)))))

    go : (a b c d f : Bool) → eqb o.edit 0 ≡ a → eqb o.edit 1 ≡ b → eqb o.edit 2 ≡ c → eqb o.edit 3 ≡ d → eqb o.edit 4 ≡ f
        → cond a (eqb o.region 0 && (eqb o.at 0 && bare o)) (cond b (bare o) (cond c true (cond d true (cond f (eqb o.at 0 && bare o) (eqb o.edit 5 && bare o))))) ≡ true
        → Edited o (read a b c d f)
    go true b c d f t u v w x z =
        let (region, y) = field o.region 0 _ z in
        let (at, y') = field o.at 0 _ y in
        let edit : o.edit ≡ 0 = eqb-true o.edit 0 t in
        (is_bare o 0 0 0 edit region at y', refl, λ l. absurd (true≢false (sym l ∙ left_none o edit)))
    go false true c d f t u v w x z = (is_bare o 1 o.region o.at (eqb-true o.edit 1 u) refl refl z, refl, λ l. refl)
    go false false true d f t u v w x z = (is_kill o 2 (eqb-true o.edit 2 v), refl, λ l. refl)
    go false false false true f t u v w x z = (is_kill o 3 (eqb-true o.edit 3 w), refl, λ l. refl)
    go false false false false true t u v w x z = let (at, y) = field o.at 0 _ z in (is_bare o 4 o.region 0 (eqb-true o.edit 4 x) refl at y, refl, λ l. refl)
    go false false false false false t u v w x z =
        let (edit, y) = field o.edit 5 _ z in
        (is_bare o 5 o.region o.at edit refl refl y, refl, λ l. rw (left_run o edit l))

-- with no seek in them
is_plain : (o : COperation) (k x y : ℕ) → o.next ≡ k → o.a ≡ x → o.b ≡ y → plain o ≡ true → numbers_in o ≡ record { next = k; aim = 0; tag = 0; a = x; b = y; c = 0 }
is_plain o k x y e f g z =
    let (aim, w) = field o.aim 0 _ z in
    let (tag, v) = field o.tag 0 _ w in
    let c : o.c ≡ 0 = eqb-true o.c 0 v in
    λ i. record { next = e i; aim = aim i; tag = tag i; a = f i; b = g i; c = c i }

-- with one
is_seek : (o : COperation) → o.next ≡ 1 → own_aim o.aim ≡ true → own_gathered o.tag o.b o.c ≡ true
    → numbers_in o ≡ seek_numbers (aim_in o.aim) o.a (gathered_in o.tag o.b o.c)
is_seek o e f z = go (eqb o.tag 0) (eqb o.tag 2) refl refl z
  where
    aim : o.aim ≡ aim_number (aim_in o.aim)
    aim = own_aim_lem o.aim f

    go : (p q : Bool) → eqb o.tag 0 ≡ p → eqb o.tag 2 ≡ q → cond p (eqb o.b 0 && eqb o.c 0) (cond q true (eqb o.tag 1)) ≡ true
        → numbers_in o ≡ seek_numbers (aim_in o.aim) o.a (cond p None (some_room o.b o.c q))
    go true q l m z =
        let tag : o.tag ≡ 0 = eqb-true o.tag 0 l in
        let (b, y) = field o.b 0 _ z in
        let c : o.c ≡ 0 = eqb-true o.c 0 y in
        λ i. record { next = e i; aim = aim i; tag = tag i; a = o.a; b = b i; c = c i }
    go false true l m z =
        let tag : o.tag ≡ 2 = eqb-true o.tag 2 m in
        λ i. record { next = e i; aim = aim i; tag = tag i; a = o.a; b = o.b; c = o.c }
    go false false l m z =
        let tag : o.tag ≡ 1 = eqb-true o.tag 1 z in
        λ i. record { next = e i; aim = aim i; tag = tag i; a = o.a; b = o.b; c = o.c }

-- before an answer
is_end : (o : COperation) (k x : ℕ) → o.next ≡ k → o.a ≡ x → own_end o ≡ true → (numbers_in o ≡ record { next = k; aim = 0; tag = 0; a = x; b = 0; c = 0 }) × (left_in o ≡ true)
is_end o k x e f z =
    let (p, y) = both (plain o) _ z in
    let (b, l) = field o.b 0 _ y in
    (is_plain o k x 0 e f b p, l)

own_next_lem : (o : COperation) → (left_in o ≡ true → is_nothing (first (edits_in o)) ≡ false) → own_next o ≡ true → (numbers_in o ≡ next_numbers (next_in o)) × (over_after (edits_in o) (next_in o) ≡ false)
own_next_lem o h e = go (eqb o.next 1) (eqb o.next 2) (eqb o.next 3) (eqb o.next 4) refl refl refl refl e
  where
    read : Bool → Bool → Bool → Bool → Then
    read p q r s =
        cond p (Then.Seek (aim_in o.aim) o.a (with_room (gathered_in o.tag o.b o.c) unseen))
        (cond q (Then.Sweep o.a o.b)
        (cond r (Then.Ends (Ok (Complete o.a)))
        (cond s (Then.Ends (Ok Written))
        (Then.Ends (Ok (Freed o.a))))))

    go : (p q r s : Bool) → eqb o.next 1 ≡ p → eqb o.next 2 ≡ q → eqb o.next 3 ≡ r → eqb o.next 4 ≡ s
        → cond p (own_aim o.aim && own_gathered o.tag o.b o.c) (cond q (plain o) (cond r (own_end o) (cond s (eqb o.a 0 && own_end o) (eqb o.next 5 && own_end o)))) ≡ true
        → (numbers_in o ≡ next_numbers (read p q r s)) × (over_after (edits_in o) (read p q r s) ≡ false)
    go true q r s t u v w z = let (f, g) = both (own_aim o.aim) _ z in (is_seek o (eqb-true o.next 1 t) f g, refl)
    go false true r s t u v w z = (is_plain o 2 o.a o.b (eqb-true o.next 2 u) refl refl z, refl)
    go false false true s t u v w z = let (f, l) = is_end o 3 o.a (eqb-true o.next 3 v) refl z in (f, h l)
    go false false false true t u v w z =
        let (a, y) = field o.a 0 _ z in
        let (f, l) = is_end o 4 0 (eqb-true o.next 4 w) a y in
        (f, h l)
    go false false false false t u v w z =
        let (k, y) = field o.next 5 _ z in
        let (f, l) = is_end o 5 o.a k refl y in
        (f, h l)

-- The whole.

own_whole : (o : COperation) → standing o ≡ true → o ≡ packed (read_as o)
unfolding standing read_as
own_whole o e =
    let (layout, e1) = field o.layout 8 _ e in
    let (next, e2) = both (own_next o) _ e1 in
    let (fresh, e3) = both (own_fresh o.fresh) _ e2 in
    let (lent, edit) = both (own_lent o.lent o.len) _ e3 in
    let (slot, h, left) = own_edit_lem o edit in
    let (after, v) = own_next_lem o left next in
    let f = own_fresh_lem o.fresh fresh in
    let (l, len) = own_lent_lem o.lent o.len lent in
    (λ i. record {
      layout = layout i;
      fresh = f i;
      lent = l i;
      edit = (slot i).edit;
      next = (after i).next;
      aim = (after i).aim;
      tag = (after i).tag;
      version = (slot i).version;
      flags = (slot i).flags;
      s = o.s;
      n = o.n;
      key = o.key;
      len = len i;
      region = (slot i).region;
      at = (slot i).at;
      size = (slot i).size;
      found = (slot i).found;
      a = (after i).a;
      b = (after i).b;
      c = (after i).c;
    })
    ∙ sym (whole_packed (read_as o) v h)

abbrev is_known : KnownOp → Bool
is_known (KnownOp.Known x) = true
is_known KnownOp.Unknown = false

abbrev op_or : Op → KnownOp → Op
op_or a (KnownOp.Known x) = x
op_or a KnownOp.Unknown = a

pub own : (o : COperation) (op : Op) → unpacked o ≡ KnownOp.Known op → o ≡ packed op
unfolding unpacked
own o op e = go (standing o) refl e
  where
    go : (b : Bool) → standing o ≡ b → cond b (KnownOp.Known (read_as o)) KnownOp.Unknown ≡ KnownOp.Known op → o ≡ packed op
    go true s z = own_whole o s ∙ ap packed (ap (op_or op) z)
    go false s z = absurd (true≢false (sym (ap is_known z)))

pub no_layout : (o : COperation) → (o.layout ≡ 8 → ⊥) → unpacked o ≡ KnownOp.Unknown
unfolding unpacked standing
no_layout o l = rw (ne_eqb o.layout 8 l)
