-- The running operation and the reply that numbers stand for.
use Rattle.std.specs.Prelude.{ℕ, Bool, true, false, cond, ◌&&◌, eqb, ltb, Option, Some, None, Ok}
use Rattle.format.specs.declared.Record.{Record}
use Rattle.format.specs.declared.Removal.{Removal}
use Rattle.lookup.specs.declared.Room.{Room}
use Rattle.lookup.specs.Gather.{unseen, with_room, some_room}
use Rattle.plans.specs.declared.Success.TheVariants.{Complete, Written, Freed}
use Rattle.plans.specs.declared.Aim.{Aim}
use Rattle.plans.specs.declared.Lent.{Lent}
use Rattle.plans.specs.declared.Edit.{Edit}
use Rattle.plans.specs.declared.Edits.{Edits}
use Rattle.plans.specs.declared.Then.{Then}
use Rattle.running.specs.declared.Op.{Op}
use Rattle.running.specs.declared.Reply.{Reply}
use Rattle.operations.specs.declared.COperation.{COperation}

-- What the numbers that are used say, each read as the last kind where it is the number of none.

-- R12.4: `lent` and `len`: nothing is lent, a value or a buffer of so many bytes.
abbrev pub lent_in : ℕ → ℕ → Lent
lent_in lent len = cond (eqb lent 0) Lent.Nothing (cond (eqb lent 1) (Lent.Value len) (Lent.Buffer len))

-- R12.4: `at`, `size`, `version`, `flags` and `found`: the record that a removal makes dead. Of its flags only the low three bits count.
abbrev pub record_in : COperation → Record
record_in o = record { at = o.at; len = o.size; version = o.version; flags = o.flags; key = o.found }

-- R12.4: `edit`: what is still to write or erase.
abbrev pub edits_in : COperation → Edits
edits_in o =
    cond (eqb o.edit 0) Edits.Nil
    (cond (eqb o.edit 1) (Edits.One (Edit.Lay o.region o.at))
    (cond (eqb o.edit 2) (Edits.One (Edit.Kill Removal.Invalidate o.region (record_in o)))
    (cond (eqb o.edit 3) (Edits.One (Edit.Kill Removal.Zeroise o.region (record_in o)))
    (cond (eqb o.edit 4) (Edits.One (Edit.Erase o.region))
    (Edits.Erases o.region o.at)))))

-- R12.4: `aim`: what the lookup is for.
abbrev pub aim_in : ℕ → Aim
aim_in aim =
    cond (eqb aim 1) Aim.Get
    (cond (eqb aim 2) Aim.Append
    (cond (eqb aim 3) (Aim.Remove Removal.Invalidate)
    (cond (eqb aim 4) (Aim.Remove Removal.Zeroise)
    Aim.Initialise)))

-- R12.4: `tag`, `b` and `c`: the room that append's lookup has gathered (R5.4), none, not blank or blank.
abbrev pub gathered_in : ℕ → ℕ → ℕ → Option Room
gathered_in tag r o = cond (eqb tag 0) None (some_room r o (eqb tag 2))

-- R12.4: `next`: what follows, a lookup, collect's next region, or an answer.
abbrev pub next_in : COperation → Then
next_in o =
    cond (eqb o.next 1) (Then.Seek (aim_in o.aim) o.a (with_room (gathered_in o.tag o.b o.c) unseen))
    (cond (eqb o.next 2) (Then.Sweep o.a o.b)
    (cond (eqb o.next 3) (Then.Ends (Ok (Complete o.a)))
    (cond (eqb o.next 4) (Then.Ends (Ok Written))
    (Then.Ends (Ok (Freed o.a))))))

-- R12.4: the operation that all twenty numbers say.
unfoldable pub read_as : COperation → Op
read_as o = record {
  s = o.s;
  n = o.n;
  key = o.key;
  lent = lent_in o.lent o.len;
  fresh = eqb o.fresh 1;
  plan = record { edits = edits_in o; next = next_in o };
}

-- Whether they are the numbers of what was read, and 0 where that has none. `own_numbers_only` and `unpacks_packed` say that these are the right tests.

-- R12.5: `fresh` is one of R12.4's.
abbrev pub own_fresh : ℕ → Bool
own_fresh fresh = cond (eqb fresh 1) true (eqb fresh 0)

-- R12.5: `lent` is one of R12.4's, and `len` is 0 where nothing is lent.
abbrev pub own_lent : ℕ → ℕ → Bool
own_lent lent len = cond (eqb lent 0) (eqb len 0) (cond (eqb lent 1) true (eqb lent 2))

-- R12.5: no record is in an edit's numbers: those that only a removal uses are 0.
abbrev pub bare : COperation → Bool
bare o = eqb o.size 0 && (eqb o.found 0 && (eqb o.version 0 && eqb o.flags 0))

-- R12.5: `edit` is one of R12.4's, and those of its numbers that R12.4 gives no meaning for it are 0.
abbrev pub own_edit : COperation → Bool
own_edit o =
    cond (eqb o.edit 0) (eqb o.region 0 && (eqb o.at 0 && bare o))
    (cond (eqb o.edit 1) (bare o)
    (cond (eqb o.edit 2) true
    (cond (eqb o.edit 3) true
    (cond (eqb o.edit 4) (eqb o.at 0 && bare o)
    (eqb o.edit 5 && bare o)))))

-- R12.5: `aim` is one of R12.4's for a lookup.
abbrev pub own_aim : ℕ → Bool
own_aim aim = cond (eqb aim 1) true (cond (eqb aim 2) true (cond (eqb aim 3) true (cond (eqb aim 4) true (eqb aim 5))))

-- R12.5: `tag` is one of R12.4's for a lookup, and without room gathered its region and place are 0.
abbrev pub own_gathered : ℕ → ℕ → ℕ → Bool
own_gathered tag r o = cond (eqb tag 0) (eqb r 0 && eqb o 0) (cond (eqb tag 2) true (eqb tag 1))

-- R12.5: no lookup is in the numbers of what follows: those that only a lookup uses are 0.
abbrev pub plain : COperation → Bool
plain o = eqb o.aim 0 && (eqb o.tag 0 && eqb o.c 0)

-- R12.5: something is left to write or erase: an answer alone is nothing that runs.
abbrev pub left_in : COperation → Bool
left_in o = cond (eqb o.edit 0) false (cond (eqb o.edit 5) (ltb o.region o.at) true)

-- R12.5: an answer that is next has something to write or erase before it, and the numbers that it does not use are 0.
abbrev pub own_end : COperation → Bool
own_end o = plain o && (eqb o.b 0 && left_in o)

-- R12.5: `next` is 1 to 5: the others of R12.4's, 0 and 6, are for nothing that runs. Those of its numbers that R12.4 gives no meaning for it are 0.
abbrev pub own_next : COperation → Bool
own_next o =
    cond (eqb o.next 1) (own_aim o.aim && own_gathered o.tag o.b o.c)
    (cond (eqb o.next 2) (plain o)
    (cond (eqb o.next 3) (own_end o)
    (cond (eqb o.next 4) (eqb o.a 0 && own_end o)
    (eqb o.next 5 && own_end o))))

-- R12.5: numbers stand for an operation: the layout is 8, each of `fresh`, `lent`, `edit`, `next`, `aim` and `tag` is one of R12.4's for something
-- that runs, every number that R12.4 gives no meaning for it is 0, and an answer that is next has something to write or erase before it.
unfoldable pub standing : COperation → Bool
standing o = eqb o.layout 8 && (own_next o && (own_fresh o.fresh && (own_lent o.lent o.len && own_edit o)))

-- R12.5: the operation that numbers stand for, where they stand for any: with anything more in them they stand for none.
pub data KnownOp : Type 0 where
  Known : Op → KnownOp
  Unknown : KnownOp

-- R12.5: which operation numbers stand for.
unfoldable pub unpacked : COperation → KnownOp
unpacked o = cond (standing o) (KnownOp.Known (read_as o)) KnownOp.Unknown

-- R12.3: a reply: 0 begin, 1 done, 2 not ready, 3 failed.
abbrev pub reply_number : Reply → ℕ
reply_number Reply.Begin = 0
reply_number Reply.Done = 1
reply_number Reply.NotReady = 2
reply_number Reply.Failed = 3

-- R12.3: which reply a number stands for: any but these four for none (R6.11).
unfoldable pub known_reply : ℕ → Option Reply
known_reply y =
    cond (eqb y 0) (Some Reply.Begin)
    (cond (eqb y 1) (Some Reply.Done)
    (cond (eqb y 2) (Some Reply.NotReady)
    (cond (eqb y 3) (Some Reply.Failed)
    None)))

-- R12.6: twenty zeros, which a start that refuses hands out. They stand for no operation.
abbrev pub no_operation : COperation
no_operation = record {
  layout = 0;
  fresh = 0;
  lent = 0;
  edit = 0;
  next = 0;
  aim = 0;
  tag = 0;
  version = 0;
  flags = 0;
  s = 0;
  n = 0;
  key = 0;
  len = 0;
  region = 0;
  at = 0;
  size = 0;
  found = 0;
  a = 0;
  b = 0;
  c = 0;
}
