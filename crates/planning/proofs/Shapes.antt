-- What a lookup is for and what the plan after it can be, for any aim: two needs and five forms. The aims are told apart here, once; what holds of the
-- forms holds of every plan.
-- Assumes nothing.
use Prim.Native.Nat.{ℕ}
use mathlib.Core.Path.{◌≡◌, refl}
use mathlib.Core.Bool.{Bool, true, false}
use Rattle.std.specs.Prelude.{Option, Some, None}
use Rattle.format.specs.declared.Record.{Record}
use Rattle.format.specs.declared.Removal.{Removal}
use Rattle.format.specs.Layout.{record_length}
use Rattle.lookup.specs.declared.Seen.{Seen}
use Rattle.lookup.specs.declared.Looked.{Looked}
use Rattle.lookup.specs.Turns.{refused_by, hit_by}
use Rattle.plans.specs.declared.Aim.{Aim}
use Rattle.plans.specs.declared.Lent.{Lent}
use Rattle.plans.specs.declared.Edit.{Edit}
use Rattle.plans.specs.declared.Edits.{Edits}
use Rattle.plans.specs.declared.Plan.{Plan}
use Rattle.plans.specs.Fits.{lent_nothing, lent_to_append, lent_for}
use Rattle.plans.specs.Writes.{refuses}
use Rattle.planning.specs.Planning.{need_of, writes, gives, anew, get_plan, append_plan, remove_plan, initialise_plan, plan}

-- Where a value that cannot be given has the chip made anew, what is lent is what an append takes.
abbrev pub renews : Bool → Lent → Bool
renews false lent = true
renews true lent = lent_to_append lent

-- Of a lookup's end: it is refused, its record's value is given, its record is removed, a place is taken, or everything is made anew. `t` is the test of
-- what is lent, that of the aim.
pub data Shape (n : ℕ) (lent : Lent) (t : Bool) : Looked → Plan → Type 0 where
  is_refused : {looked : Looked} → Shape n lent t looked (refuses (refused_by looked))
  is_given : {r : ℕ} {x : Record} {again : Bool} → (t ≡ true → renews again lent ≡ true) → Shape n lent t (Looked.Live r x) (gives r x again)
  is_removed : (how : Removal) {r : ℕ} {x : Record} → Shape n lent t (Looked.Live r x) (writes (Edits.One (Edit.Kill how r x)))
  is_placed : {seen : Seen} → Shape n lent t (Looked.Through seen) (append_plan (Looked.Through seen))
  is_anew : {looked : Looked} → (t ≡ true → lent_to_append lent ≡ true) → Shape n lent t looked (anew n)

-- What a lookup is for, where a value of so many bytes is lent: nothing, or the room of its record.
pub data Needs (len : ℕ) : Option ℕ → Type 0 where
  for_nothing : Needs len None
  for_record : Needs len (Some (record_length len))

-- what is lent none can be appended, as an empty value
nothing_appends : (lent : Lent) → lent_nothing lent ≡ true → lent_to_append lent ≡ true
nothing_appends Lent.Nothing h = refl
nothing_appends (Lent.Value len) h = refl
nothing_appends (Lent.Buffer len) h = h

module _ (n : ℕ) (lent : Lent) where
  get_shape : {t : Bool} (looked : Looked) → Shape n lent t looked (get_plan (hit_by looked))
  get_shape (Looked.Live r x) = is_given (λ h. refl)
  get_shape (Looked.Bad f p) = is_refused
  get_shape (Looked.Through seen) = is_refused

  append_shape : {t : Bool} (looked : Looked) → Shape n lent t looked (append_plan looked)
  append_shape (Looked.Live r x) = is_refused
  append_shape (Looked.Bad f p) = is_refused
  append_shape (Looked.Through seen) = is_placed

  remove_shape : {t : Bool} (how : Removal) (looked : Looked) → Shape n lent t looked (remove_plan how (hit_by looked))
  remove_shape how (Looked.Live r x) = is_removed how
  remove_shape how (Looked.Bad f p) = is_refused
  remove_shape how (Looked.Through seen) = is_refused

  initialise_shape : (looked : Looked) → Shape n lent (lent_nothing lent) looked (initialise_plan n (hit_by looked))
  initialise_shape (Looked.Live r x) = is_given (nothing_appends lent)
  initialise_shape (Looked.Bad f p) = is_anew (nothing_appends lent)
  initialise_shape (Looked.Through seen) = is_anew (nothing_appends lent)

  -- What is known of an aim: what its lookup is for, and the form of its plan. The one table.
  record Aimed (len : ℕ) (aim : Aim) : Type 0 where
    needs : Needs len (need_of aim len)
    shape : (looked : Looked) → Shape n lent (lent_for aim lent) looked (plan aim n looked)

  aimed : (len : ℕ) (aim : Aim) → Aimed len aim
  aimed len Aim.Get = record { needs = for_nothing; shape = get_shape }
  aimed len Aim.Append = record { needs = for_record; shape = append_shape }
  aimed len (Aim.Remove how) = record { needs = for_nothing; shape = remove_shape how }
  aimed len Aim.Initialise = record { needs = for_nothing; shape = initialise_shape }

  pub plan_shape : (aim : Aim) (looked : Looked) → Shape n lent (lent_for aim lent) looked (plan aim n looked)
  plan_shape aim = (aimed 0 aim).shape

pub aim_needs : (len : ℕ) (aim : Aim) → Needs len (need_of aim len)
aim_needs len aim = (aimed 0 Lent.Nothing len aim).needs
