-- Where a run stands between two steps, what holds there, and what one service and the step behind it make of it.
-- Assumes nothing.
use Prim.Native.Nat.{ℕ, ◌+◌, ◌*◌, ◌≤◌, ◌<◌}
use native.Mathlib.Nat.{add-sub_cancel_left}
use native.Mathlib.Omega.{arith}
use mathlib.Core.Path.{◌≡◌, refl, sym, ◌∙◌, ap, subst}
use mathlib.Core.Bool.{Bool, true, false, cond}
use mathlib.Core.List.{List, ◌++◌}
use lib.Dec.{ltb}
use lib.ListN.{length, take, drop, length-append, length-take, length-drop}
use lib.Seq.{length-sets}
use borrow.Author.Tests.{ltb-true, ltb-false}
use Rattle.std.specs.Prelude.{Option, Some}
use Rattle.chip.specs.Chip.{written}
use Rattle.chip.specs.Geometry.{Fits, region_of}
use Rattle.chip.proofs.Image.{region-length, fits_written, fits_erased}
use Rattle.format.specs.declared.Record.{Record}
use Rattle.region.specs.Walk.{value_length, value_in}
use Rattle.plans.specs.declared.Lent.{Lent}
use Rattle.plans.specs.declared.Edit.{Edit}
use Rattle.plans.specs.declared.Then.{Then}
use Rattle.plans.specs.declared.Plan.{Plan}
use Rattle.plans.specs.Writes.{value_lent, value_of, start_of, bytes_of, size_of, edited, laid_in, first, rest}
use Rattle.plans.specs.Fits.{edit_fits, then_fits}
use Rattle.plans.proofs.Facts.{in_chip, edits_facts}
use Rattle.plans.proofs.Laid.{laid-length, laid_there}
use Rattle.values.specs.Values.{read_buffer}
use Rattle.running.specs.declared.Op.{Op}
use Rattle.running.specs.declared.Reply.{Reply}
use Rattle.running.specs.declared.Wait.{Wait}
use Rattle.running.specs.declared.Request.{Request}
use Rattle.running.specs.Waits.{wait_first, wait_of, request_edit, request_for, request_of}
use Rattle.running.specs.Ruled.{Ruled}
use Rattle.rule.specs.Rule.{serves, buffers_fit}
use Rattle.running.proofs.Rules.{plan_of}
use Rattle.rule.proofs.Calls.{fits_of, value_lent_lem}
use Rattle.advancing.specs.Advance.{advance_first, advance, given, filled, filled_by, copied, next_plan, buffer_on}
use Rattle.laying.specs.Lend.{laid_for, laid}
use Rattle.steps.specs.Step.{fits_here, stepped, region_after, buffer_after}
use Rattle.advancing.proofs.Keeps.{advance_gives}
use Rattle.steps.proofs.Keeps.{next_ruled}
use Rattle.stepwise.specs.Asked.{Inside, reads, asks}
use Rattle.stepwise.proofs.Forms.{given_rests, filled_rests}
use Rattle.stepwise.proofs.Starts.{inside}
use Rattle.stepwise.proofs.Misfits.{asks_fits}
use Rattle.runs.specs.Host.{Host, image_served, region_served, region_meanwhile, waited, served}

-- What is left of the plan, the image, and the two buffers; geometry, key and what is lent never change.
pub record Conf : Type 0 where
  pub plan : Plan
  pub image : List ℕ
  pub region : List ℕ
  pub buffer : List ℕ

abbrev pub conf : Plan → List ℕ → List ℕ → List ℕ → Conf
conf plan image region buffer = record { plan = plan; image = image; region = region; buffer = buffer }

-- an edit is off the list
abbrev pub left : Plan → Plan
left p = record { edits = rest p.edits; next = p.next }

-- Buffers keep their lengths.

pub laid_long : (key : ℕ) (value : List ℕ) (w : Wait) (region : List ℕ) → length (laid_for key value w region) ≡ length region
laid_long key value Wait.Begin region = refl
laid_long key value (Wait.Read r) region = refl
laid_long key value (Wait.Edit e) region = laid-length key value e region
laid_long key value (Wait.Over answer) region = refl

read_long : (region : List ℕ) (x : Record) (buffer : List ℕ) → 15 ≤ x.len → x.at + x.len ≤ length region → length (read_buffer region x buffer) ≡ length buffer
read_long region x buffer least fits = go (ltb (length buffer) (value_length x)) refl
  where
    whole : length (value_in region x) ≡ value_length x
    whole = simp (length-take, length-drop) (omega arith)

    go : (t : Bool) → ltb (length buffer) (value_length x) ≡ t
        → length (cond t (take (length buffer) (value_in region x)) (value_in region x ++ drop (value_length x) buffer)) ≡ length buffer
    go true e = let h : length buffer < value_length x = ltb-true _ _ e in length-take (length buffer) (value_in region x) ∙ omega (arith, whole)
    go false e =
        let h : value_length x ≤ length buffer = ltb-false _ _ e in
        length-append (value_in region x) (drop (value_length x) buffer) ∙ omega (arith, whole, length-drop (value_length x) buffer)

copied_long : (lent : Lent) (region : List ℕ) (x : Record) (buffer : List ℕ) → 15 ≤ x.len → x.at + x.len ≤ length region → length (copied lent region x buffer) ≡ length buffer
copied_long Lent.Nothing region x buffer least fits = refl
copied_long (Lent.Value len) region x buffer least fits = refl
copied_long (Lent.Buffer len) region x buffer least fits = read_long region x buffer least fits

filled_long : (n : ℕ) (lent : Lent) (region : List ℕ) (t : Then) (buffer : List ℕ) → then_fits (length region) n lent t ≡ true
    → length (filled_by lent region t buffer) ≡ length buffer
filled_long n lent region (Then.Ends answer) buffer h = refl
filled_long n lent region (Then.Seek aim i seen) buffer h = refl
filled_long n lent region (Then.Sweep r k) buffer h = refl
filled_long n lent region (Then.Gives r x anew) buffer h = let (number, least, most, fits) = in_chip (length region) n r x h in copied_long lent region x buffer least fits

-- What a service makes of the image and the region buffer.

module _ (s n : ℕ) where
  region_long : (q : Request) (region image : List ℕ) → Inside s n q → length region ≡ s → Fits image s n → length (region_served s q region image) ≡ s
  region_long (Request.Read r) region image (reads h) l f = region-length f h
  region_long (Request.Write a e p) region image h l f = l
  region_long (Request.Erase r) region image h l f = l
  region_long (Request.Answers answer) region image h l f = l

  image_fits : (q : Request) (region image : List ℕ) → Fits image s n → Fits (image_served s q region image) s n
  image_fits (Request.Read r) region image f = f
  image_fits (Request.Write a e p) region image f = fits_written f p _
  image_fits (Request.Erase r) region image f = fits_erased f r
  image_fits (Request.Answers answer) region image f = f

-- an edit whose bytes lie in the buffer: the service is the edit
edit_served : (s len key : ℕ) (value : List ℕ) (e : Edit) (region image : List ℕ) → take (size_of len e) (drop (start_of e) region) ≡ bytes_of key value e
    → image_served s (request_edit s len e) region image ≡ edited s key value e image
edit_served s len key value (Edit.Lay r o) region image h = rw (add-sub_cancel_left o (size_of len (Edit.Lay r o))) (ap (written image (r * s + o)) h)
edit_served s len key value (Edit.Kill how r x) region image h =
    let e : Edit = Edit.Kill how r x in
    rw (add-sub_cancel_left (start_of e) (size_of len e)) (ap (written image (r * s + start_of e)) h)
edit_served s len key value (Edit.Erase r) region image h = refl

module _ (s n key : ℕ) (lent : Lent) (value : List ℕ) where
  abbrev pub op_at : Plan → Op
  op_at p = record { s = s; n = n; key = key; lent = lent; fresh = false; plan = p }

  -- the value that is written
  abbrev pub own : List ℕ
  own = value_of lent value

  abbrev pub request_at : Conf → Request
  request_at c = request_of (op_at c.plan)

  -- a host that has just stepped
  abbrev pub at_rest : Conf → Host
  at_rest c = record { op = op_at c.plan; request = request_at c; image = c.image; region = c.region; value = value; buffer = c.buffer }

  abbrev region_then : Conf → List ℕ
  region_then c = region_served s (request_at c) c.region c.image

  abbrev image_then : Conf → List ℕ
  image_then c = image_served s (request_at c) c.region c.image

  abbrev plan_then : Conf → Plan
  plan_then c = next_plan (op_at c.plan) Reply.Done (region_then c)

  -- the service that is asked for is done, and the operation steps
  abbrev pub onward : Conf → Conf
  onward c = conf (plan_then c) (image_then c) (laid (op_at (plan_then c)) (region_then c) value) (buffer_on (op_at c.plan) Reply.Done (region_then c) c.buffer)

  -- What holds between two steps.
  pub record Good (c : Conf) : Type 0 where
    pub kept : Ruled (op_at c.plan)
    pub lends : buffers_fit lent (length value) (length c.buffer) ≡ true
    pub long : length c.region ≡ s
    pub fits : Fits c.image s n
    pub laid_in_lem : (e : Edit) → first c.plan.edits ≡ Some e → take (size_of (value_lent lent) e) (drop (start_of e) c.region) ≡ bytes_of key own e

  -- the bytes of an edit that is waited for are laid
  pub lays : (p : Plan) (region : List ℕ) (buffer : ℕ) → Ruled (op_at p) → buffers_fit lent (length value) buffer ≡ true → length region ≡ s
      → (e : Edit) → first p.edits ≡ Some e → take (size_of (value_lent lent) e) (drop (start_of e) (laid (op_at p) region value)) ≡ bytes_of key own e
  lays p region buffer k b l e h =
      let size : length own ≡ value_lent lent = value_lent_lem lent value buffer b in
      let fit : edit_fits s n (length own) e ≡ true = rw size (edits_facts s n (value_lent lent) p.edits (plan_of (op_at p) k).edits_good h).0 in
      ap (λ (f : Option Edit). take (size_of (value_lent lent) e) (drop (start_of e) (laid_for key own (wait_first key n f p.next) region))) h
      ∙ ap (λ (m : ℕ). take (size_of m e) (drop (start_of e) (laid_in key own e region))) (sym size)
      ∙ laid_there s n key own e region l fit

  pub fit : (c : Conf) (region : List ℕ) → Good c → length region ≡ s → asks (request_at c) ≡ true → (y : Reply) → serves y ≡ true
      → fits_here (op_at c.plan) y region value c.buffer ≡ true
  fit c region g l w y e =
      fits_of (op_at c.plan) y (length region) (length value) (length c.buffer) (g.kept, l, g.lends, asks_fits s (value_lent lent) (wait_of (op_at c.plan)) y w e)

  then_long : (c : Conf) → Good c → length (region_then c) ≡ s
  then_long c g = region_long s n (request_at c) c.region c.image (inside (op_at c.plan) g.kept) g.long g.fits

  -- One beat: "not ready" leaves all as it was, but for the region buffer while a read is under way; a service leads on.
  abbrev pub meanwhile : List ℕ → Conf → Conf
  meanwhile bytes c = conf c.plan c.image (region_meanwhile (request_at c) bytes c.region) c.buffer

  -- where an edit is waited for, the buffer is left alone
  pub edit_waits : (len : ℕ) (bytes : List ℕ) (e : Edit) (region : List ℕ) → region_meanwhile (request_edit s len e) bytes region ≡ region
  edit_waits len bytes (Edit.Lay r o) region = refl
  edit_waits len bytes (Edit.Kill how r x) region = refl
  edit_waits len bytes (Edit.Erase r) region = refl

  meanwhile_long : (bytes : List ℕ) (q : Request) (region : List ℕ) → length (region_meanwhile q bytes region) ≡ length region
  meanwhile_long bytes (Request.Read r) region = length-sets region 0 bytes
  meanwhile_long bytes (Request.Write a e p) region = refl
  meanwhile_long bytes (Request.Erase r) region = refl
  meanwhile_long bytes (Request.Answers answer) region = refl

  pub good_meanwhile : (bytes : List ℕ) (c : Conf) → Good c → Good (meanwhile bytes c)
  good_meanwhile bytes c g = record {
    kept = g.kept;
    lends = g.lends;
    long = meanwhile_long bytes (request_at c) c.region ∙ g.long;
    fits = g.fits;
    laid_in_lem = λ e h.
        let same : region_meanwhile (request_at c) bytes c.region ≡ c.region =
        ap (λ (f : Option Edit). region_meanwhile (request_for s (value_lent lent) (wait_first key n f c.plan.next)) bytes c.region) h ∙ edit_waits (value_lent lent) bytes e c.region in
        ap (λ (t : List ℕ). take (size_of (value_lent lent) e) (drop (start_of e) t)) same ∙ g.laid_in_lem e h;
  }

  pub wait_law : (bytes : List ℕ) (c : Conf) → Good c → asks (request_at c) ≡ true → waited bytes (at_rest c) ≡ at_rest (meanwhile bytes c)
  unfolding stepped region_after buffer_after
  wait_law bytes c g w = rw (fit c (meanwhile bytes c).region g (good_meanwhile bytes c g).long w Reply.NotReady refl)

  pub done_law : (c : Conf) → Good c → asks (request_at c) ≡ true → served s (at_rest c) ≡ at_rest (onward c)
  unfolding stepped region_after buffer_after
  done_law c g w = rw (fit c (region_then c) g (then_long c g) w Reply.Done refl)

  pub good_onward : (c : Conf) → Good c → Good (onward c)
  good_onward c g =
      let region : List ℕ = region_then c in
      let l : length region ≡ s = then_long c g in
      let kept = next_ruled (op_at c.plan) Reply.Done region g.kept l in
      let next = (advance (op_at c.plan) region).next in
      let full = filled_long n lent region next c.buffer (advance_gives (op_at c.plan) region g.kept l) in
      let lends = subst (λ (m : ℕ). buffers_fit lent (length value) m ≡ true) (sym full) g.lends in
      record {
        kept = kept;
        lends = lends;
        long = laid_long key own (wait_of (op_at (plan_then c))) region ∙ l;
        fits = image_fits s n (request_at c) c.region c.image g.fits;
        laid_in_lem = lays (plan_then c) region (length c.buffer) kept g.lends l;
      }

  -- Where a service leads: an edit is off the list and done, or a region was read.
  pub record Leads (c : Conf) (p : Plan) (image buffer : List ℕ) : Type 0 where
    pub plan_is : (onward c).plan ≡ p
    pub image_is : (onward c).image ≡ image
    pub buffer_is : (onward c).buffer ≡ buffer

  pub edit_leads : (c : Conf) (e : Edit) → Good c → first c.plan.edits ≡ Some e → Leads c (left c.plan) (edited s key own e c.image) c.buffer
  edit_leads c e g h =
      let op : Op = op_at c.plan in
      let calm = (plan_of op g.kept).at_rest in
      let ahead : advance op (region_then c) ≡ left c.plan = ap (advance_first op (region_then c)) h in
      record {
        plan_is = ap (given n lent (region_then c)) ahead ∙ given_rests n lent (region_then c) (first c.plan.edits) (left c.plan) calm;
        image_is =
            ap (λ (f : Option Edit). image_served s (request_for s (value_lent lent) (wait_first key n f c.plan.next)) c.region c.image) h
            ∙ edit_served s (value_lent lent) key own e c.region c.image (g.laid_in_lem e h);
        buffer_is = ap (λ (p : Plan). filled lent (region_then c) p c.buffer) ahead ∙ filled_rests n lent (region_then c) (first c.plan.edits) (left c.plan) calm c.buffer;
      }

  pub read_leads : (c : Conf) (r : ℕ) → wait_of (op_at c.plan) ≡ Wait.Read r
      → Leads c (next_plan (op_at c.plan) Reply.Done (region_of s c.image r)) c.image (buffer_on (op_at c.plan) Reply.Done (region_of s c.image r) c.buffer)
  read_leads c r h =
      let region : region_then c ≡ region_of s c.image r = ap (λ (w : Wait). region_served s (request_for s (value_lent lent) w) c.region c.image) h in
      record {
        plan_is = ap (next_plan (op_at c.plan) Reply.Done) region;
        image_is = ap (λ (w : Wait). image_served s (request_for s (value_lent lent) w) c.region c.image) h;
        buffer_is = ap (λ (b : List ℕ). buffer_on (op_at c.plan) Reply.Done b c.buffer) region;
      }
