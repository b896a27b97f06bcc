-- An honest host, one service at a time: what an operation with this left of its plan comes to. One induction says that a host which is ready often
-- enough goes this way, whatever its waiting leaves in the region buffer, and another that waiting does not matter.
-- Assumes nothing.
use Prim.Native.Nat.{ℕ, suc, ◌≤◌, ◌<◌}
use native.Mathlib.Omega.{arith}
use mathlib.Core.Path.{◌≡◌, refl, sym, ◌∙◌, ap, subst}
use mathlib.Core.Bool.{Bool, true, false}
use mathlib.Core.List.{List, [], ◌∷◌}
use lib.ListN.{length, take, replicate}
use Rattle.std.specs.Prelude.{Option, Some}
use Rattle.chip.specs.Geometry.{region_of}
use Rattle.plans.specs.declared.Lent.{Lent}
use Rattle.plans.specs.declared.Edit.{Edit}
use Rattle.plans.specs.declared.Plan.{Plan}
use Rattle.plans.specs.Answers.{Answer}
use Rattle.plans.specs.Writes.{value_lent, edited, first}
use Rattle.running.specs.declared.Reply.{Reply}
use Rattle.running.specs.declared.Wait.{Wait}
use Rattle.running.specs.declared.Request.{Request}
use Rattle.running.specs.Waits.{wait_first, wait_of, request_edit, request_for}
use Rattle.advancing.specs.Advance.{next_plan, buffer_on}
use Rattle.stepwise.specs.Asked.{asks}
use Rattle.stepwise.proofs.Misfits.{edit_asks as serves-edit}
use Rattle.laying.specs.Lend.{laid}
use Rattle.runs.specs.Host.{Host, Run, Beat, ready, waiting, Same, service_done, image_served, region_served, region_meanwhile, logged, drive, readies}
use Rattle.runs.specs.Services.{services_done}
use Rattle.runs.proofs.Rests.{Conf, conf, left, op_at, own, request_at, at_rest, onward, meanwhile, Good, wait_law, good_meanwhile, done_law, good_onward, edit_waits, edit_leads, read_leads}

-- what an operation comes to
pub record Out : Type 0 where
  pub answer : Answer
  pub image : List ℕ
  pub buffer : List ℕ

abbrev pub out : Answer → List ℕ → List ℕ → Out
out answer image buffer = record { answer = answer; image = image; buffer = buffer }

-- Where a host stands that was ready m times: it asks for a service and has done the first m, or has done all and ended.
pub data Stands (s : ℕ) (bytes : List ℕ) (m : ℕ) (image : List ℕ) (rs : List Request) (o : Out) (run : Run) : Type 0 where
  goes_on : m < length rs → asks run.host.request ≡ true → run.did ≡ take m rs → run.host.image ≡ services_done s bytes (take m rs) image
      → Stands s bytes m image rs o run
  ended : length rs ≤ m → run.host.request ≡ Request.Answers o.answer → run.host.image ≡ o.image → run.host.buffer ≡ o.buffer → run.did ≡ rs
      → Stands s bytes m image rs o run

-- one service more, at the front
later : {s : ℕ} {bytes : List ℕ} {m : ℕ} {image image' : List ℕ} {q : Request} {rs : List Request} {o : Out} {run : Run} → image' ≡ service_done s bytes q image
    → Stands s bytes m image' rs o run → Stands s bytes (suc m) image (q ∷ rs) o (logged q run)
unfolding services_done
later {s = s} {bytes = bytes} {m = m} {q = q} {rs = rs} does (goes_on h a d i) =
    goes_on (omega arith) a (ap (λ (l : List Request). q ∷ l) d) (i ∙ ap (services_done s bytes (take m rs)) does)
later {q = q} does (ended h a i b d) = ended (omega arith) a i b (ap (λ (l : List Request). q ∷ l) d)

module _ (s n key : ℕ) (lent : Lent) (value : List ℕ) (bytes : List ℕ) where
  -- an edit is what its service does to an image, where a write has these bytes
  abbrev pub Serves : Edit → Type 0
  Serves e = (image : List ℕ) → edited s key (own s n key lent value) e image ≡ service_done s bytes (request_edit s (value_lent lent) e) image

  -- with this left of its plan, on this image and this buffer, by these services
  pub data Comes : Plan → List ℕ → List ℕ → List Request → Out → Type 0 where
    over : {p : Plan} {image buffer : List ℕ} {a : Answer} → wait_of (op_at s n key lent value p) ≡ Wait.Over a → Comes p image buffer [] (out a image buffer)
    edit : {p : Plan} {image buffer : List ℕ} {rs : List Request} {o : Out} {e : Edit} → first p.edits ≡ Some e → Serves e
        → Comes (left p) (edited s key (own s n key lent value) e image) buffer rs o → Comes p image buffer (request_edit s (value_lent lent) e ∷ rs) o
    read : {p : Plan} {image buffer : List ℕ} {rs : List Request} {o : Out} {r : ℕ} → wait_of (op_at s n key lent value p) ≡ Wait.Read r
        → Comes (next_plan (op_at s n key lent value p) Reply.Done (region_of s image r)) image
        (buffer_on (op_at s n key lent value p) Reply.Done (region_of s image r) buffer) rs o
        → Comes p image buffer (Request.Read r ∷ rs) o

  -- the image that it comes to is the one before with all its services done
  pub image_comes : {p : Plan} {image buffer : List ℕ} {rs : List Request} {o : Out} → Comes p image buffer rs o → o.image ≡ services_done s bytes rs image
  unfolding services_done
  image_comes (over h) = refl
  image_comes {image = image} (edit {rs = rs} h d c) = image_comes c ∙ ap (services_done s bytes rs) (d image)
  image_comes (read h c) = image_comes c

  abbrev rest_of : Conf → Host
  rest_of = at_rest s n key lent value

  abbrev after : Conf → Conf
  after = onward s n key lent value

  abbrev asked : Conf → Request
  asked = request_at s n key lent value

  abbrev while : List ℕ → Conf → Conf
  while = meanwhile s n key lent value

  -- nothing is done once the operation has answered
  idle : (beats : List Beat) (h : Host) → asks h.request ≡ false → drive s beats h ≡ record { host = h; did = [] }
  unfolding drive
  idle [] h e = refl
  idle (b ∷ beats) h e = rw e

  ready_beat : (beats : List Beat) (c : Conf) → Good s n key lent value c → asks (asked c) ≡ true
      → drive s (ready ∷ beats) (rest_of c) ≡ logged (asked c) (drive s beats (rest_of (after c)))
  unfolding drive
  ready_beat beats c g w = rw (w, done_law s n key lent value c g w)

  wait_beat : (under_way : List ℕ) (beats : List Beat) (c : Conf) → Good s n key lent value c → asks (asked c) ≡ true
      → drive s (waiting under_way ∷ beats) (rest_of c) ≡ drive s beats (rest_of (while under_way c))
  unfolding drive
  wait_beat under_way beats c g w = rw (w, wait_law s n key lent value under_way c g w)

  edit_asks : (c : Conf) (e : Edit) → first c.plan.edits ≡ Some e → asked c ≡ request_edit s (value_lent lent) e
  edit_asks c e h = ap (λ (f : Option Edit). request_for s (value_lent lent) (wait_first key n f c.plan.next)) h

  read_asks : (c : Conf) (r : ℕ) → wait_of (op_at s n key lent value c.plan) ≡ Wait.Read r → asked c ≡ Request.Read r
  read_asks c r h = ap (request_for s (value_lent lent)) h

  -- From a place to the one behind its first service.
  next_beat : (beats : List Beat) (c : Conf) (q : Request) {image image' : List ℕ} {rs : List Request} {o : Out} → Good s n key lent value c → asked c ≡ q → asks q ≡ true
      → image' ≡ service_done s bytes q image
      → Stands s bytes (readies beats) image' rs o (drive s beats (rest_of (after c))) → Stands s bytes (suc (readies beats)) image (q ∷ rs) o (drive s (ready ∷ beats) (rest_of c))
  next_beat beats c q {image = image} {rs = rs} {o = o} g e w does h =
      let beat = ready_beat beats c g (ap asks e ∙ w) in
      subst (λ (run : Run). Stands s bytes (suc (readies beats)) image (q ∷ rs) o run) (sym (beat ∙ ap (λ (q : Request). logged q (drive s beats (rest_of (after c)))) e)) (later does h)

  pub stands : (beats : List Beat) (c : Conf) {p : Plan} {image buffer : List ℕ} {rs : List Request} {o : Out} → Good s n key lent value c
      → c.plan ≡ p → c.image ≡ image → c.buffer ≡ buffer → Comes p image buffer rs o → Stands s bytes (readies beats) image rs o (drive s beats (rest_of c))
  unfolding drive readies services_done
  stands beats c g ep ei eb (over {a = a} h) =
      let says : asked c ≡ Request.Answers a = ap (λ (p : Plan). request_for s (value_lent lent) (wait_of (op_at s n key lent value p))) ep ∙ ap (request_for s (value_lent lent)) h in
      rw (idle beats (rest_of c) (ap asks says)) (ended (omega arith) says ei eb refl)
  stands [] c g ep ei eb (edit {e = e} h d r) = goes_on (omega arith) (ap asks (edit_asks c e (ap (λ (p : Plan). first p.edits) ep ∙ h)) ∙ serves-edit s (value_lent lent) e) refl ei
  stands [] c g ep ei eb (read {r = q} h r) = goes_on (omega arith) (ap asks (read_asks c q (ap (λ (p : Plan). wait_of (op_at s n key lent value p)) ep ∙ h))) refl ei
  stands (waiting b ∷ beats) c g ep ei eb (edit {e = e} h d r) =
      let w = ap asks (edit_asks c e (ap (λ (p : Plan). first p.edits) ep ∙ h)) ∙ serves-edit s (value_lent lent) e in
      rw (wait_beat b beats c g w) (stands beats (while b c) (good_meanwhile s n key lent value b c g) ep ei eb (edit h d r))
  stands (waiting b ∷ beats) c g ep ei eb (read {r = q} h r) =
      let w = ap asks (read_asks c q (ap (λ (p : Plan). wait_of (op_at s n key lent value p)) ep ∙ h)) in
      rw (wait_beat b beats c g w) (stands beats (while b c) (good_meanwhile s n key lent value b c g) ep ei eb (read h r))
  stands (ready ∷ beats) c {image = image} g ep ei eb (edit {e = e} h d r) =
      let h' : first c.plan.edits ≡ Some e = ap (λ (p : Plan). first p.edits) ep ∙ h in
      let l = edit_leads s n key lent value c e g h' in
      next_beat beats c (request_edit s (value_lent lent) e) g (edit_asks c e h') (serves-edit s (value_lent lent) e) (d image)
      (stands beats (after c) (good_onward s n key lent value c g) (l.plan_is ∙ ap left ep) (l.image_is ∙ ap (edited s key (own s n key lent value) e) ei) (l.buffer_is ∙ eb) r)
  stands (ready ∷ beats) c g ep ei eb (read {r = q} h r) =
      let h' : wait_of (op_at s n key lent value c.plan) ≡ Wait.Read q = ap (λ (p : Plan). wait_of (op_at s n key lent value p)) ep ∙ h in
      let l = read_leads s n key lent value c q h' in
      next_beat beats c (Request.Read q) g (read_asks c q h') refl refl
      (stands beats (after c) (good_onward s n key lent value c g)
      (l.plan_is ∙ (λ j. next_plan (op_at s n key lent value (ep j)) Reply.Done (region_of s (ei j) q)))
      (l.image_is ∙ ei)
      (l.buffer_is ∙ (λ j. buffer_on (op_at s n key lent value (ep j)) Reply.Done (region_of s (ei j) q) (eb j))) r)

  -- Waiting does not matter: once for all operations.

  -- two places that differ in the region buffer at most, and there only while a read is asked for
  pub data Near (c : Conf) : List ℕ → Type 0 where
    same : Near c c.region
    under_way : {region : List ℕ} {r : ℕ} → wait_of (op_at s n key lent value c.plan) ≡ Wait.Read r → Near c region

  abbrev pub with_region : Conf → List ℕ → Conf
  with_region c region = conf c.plan c.image region c.buffer

  -- a service makes the same of both
  onward_near : (c : Conf) {region : List ℕ} → Near c region → after (with_region c region) ≡ after c
  onward_near c same = refl
  onward_near c {region} (under_way {r = r} h) = ap (from region) asks_read ∙ sym (ap (from c.region) asks_read)
    where
      asks_read : asked c ≡ Request.Read r
      asks_read = read_asks c r h

      -- by what is asked for
      from : List ℕ → Request → Conf
      from region q =
          let p : Plan = next_plan (op_at s n key lent value c.plan) Reply.Done (region_served s q region c.image) in
          conf p (image_served s q region c.image) (laid (op_at s n key lent value p) (region_served s q region c.image) value)
          (buffer_on (op_at s n key lent value c.plan) Reply.Done (region_served s q region c.image) c.buffer)

  -- waiting leaves them so
  while_near : (b : List ℕ) (c : Conf) {region : List ℕ} → Near c region → Near (while b c) region
  while_near b c same = go (wait_of (op_at s n key lent value c.plan)) refl
    where
      stays : (w : Wait) → wait_of (op_at s n key lent value c.plan) ≡ w → region_meanwhile (request_for s (value_lent lent) w) b c.region ≡ c.region → Near (while b c) c.region
      stays w e h = subst (Near (while b c)) (ap (λ (v : Wait). region_meanwhile (request_for s (value_lent lent) v) b c.region) e ∙ h) same

      go : (w : Wait) → wait_of (op_at s n key lent value c.plan) ≡ w → Near (while b c) c.region
      go Wait.Begin e = stays Wait.Begin e refl
      go (Wait.Read r) e = under_way e
      go (Wait.Edit d) e = stays (Wait.Edit d) e (edit_waits s n key lent value (value_lent lent) b d c.region)
      go (Wait.Over answer) e = stays (Wait.Over answer) e refl
  while_near b c (under_way h) = under_way h

  abbrev at_once : List Beat → List Beat
  at_once beats = replicate (readies beats) ready

  -- where both stand still
  stand_still : (c : Conf) {region : List ℕ} → Near c region → Same (record { host = rest_of c; did = [] }) (record { host = rest_of (with_region c region); did = [] })
  stand_still c near = record { op_is = refl; request_is = refl; image_is = refl; region_is = go near; value_is = refl; buffer_is = refl; did_is = refl }
    where
      go : {region : List ℕ} → Near c region → ((r : ℕ) → asked c ≡ Request.Read r → ⊥) → c.region ≡ region
      go same none = refl
      go (under_way {r = r} h) none = absurd (none r (read_asks c r h))

  logged_same : (q : Request) {run run' : Run} → Same run run' → Same (logged q run) (logged q run')
  logged_same q e = record {
    op_is = e.op_is;
    request_is = e.request_is;
    image_is = e.image_is;
    region_is = e.region_is;
    value_is = e.value_is;
    buffer_is = e.buffer_is;
    did_is = ap (λ (l : List Request). q ∷ l) e.did_is;
  }

  pub unwaited : (beats : List Beat) (c : Conf) {region : List ℕ} → Good s n key lent value c → Good s n key lent value (with_region c region) → Near c region
      → Same (drive s beats (rest_of c)) (drive s (at_once beats) (rest_of (with_region c region)))
  unfolding drive readies
  unwaited [] c g g' near = stand_still c near
  unwaited (ready ∷ beats) c {region} g g' near = let good = good_onward s n key lent value c g in go (unwaited beats (after c) good good same) (asks (asked c)) refl
    where
      go : Same (drive s beats (rest_of (after c))) (drive s (at_once beats) (rest_of (after c))) → (t : Bool) → asks (asked c) ≡ t
          → Same (drive s (ready ∷ beats) (rest_of c)) (drive s (ready ∷ at_once beats) (rest_of (with_region c region)))
      go ih true w =
          let behind : drive s (at_once beats) (rest_of (after (with_region c region))) ≡ drive s (at_once beats) (rest_of (after c)) =
          ap (λ (d : Conf). drive s (at_once beats) (rest_of d)) (onward_near c near) in
          rw (ready_beat beats c g w, ready_beat (at_once beats) (with_region c region) g' w, behind) (logged_same (asked c) ih)
      go ih false w = rw (idle (ready ∷ beats) (rest_of c) w, idle (ready ∷ at_once beats) (rest_of (with_region c region)) w) (stand_still c near)
  unwaited (waiting b ∷ beats) c {region} g g' near =
      go (unwaited beats (while b c) (good_meanwhile s n key lent value b c g) g' (while_near b c near)) (asks (asked c)) refl
    where
      go : Same (drive s beats (rest_of (while b c))) (drive s (at_once beats) (rest_of (with_region c region))) → (t : Bool) → asks (asked c) ≡ t
          → Same (drive s (waiting b ∷ beats) (rest_of c)) (drive s (at_once beats) (rest_of (with_region c region)))
      go ih true w = rw (wait_beat b beats c g w) ih
      go ih false w = rw (idle (waiting b ∷ beats) (rest_of c) w, idle (at_once beats) (rest_of (with_region c region)) w) (stand_still c near)

  -- Wherever a run stands, it rests: for a step with any reply.
  pub data Rested : Host → Type 0 where
    at : (c : Conf) → Good s n key lent value c → Rested (rest_of c)

  pub all_rest : (beats : List Beat) (c : Conf) → Good s n key lent value c → Rested (drive s beats (rest_of c)).host
  unfolding drive
  all_rest [] c g = at c g
  all_rest (ready ∷ beats) c g = go (all_rest beats (after c) (good_onward s n key lent value c g)) (asks (asked c)) refl
    where
      go : Rested (drive s beats (rest_of (after c))).host → (t : Bool) → asks (asked c) ≡ t → Rested (drive s (ready ∷ beats) (rest_of c)).host
      go ih true w = rw (ready_beat beats c g w) ih
      go ih false w = rw (idle (ready ∷ beats) (rest_of c) w) (at c g)
  all_rest (waiting b ∷ beats) c g = go (all_rest beats (while b c) (good_meanwhile s n key lent value b c g)) (asks (asked c)) refl
    where
      go : Rested (drive s beats (rest_of (while b c))).host → (t : Bool) → asks (asked c) ≡ t → Rested (drive s (waiting b ∷ beats) (rest_of c)).host
      go ih true w = rw (wait_beat b beats c g w) ih
      go ih false w = rw (idle (waiting b ∷ beats) (rest_of c) w) (at c g)
