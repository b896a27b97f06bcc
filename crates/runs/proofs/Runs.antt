-- A run of a call: how it begins, and where it stands after any beats.
-- Assumes nothing.
use Prim.Native.Nat.{ℕ, ◌≤◌, ◌<◌}
use native.Mathlib.Omega.{arith}
use mathlib.Core.Path.{◌≡◌, refl, sym, ◌∙◌, ap, subst}
use mathlib.Core.Bool.{true, false, true≢false}
use mathlib.Core.List.{List}
use lib.ListN.{length, take, replicate}
use lib.Seq.{take_all}
use borrow.Author.Tests.{eq-eqb}
use Rattle.std.specs.Prelude.{Ok}
use Rattle.chip.specs.Geometry.{Fits}
use Rattle.plans.specs.declared.Lent.{Lent}
use Rattle.plans.specs.declared.Then.{Then}
use Rattle.plans.specs.Writes.{follows}
use Rattle.store.specs.Call.{Call, image_after}
use Rattle.running.specs.declared.Op.{Op}
use Rattle.running.specs.declared.Reply.{Reply}
use Rattle.running.specs.declared.Request.{Request}
use Rattle.running.specs.Starts.{started}
use Rattle.running.specs.Waits.{wait_of}
use Rattle.running.specs.Ruled.{Ruled}
use Rattle.rule.specs.Rule.{buffers_fit}
use Rattle.rule.proofs.Calls.{fits_of}
use Rattle.laying.specs.Lend.{laid}
use Rattle.steps.specs.Step.{stepped, region_after, buffer_after}
use Rattle.stepwise.specs.Asked.{asks}
use Rattle.stepwise.specs.Begins.{start_of, key_carried, lent_of, first_of, fresh_of}
use Rattle.stepwise.proofs.Starts.{start_ruled, start_runs}
use Rattle.runs.specs.Host.{Run, Beat, ready, Same, begun, drive, readies, Lends, lends_get, lends_append, lends_remove, lends_collect, lends_initialise}
use Rattle.runs.specs.Services.{services, bytes_written, services_done, Ends}
use Rattle.runs.proofs.Rests.{Conf, conf, op_at, own, at_rest, Good, laid_long, lays}
use Rattle.runs.proofs.Comes.{unwaited, same, Comes, image_comes, Stands, goes_on, ended, stands, Rested, all_rest}
use Rattle.runs.proofs.Calls.{out_of, comes}

lends_fit : (c : Call) (value buffer : List ℕ) → Lends c value buffer → buffers_fit (lent_of c) (length value) (length buffer) ≡ true
lends_fit c value buffer lends_get = eq-eqb (length buffer) (length buffer) refl
lends_fit c value buffer lends_append = eq-eqb (length value) (length value) refl
lends_fit c value buffer lends_remove = refl
lends_fit c value buffer lends_collect = refl
lends_fit c value buffer lends_initialise = refl

-- The step with "begin".
module _ (s n key : ℕ) (lent : Lent) (next : Then) (image region value buffer : List ℕ) (k : Ruled (started s n key lent (follows next))) (l : length region ≡ s)
    (b : buffers_fit lent (length value) (length buffer) ≡ true) where
  abbrev first_rest : Conf
  first_rest = conf (follows next) image (laid (op_at s n key lent value (follows next)) region value) buffer

  begin_law : begun (started s n key lent (follows next)) image region value buffer ≡ at_rest s n key lent value first_rest
  unfolding stepped region_after buffer_after
  begin_law = rw (fits_of (started s n key lent (follows next)) Reply.Begin (length region) (length value) (length buffer) (k, l, b, refl))

  good_first : Fits image s n → Good s n key lent value first_rest
  good_first f =
      let kept : Ruled (op_at s n key lent value (follows next)) = record { shape = k.shape; key_good = k.key_good; fresh_good = refl; plan_good = k.plan_good } in
      record {
        kept = kept;
        lends = b;
        long = laid_long key (own s n key lent value) (wait_of (op_at s n key lent value (follows next))) region ∙ l;
        fits = f;
        laid_in_lem = lays s n key lent value (follows next) region (length buffer) kept b l;
      }

module _ (c : Call) (op : Op) (image region value buffer : List ℕ) (s n : ℕ)
    (starts : start_of c s n ≡ Ok op) (fits : Fits image s n) (long : length region ≡ s) (lends : Lends c value buffer) where
  fresh : Ruled (fresh_of c s n)
  fresh = subst Ruled (start_runs c s n op starts).is (start_ruled c s n starts)

  abbrev rest_first : Conf
  rest_first = first_rest s n (key_carried c) (lent_of c) (first_of c) image region value buffer fresh long (lends_fit c value buffer lends)

  rests : begun op image region value buffer ≡ at_rest s n (key_carried c) (lent_of c) value rest_first
  rests =
      ap (λ (o : Op). begun o image region value buffer) (start_runs c s n op starts).is
      ∙ begin_law s n (key_carried c) (lent_of c) (first_of c) image region value buffer fresh long (lends_fit c value buffer lends)

  good : Good s n (key_carried c) (lent_of c) value rest_first
  good = good_first s n (key_carried c) (lent_of c) (first_of c) image region value buffer fresh long (lends_fit c value buffer lends) fits

  pub run_unwaited : (beats : List Beat) → Same (drive s beats (begun op image region value buffer)) (drive s (replicate (readies beats) ready) (begun op image region value buffer))
  run_unwaited beats = rw rests (unwaited s n (key_carried c) (lent_of c) value (bytes_written c image s n) beats rest_first good good same)

  whole : Comes s n (key_carried c) (lent_of c) value (bytes_written c image s n) (follows (first_of c)) image buffer (services c image s n) (out_of c image s n buffer)
  whole = comes c s n value image buffer fits lends (start_runs c s n op starts).fine

  run_stands : (beats : List Beat)
      → Stands s (bytes_written c image s n) (readies beats) image (services c image s n) (out_of c image s n buffer) (drive s beats (begun op image region value buffer))
  run_stands beats = rw rests (stands s n (key_carried c) (lent_of c) value (bytes_written c image s n) beats rest_first good refl refl refl whole)

  -- the image at the end is the one before with all the services done
  pub image_end : image_after c image s n ≡ services_done s (bytes_written c image s n) (services c image s n) image
  image_end = image_comes s n (key_carried c) (lent_of c) value (bytes_written c image s n) whole

  pub run_ends : (beats : List Beat) → length (services c image s n) ≤ readies beats → Ends c image s n buffer (drive s beats (begun op image region value buffer))
  run_ends beats h = go (run_stands beats)
    where
      go : {run : Run} → Stands s (bytes_written c image s n) (readies beats) image (services c image s n) (out_of c image s n buffer) run → Ends c image s n buffer run
      go (goes_on l a d i) = absurd (omega arith)
      go (ended l a i b d) = record { answer = a; image_is = i; buffer_is = b; did = d }

  pub run_answered : (beats : List Beat) → asks (drive s beats (begun op image region value buffer)).host.request ≡ false
      → Ends c image s n buffer (drive s beats (begun op image region value buffer))
  run_answered beats h = go (run_stands beats) h
    where
      go : {run : Run} → Stands s (bytes_written c image s n) (readies beats) image (services c image s n) (out_of c image s n buffer) run → asks run.host.request ≡ false
          → Ends c image s n buffer run
      go (goes_on l a d i) h = absurd (true≢false (sym a ∙ h))
      go (ended l a i b d) h = record { answer = a; image_is = i; buffer_is = b; did = d }

  pub run_goes_on : (beats : List Beat) → readies beats < length (services c image s n)
      → asks (drive s beats (begun op image region value buffer)).host.request ≡ true
  run_goes_on beats h = go (run_stands beats)
    where
      go : {run : Run} → Stands s (bytes_written c image s n) (readies beats) image (services c image s n) (out_of c image s n buffer) run → asks run.host.request ≡ true
      go (goes_on l a d i) = a
      go (ended l a i b d) = absurd (omega arith)

  -- after any beats
  pub run_middle : (beats : List Beat)
      → ((drive s beats (begun op image region value buffer)).did ≡ take (readies beats) (services c image s n))
      × ((drive s beats (begun op image region value buffer)).host.image ≡ services_done s (bytes_written c image s n) (take (readies beats) (services c image s n)) image)
  run_middle beats = go (run_stands beats)
    where
      all : length (services c image s n) ≤ readies beats → take (readies beats) (services c image s n) ≡ services c image s n
      all h = take_all (readies beats) (services c image s n) h

      go : {run : Run} → Stands s (bytes_written c image s n) (readies beats) image (services c image s n) (out_of c image s n buffer) run
          → (run.did ≡ take (readies beats) (services c image s n))
          × (run.host.image ≡ services_done s (bytes_written c image s n) (take (readies beats) (services c image s n)) image)
      go (goes_on l a d i) = (d, i)
      go (ended l a i b d) = (d ∙ sym (all l), i ∙ image_end ∙ ap (λ (qs : List Request). services_done s (bytes_written c image s n) qs image) (sym (all l)))

  -- A host that lends the same buffers each time: value and buffers of a run are never changed in length, and an operation that asks keeps the rule.
  pub run_rests : (beats : List Beat) → Rested s n (key_carried c) (lent_of c) value (bytes_written c image s n) (drive s beats (begun op image region value buffer)).host
  run_rests beats = rw rests (all_rest s n (key_carried c) (lent_of c) value (bytes_written c image s n) beats rest_first good)
