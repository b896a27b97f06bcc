-- Where a start refuses, the one-call form refuses with the same and does nothing: both look at S, N, the key and the value's length alone.
-- Assumes nothing.
use Prim.Native.Nat.{ℕ, ◌*◌}
use native.Mathlib.Omega.{arith}
use mathlib.Core.Path.{◌≡◌, refl, sym, ◌∙◌, ap}
use mathlib.Core.Bool.{Bool, true, false, ◌&&◌, not, cond}
use mathlib.Core.List.{List, []}
use lib.Dec.{ltb, eqb}
use lib.ListN.{length}
use Rattle.std.specs.Prelude.{Result, Ok, Err}
use Rattle.chip.specs.Chip.{erased}
use Rattle.chip.specs.Geometry.{sized, geometry, numbers}
use Rattle.probe.specs.Probe.{allowed_key}
use Rattle.format.specs.Layout.{edition, largest_value}
use Rattle.refusals.specs.declared.Refusal.{Refusal}
use Rattle.refusals.specs.Refusals.{refusal_under, first_refusal}
use Rattle.lookup.specs.Turns.{hit_after, hit_of}
use Rattle.plans.specs.Answers.{starts_anew, Answer}
use Rattle.plans.specs.Writes.{value_lent, applied}
use Rattle.store.specs.Read.{got_by, get_of}
use Rattle.store.specs.Write.{refused, append_after, append_of, remove_by, remove_of, initialise_by, initialise_of}
use Rattle.store.specs.Collect.{collect_in, collect_of}
use Rattle.store.specs.Call.{Call, get, append, remove, collect, initialise}
use Rattle.running.specs.declared.Op.{Op}
use Rattle.running.specs.declared.Request.{Request}
use Rattle.running.specs.Starts.{start_refusal, started_or}
use Rattle.stepwise.specs.Begins.{start_of, key_carried, lent_of, fresh_of}
use Rattle.stepwise.proofs.Starts.{starts_so}
use Rattle.runs.specs.Services.{unless_refused, collect_services, services}
use Rattle.runs.proofs.Comes.{Out, out}
use Rattle.runs.proofs.Calls.{leaves, out_of, first_same}

-- refusals 1, 2 and 3 are handed back
first_kept : (image : List ℕ) (s n key len : ℕ) (w : Refusal) → first_refusal image s n key len ≡ Err w → starts_anew (Err w) ≡ false
unfolding first_refusal
first_kept image s n key len w = go (geometry image s n) (allowed_key key) (ltb (largest_value edition) len)
  where
    go : (a b c : Bool)
        → cond (not a) (Err Refusal.BadGeometry) (cond (not b) (Err Refusal.BadKey) (cond c (Err Refusal.ObjectTooLarge) (Ok (tt {0})))) ≡ Err w
        → starts_anew (Err w) ≡ false
    go false b c h = ap (λ (w : Refusal). starts_anew (Err w)) (let e : w ≡ Refusal.BadGeometry = cc in e)
    go true false c h = ap (λ (w : Refusal). starts_anew (Err w)) (let e : w ≡ Refusal.BadKey = cc in e)
    go true true true h = ap (λ (w : Refusal). starts_anew (Err w)) (let e : w ≡ Refusal.ObjectTooLarge = cc in e)
    go true true false h = absurd (let z : ◌≡◌ {A = ℕ} 0 1 = cc in omega arith)

-- so that initialise starts nothing anew
pub first_anew : (image : List ℕ) (s n key : ℕ) (w : Refusal) → first_refusal image s n key 0 ≡ Err w → starts_anew (get_of image s n key []).answer ≡ false
unfolding get_of hit_of
first_anew image s n key w e = ap (λ (c : Result (Unit {0}) Refusal). starts_anew (got_by s image [] (hit_after image s n key c)).answer) e ∙ first_kept image s n key 0 w e

-- what a call that is refused comes to: its services, and what it leaves
pub record Listed : Type 0 where
  pub did : List Request
  pub leaving : Out

abbrev pub listed : List Request → Out → Listed
listed did leaving = record { did = did; leaving = leaving }

module _ (image : List ℕ) (s n : ℕ) (size : length image ≡ n * s) (w : Refusal) where
  refuses : (op : Op) (check : Result (Unit {0}) Refusal) → started_or op check ≡ Err w → check ≡ Err w
  refuses op (Ok u) h = absurd (let z : ◌≡◌ {A = ℕ} 0 1 = cc in omega arith)
  refuses op (Err v) h = cc

  got_refused : (key : ℕ) (buffer : List ℕ) → first_refusal image s n key 0 ≡ Err w → get_of image s n key buffer ≡ record { answer = Err w; buffer = buffer }
  unfolding get_of hit_of
  got_refused key buffer e = ap (λ (c : Result (Unit {0}) Refusal). got_by s image buffer (hit_after image s n key c)) e

  -- collect has no key that could be refused
  collect_refused : start_refusal s n 1 0 ≡ Err w → (sized s n ≡ false) × (w ≡ Refusal.BadGeometry)
  unfolding start_refusal
  collect_refused h = go (sized s n) h
    where
      go : (t : Bool) → refusal_under t 1 0 ≡ Err w → (t ≡ false) × (w ≡ Refusal.BadGeometry)
      go true h = absurd (let z : ◌≡◌ {A = ℕ} 0 1 = cc in omega arith)
      go false h = (refl, cc)

  -- refused, whatever it would have asked for
  asks_none : (asked : List Request) {c : Result (Unit {0}) Refusal} {o left : Out} → c ≡ Err w → o ≡ left → listed (unless_refused c asked) o ≡ listed [] left
  asks_none asked e h = λ i. listed (unless_refused (e i) asked) (h i)

  refused_by_lem : (c : Call) (buffer : List ℕ) → start_refusal s n (key_carried c) (value_lent (lent_of c)) ≡ Err w
      → first_refusal image s n (key_carried c) (value_lent (lent_of c)) ≡ Err w
      → listed (services c image s n) (out_of c image s n buffer) ≡ listed [] (out (Err w) image buffer)
  unfolding services append_of remove_of hit_of collect_of initialise_of geometry applied
  refused_by_lem (get key same) buffer q e = asks_none _ e (λ i. out (got_refused key same e i).answer image (got_refused key buffer e i).buffer)
  refused_by_lem (append key value) buffer q e =
      asks_none _ e (ap (λ (c : Result (Unit {0}) Refusal). leaves (append_after image s n key value c) buffer) e)
  refused_by_lem (remove how key) buffer q e =
      asks_none _ e (ap (λ (c : Result (Unit {0}) Refusal). leaves (remove_by how s image key (hit_after image s n key c)) buffer) e)
  refused_by_lem collect buffer q e =
      let (unsized, why) = collect_refused q in
      ap (λ (t : Bool). listed (cond t (collect_services s image (numbers 0 n)) []) (leaves (cond t (collect_in s image 0 (numbers 0 n)) (refused Refusal.BadGeometry image)) buffer))
      (ap (λ (t : Bool). t && eqb (length image) (n * s)) unsized)
      ∙ ap (λ (w : Refusal). listed [] (out (Err w) image buffer)) (sym why)
  refused_by_lem (initialise key) buffer q e =
      let a : (get_of image s n key []).answer ≡ Err w = λ i. (got_refused key [] e i).answer in
      asks_none _ e
      (ap (λ (answer : Answer). leaves (initialise_by image s n key answer) buffer) a
      ∙ ap (λ (t : Bool). leaves (cond t (append_of (erased (n * s)) s n key []) (refused w image)) buffer) (first_kept image s n key 0 w e))

  pub refused_so : (c : Call) (buffer : List ℕ) → start_of c s n ≡ Err w
      → listed (services c image s n) (out_of c image s n buffer) ≡ listed [] (out (Err w) image buffer)
  refused_so c buffer h =
      let q = refuses (fresh_of c s n) (start_refusal s n (key_carried c) (value_lent (lent_of c))) (sym (starts_so c s n) ∙ h) in
      refused_by_lem c buffer q (first_same image s n (key_carried c) (value_lent (lent_of c)) size ∙ q)
