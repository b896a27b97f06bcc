-- A call of the store as data, for statements that speak of any call, and what it is about: its key, its value's length, the lookup it begins with.
use Rattle.std.specs.Prelude.{ℕ, List, []}
use Rattle.std.proofs.Math.Option.{Option, none, some}
use Rattle.format.specs.declared.Removal.{Removal}
use Rattle.plans.specs.declared.Aim.{Aim}
use Rattle.plans.specs.Answers.{Answer}
use Rattle.store.specs.Read.{get_of}
use Rattle.store.specs.Write.{Done, append_of, remove_of, initialise_of}
use Rattle.store.specs.Collect.{collect_of}

-- R5.2 to R5.9: the operations, as calls on an image. Invalidate and zeroise are the two removals.
pub data Call : Type 0 where
  get : (key : ℕ) (buffer : List ℕ) → Call
  append : (key : ℕ) (value : List ℕ) → Call
  remove : (how : Removal) (key : ℕ) → Call
  collect : Call
  initialise : (key : ℕ) → Call

-- R5.5: invalidate, as a call.
abbrev pub invalidate : ℕ → Call
invalidate key = remove Removal.Invalidate key

-- R5.6: zeroise, as a call.
abbrev pub zeroise : ℕ → Call
zeroise key = remove Removal.Zeroise key

-- R6.2: its key. Collect has no key.
abbrev pub key_of : Call → Option ℕ
key_of (get key buffer) = some key
key_of (append key value) = some key
key_of (remove how key) = some key
key_of collect = none
key_of (initialise key) = some key

-- R6.3: the value that it is to store. Only append is given one.
abbrev pub value_of : Call → List ℕ
value_of (get key buffer) = []
value_of (append key value) = value
value_of (remove how key) = []
value_of collect = []
value_of (initialise key) = []

-- R5.1: what its lookup is for, where it begins with one.
abbrev pub aim_of : Call → Option Aim
aim_of (get key buffer) = some Aim.Get
aim_of (append key value) = some Aim.Append
aim_of (remove how key) = some (Aim.Remove how)
aim_of collect = none
aim_of (initialise key) = some Aim.Initialise

-- R7.5: the one answer of a call on an image with S and N, and the one image afterwards. Get leaves it.
abbrev pub outcome : Call → List ℕ → ℕ → ℕ → Done
outcome (get key buffer) image s n = record { answer = (get_of image s n key buffer).answer; image = image }
outcome (append key value) image s n = append_of image s n key value
outcome (remove how key) image s n = remove_of how image s n key
outcome collect image s n = collect_of image s n
outcome (initialise key) image s n = initialise_of image s n key

-- R7.5: the one answer.
abbrev pub answer_of : Call → List ℕ → ℕ → ℕ → Answer
answer_of c image s n = (outcome c image s n).answer

-- R7.5: the one image afterwards.
abbrev pub image_after : Call → List ℕ → ℕ → ℕ → List ℕ
image_after c image s n = (outcome c image s n).image
