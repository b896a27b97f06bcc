-- Calls after calls, and which of them leave a key's record alone.
use Rattle.std.specs.Prelude.{ℕ, ◌^◌, ◌<◌, ◌≡◌, false, List, [], ◌∷◌, length, get_or}
use Rattle.std.specs.Int.Bits.{bit_and}
use Rattle.chip.specs.Chip.{Bytes}
use Rattle.format.specs.declared.Removal.{Removal}
use Rattle.plans.specs.Answers.{starts_anew}
use Rattle.store.specs.Read.{get_of}
use Rattle.store.specs.Call.{Call, get, append, remove, collect, initialise, image_after}

-- R2.1, R1.1: what the types of the calls allow, asked where it is needed: the key of append and of initialise is a 64-bit number, and append's value
-- is made of bytes. No other call writes an argument to the chip, and of those nothing is asked.
pub data Typed : Call → Type 0 where
  typed_get : {key : ℕ} {buffer : List ℕ} → Typed (get key buffer)
  typed_append : {key : ℕ} {value : List ℕ} → key < 2 ^ 64 → Bytes value → Typed (append key value)
  typed_remove : {how : Removal} {key : ℕ} → Typed (remove how key)
  typed_collect : Typed collect
  typed_initialise : {key : ℕ} → key < 2 ^ 64 → Typed (initialise key)

-- R11.8: until its own key is removed or initialise erases the chip: a call that does neither to the key on this image
pub data Spares (s n : ℕ) (key : ℕ) (image : List ℕ) : Call → Type 0 where
  spares_get : {k : ℕ} {buffer : List ℕ} → Spares s n key image (get k buffer)
  spares_append : {k : ℕ} {value : List ℕ} → Spares s n key image (append k value)
  spares_remove : {how : Removal} {k : ℕ} → (k ≡ key → ⊥) → Spares s n key image (remove how k)
  spares_collect : Spares s n key image collect
  spares_initialise : {k : ℕ} → starts_anew (get_of image s n k []).answer ≡ false → Spares s n key image (initialise k)

-- R11.8: after any calls: the image after a list of them, one after the other
unfoldable pub image_after_all : ℕ → ℕ → List Call → List ℕ → List ℕ
image_after_all s n [] image = image
image_after_all s n (c ∷ cs) image = image_after_all s n cs (image_after c image s n)

-- R11.8: each call of a list is typed, and spares the key on the image that it meets
pub data SparesAll (s n key : ℕ) : List ℕ → List Call → Type 0 where
  none : {image : List ℕ} → SparesAll s n key image []
  also : {image : List ℕ} {c : Call} {cs : List Call} → Typed c → Spares s n key image c → SparesAll s n key (image_after c image s n) cs → SparesAll s n key image (c ∷ cs)

-- R11.10: no bit goes from 0 to 1: the image keeps its length, and every bit that is set in the new image is set in the old
pub record OnlyCleared (image' image : List ℕ) : Type 0 where
  pub same_length : length image' ≡ length image
  pub bits : (k : ℕ) → bit_and (get_or image' k 0) (get_or image k 0) ≡ get_or image' k 0
