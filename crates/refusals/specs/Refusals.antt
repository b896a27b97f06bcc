-- The refusals of the store, by their numbers, and those that come before anything is read.
use Rattle.std.specs.Prelude.{ℕ, Bool, not, cond, List, [], ◌∷◌, ◌++◌, ltb, Result, Ok, Err, codes, decimal}
use Rattle.chip.specs.Geometry.{geometry}
use Rattle.probe.specs.Probe.{allowed_key}
use Rattle.format.specs.declared.Fault.{Fault}
use Rattle.format.specs.declared.Fault.TheVariants.{UnsupportedVersion, CorruptData}
use Rattle.format.specs.Layout.{edition, largest_value}
use Rattle.refusals.specs.declared.Refusal.{Refusal}

-- R6.1 to R6.12: the refusal of R6.k has the number k.
abbrev pub number : Refusal → ℕ
number Refusal.BadGeometry = 1
number Refusal.BadKey = 2
number Refusal.ObjectTooLarge = 3
number Refusal.KeyNotFound = 4
number Refusal.KeyAlreadyExists = 5
number Refusal.FlashFull = 6
number Refusal.UnsupportedVersion = 7
number Refusal.CorruptData = 8
number (Refusal.BufferTooSmall len) = 9
number Refusal.InvalidCheckSum = 10
number Refusal.BadCall = 11
number Refusal.FlashFailed = 12

-- R4.4, R4.5: the refusal of a bad place.
abbrev pub refusal_of : Fault → Refusal
refusal_of UnsupportedVersion = Refusal.UnsupportedVersion
refusal_of CorruptData = Refusal.CorruptData

-- R7.2: 1, then 2, then 3: the first that applies to the geometry, the key and the value's length. R6.1: S, N or the image's length is not as
-- R1.2 has it. R6.2: the key is 0 or 2^64 - 1. R6.3: the value has more than 4,079 bytes.
abbrev pub refusal_under : Bool → ℕ → ℕ → Result (Unit {0}) Refusal
refusal_under shaped key len =
    cond (not shaped) (Err Refusal.BadGeometry)
    (cond (not (allowed_key key)) (Err Refusal.BadKey)
    (cond (ltb (largest_value edition) len) (Err Refusal.ObjectTooLarge)
    (Ok tt)))

-- R7.2: the first of them in the one-call form, where the image's length is a part of the geometry.
unfoldable pub first_refusal : List ℕ → ℕ → ℕ → ℕ → ℕ → Result (Unit {0}) Refusal
first_refusal image s n key len = refusal_under (geometry image s n) key len

-- R6.9: what a refusal carries: BufferTooSmall the value's length, and the others nothing.
abbrev pub value_of : Refusal → List ℕ
value_of Refusal.BadGeometry = []
value_of Refusal.BadKey = []
value_of Refusal.ObjectTooLarge = []
value_of Refusal.KeyNotFound = []
value_of Refusal.KeyAlreadyExists = []
value_of Refusal.FlashFull = []
value_of Refusal.UnsupportedVersion = []
value_of Refusal.CorruptData = []
value_of (Refusal.BufferTooSmall len) = len ∷ []
value_of Refusal.InvalidCheckSum = []
value_of Refusal.BadCall = []
value_of Refusal.FlashFailed = []

-- R6.1 to R6.12: a refusal as it is printed: its name, and behind it the number that it carries.
abbrev pub text_of : Refusal → List ℕ
text_of Refusal.BadGeometry = codes "BadGeometry"
text_of Refusal.BadKey = codes "BadKey"
text_of Refusal.ObjectTooLarge = codes "ObjectTooLarge"
text_of Refusal.KeyNotFound = codes "KeyNotFound"
text_of Refusal.KeyAlreadyExists = codes "KeyAlreadyExists"
text_of Refusal.FlashFull = codes "FlashFull"
text_of Refusal.UnsupportedVersion = codes "UnsupportedVersion"
text_of Refusal.CorruptData = codes "CorruptData"
text_of (Refusal.BufferTooSmall len) = codes "BufferTooSmall " ++ decimal len
text_of Refusal.InvalidCheckSum = codes "InvalidCheckSum"
text_of Refusal.BadCall = codes "BadCall"
text_of Refusal.FlashFailed = codes "FlashFailed"
