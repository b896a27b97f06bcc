-- `crc32::checksum_of_two` meets its contract: the parts' contracts, one after the other, are the checksum in two parts.
-- Assumes nothing.
use mathlib.Core.Path.{◌≡◌}
use mathlib.Core.List.{List, ◌++◌}
use Prim.Native.Nat.{ℕ}
use borrow.Author.Rules.{rules}
use Rattle.crc32.specs.Crc.{run, finish, checksum}
use Rattle.crc32.proofs.Theorems.{in_two_parts}
use Rattle.crc32.proofs.checksum_of_two.Goals as goal

-- the checksum, by the states x after the first part and y after the second
by_states : (a b : List ℕ) (x y r : ℕ) → x ≡ run 0 a → y ≡ run x b → r ≡ finish y → r ≡ checksum (a ++ b)
by_states a b x y r p q e = cc (in_two_parts a b)

pub returns : goal.returns
returns c = search (by_states, rules)
