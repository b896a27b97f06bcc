-- `crc32::checksum` meets its contract: the parts' contracts, one after the other, are the definition.
-- Assumes nothing.
use mathlib.Core.Path.{◌≡◌, ap, ◌∙◌}
use mathlib.Core.List.{List}
use Prim.Native.Nat.{ℕ}
use borrow.Author.Rules.{rules}
use Rattle.crc32.specs.Crc.{run, finish, checksum}
use Rattle.crc32.proofs.checksum.Goals as goal

-- the checksum, by the state x before the last step
by_state : (s : List ℕ) (x r : ℕ) → x ≡ run 0 s → r ≡ finish x → r ≡ checksum s
unfolding checksum
by_state s x r p q = q ∙ ap finish p

pub returns : goal.returns
returns c = search (by_state, rules)
