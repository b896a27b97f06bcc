-- A list of a function's values in order has, at each place, the value of that place. So a table's rule is one equation of lists, which antt computes.
-- Assumes nothing.
use mathlib.Core.Path.{◌≡◌, sym, ap, ◌∙◌}
use mathlib.Core.List.{List, [], ◌∷◌}
use Prim.Native.Nat.{ℕ, zero, suc, ◌+◌, ◌<◌}
use native.Mathlib.Nat.{add-zero, zero-add, add-suc, suc-add, le_of_suc-le-suc}
use native.Mathlib.Omega.{arith}
use lib.ListN.{get_or}

-- the values of f at n places from i on
unfoldable pub values : (ℕ → ℕ) → ℕ → ℕ → List ℕ
values f i zero = []
values f i (suc n) = f i ∷ values f (suc i) n

from : (f : ℕ → ℕ) (n i k : ℕ) → k < n → get_or (values f i n) k 0 ≡ f (i + k)
unfolding values
from f zero i k h = omega arith
from f (suc n) i zero h = ap f (sym (add-zero i))
from f (suc n) i (suc k) h = from f n (suc i) k (le_of_suc-le-suc h) ∙ ap f (suc-add i k ∙ sym (add-suc i k))

pub at : (f : ℕ → ℕ) (n k : ℕ) → k < n → get_or (values f 0 n) k 0 ≡ f k
at f n k h = from f n 0 k h ∙ ap f (zero-add k)
