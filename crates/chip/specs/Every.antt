-- A word of the theorems: what holds of every element of a list.
use Rattle.std.specs.Prelude.{List, [], ◌∷◌}

-- R4.8: what holds of every element of a list. The first that decides is said with it: of every record before, that it is not sought. So are the
-- records whose bytes stay (R11.2, R11.3), the regions that were erased (R11.9), and the steps of a host (R13.3).
pub data Every {A : Type 0} (P : A → Type 0) : List A → Type 0 where
  none : Every P []
  also : {x : A} {xs : List A} → P x → Every P xs → Every P (x ∷ xs)
