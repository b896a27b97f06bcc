-- `format::layout::header_of` meets its contract: the key's eight bytes are those of the definition.
-- Assumes nothing.
use Prim.Native.Nat.{ℕ, ◌+◌, ◌*◌, ◌/◌, ◌%◌}
use mathlib.Core.Path.{ap}
use mathlib.Core.List.{List, ◌∷◌}
use Rattle.format.proofs.Laid.{big_eight}
use Rattle.format.proofs.layout.header_of.Goals as goal

pub returns : goal.returns
returns c =
    let a = c.args in
    rw c.to_be_bytes.ensures (ap (λ (key : List ℕ). a.version ∷ (a.flags * 16 + a.len / 256) ∷ (a.len % 256) ∷ key) (big_eight a.key))
