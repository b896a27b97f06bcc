-- A page that is filled line by line: the buffer, and the place behind the last line.
use Rattle.std.specs.Prelude.{ℕ, ◌≡◌, ◌+◌, ◌≤◌, List, length}
use Rattle.std.proofs.lemmas.List.Edits.{sets}
use Rattle.lines.specs.declared.Page.{Page}

-- R16.8: so many bytes can still be put on it.
abbrev pub HasRoom : Page → ℕ → Type 0
HasRoom p k = p.at + k ≤ length p.out.now

-- R16.8: bytes are put on it: they stand behind the text that was there, the buffer is altered nowhere else, and it is the same buffer.
abbrev pub Puts : Page → List ℕ → Page → Type 0
Puts p b q = (q.out.ghost_name ≡ p.out.ghost_name) × (q.out.now ≡ sets p.out.now p.at b) × (q.at ≡ p.at + length b)
