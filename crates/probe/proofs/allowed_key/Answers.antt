-- `allowed_key` meets its contract: the two tests of the code are the two of the definition.
use borrow.Author.Tests.{eq-eqb, ne_eqb}
use Rattle.probe.proofs.allowed_key.Goals as goal

pub returns-then-key-ne0 : goal.returns-then-key-ne0
returns-then-key-ne0 c = rw (ne_eqb _ _ c.if-key-ne0.true)

pub returns-else-key-ne0 : goal.returns-else-key-ne0
returns-else-key-ne0 c = rw (eq-eqb _ _ c.if-key-ne0.false)
