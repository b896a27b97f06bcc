-- `region::walk::look` meets its contract: each return is the case that its tests say.
-- Assumes nothing.
use native.Mathlib.Omega.{arith}
use mathlib.Core.Path.{sym}
use Rattle.region.proofs.Steps.{Stands, stands_is}
use Rattle.region.proofs.walk.look.Goals as goal

pub returns-then-left-lt-LEAST : goal.returns-then-left-lt-LEAST
returns-then-left-lt-LEAST c = sym (stands_is _ _ _ (Stands.short c.if-left-lt-LEAST.true))

pub returns-then-version : goal.returns-then-version
returns-then-version c = sym (stands_is _ _ _ (Stands.free c.if-left-lt-LEAST.false c.if-version.true))

pub returns-then-version-ne-VERSION : goal.returns-then-version-ne-VERSION
returns-then-version-ne-VERSION c = sym (stands_is _ _ _ (Stands.version c.if-left-lt-LEAST.false c.if-version.false c.if-version-ne-VERSION.true))

pub returns-then-len-lt-LEAST : goal.returns-then-len-lt-LEAST
returns-then-len-lt-LEAST c = sym (stands_is _ _ _ (Stands.corrupt c.if-left-lt-LEAST.false c.if-version-ne-VERSION.false (λ h. absurd (omega arith))))

pub returns-then-left-len : goal.returns-then-left-len
returns-then-left-len c = sym (stands_is _ _ _ (Stands.corrupt c.if-left-lt-LEAST.false c.if-version-ne-VERSION.false (λ h. omega arith)))

pub returns : goal.returns
returns c =
    rw (c.key_at-key.ensures, c.length_at-len.ensures)
    (sym (stands_is _ _ _ (Stands.sound c.if-left-lt-LEAST.false c.if-version-ne-VERSION.false (omega arith) (omega arith))))
