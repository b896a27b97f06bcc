-- `values::copy_value` meets its contract: what is copied is the front of the value, as much of it as the buffer takes.
-- Assumes nothing.
use Rattle.std.proofs.Common.{refl}
use Rattle.values.proofs.Values.{front_copied}
use Rattle.values.proofs.copy_value.Goals as goal

pub returns : goal.returns
returns c =
    let v = c.value-value in
    rw (c.land.ensures, c.min-most.ensures, front_copied v.result.now c.args.buffer.now, v.ensures.size, v.ensures.bytes) refl
