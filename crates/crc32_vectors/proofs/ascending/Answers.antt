-- `crc32_vectors::ascending` meets its contract: at each place the closure was called with that place. Assumes nothing.
use Rattle.std.proofs.Common.{rules}
use Rattle.crc32_vectors.proofs.ascending.Goals as goal

pub returns : goal.returns
returns c k lt =
    let called = (c.from_fn.ensures.items.at k 0 lt).2 in
    search rules
