-- `stilefray::stepped::bad_call` meets its contract: its request is BadCall's.
-- Assumes nothing.
use Rattle.stilefray.proofs.stepped.bad_call.Goals as goal

pub returns : goal.returns
returns c = rw c.request_numbers.ensures
