-- `listing::Entries::next` meets its contract: an entry leaves less to be looked at.
-- Assumes nothing.
use Prim.Native.Nat.{◌<◌}
use Rattle.listing.specs.Passing.{ahead}
use Rattle.listing.proofs.Passing.{falls_on, falls_bad}
use Rattle.listing.proofs.EntriesIterator.next.Goals as goal
use Rattle.listing.proofs.EntriesIterator.next.Goals.{in-Stands, in-Bad}

pub returns-clause-goes : goal.returns-clause-goes
returns-clause-goes c =
    let p = c.args.self.now in
    let d = p.chip in
    let less : ahead d.s d.n c.match-entry.self.region c.match-entry.self.at < ahead d.s d.n p.here.region p.here.at =
    elim c.match-entry.branch [
      | in-Stands w ↦ rw w.self-is (falls_on d.image.now d.s d.n p.here _ c.record_at-entry.ensures w.in-Stands.is)
      | in-Bad w ↦ rw w.self-is (falls_bad d.image.now d.s d.n p.here _ c.record_at-entry.ensures _ w.in-Bad.is)
    ]
    in
    record { on = λ _. (tt, tt, less); keeps = tt; rests = λ _. tt }
