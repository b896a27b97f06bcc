-- What a step says to its caller, in numbers: where in the chip a service lies, and which answers get gives by a record that it found.
use Rattle.std.specs.Prelude.{ℕ, ◌+◌, ◌*◌, ◌≤◌, ◌<◌, ◌≡◌}
use Rattle.replies.specs.declared.CRequest.{CRequest}

-- R8.4, R12.2: a request in numbers lies in a chip of n regions of s bytes: a region that is read or erased is one of the n, and what is written are
-- bytes of the region buffer that go to their own place in one region. 1 reads, 2 writes, 3 erases, 4 answers.
pub data InsideNumbers (s n : ℕ) (q : CRequest) : Type 0 where
  reads : q.kind ≡ 1 → q.region < n → InsideNumbers s n q
  writes : (r : ℕ) → q.kind ≡ 2 → r < n → q.from ≤ q.to → q.to ≤ s → q.place ≡ r * s + q.from → InsideNumbers s n q
  erases : q.kind ≡ 3 → q.region < n → InsideNumbers s n q
  answers : q.kind ≡ 4 → InsideNumbers s n q

-- R8.7, R12.1: a request that is get's answer by a live record of its key: Complete, BufferTooSmall (9) or InvalidCheckSum (10).
pub data ReadsNumbers (q : CRequest) : Type 0 where
  complete : q.kind ≡ 4 → q.answer.kind ≡ 1 → ReadsNumbers q
  too_short : q.kind ≡ 4 → q.answer.refusal ≡ 9 → ReadsNumbers q
  wrong_sum : q.kind ≡ 4 → q.answer.refusal ≡ 10 → ReadsNumbers q
