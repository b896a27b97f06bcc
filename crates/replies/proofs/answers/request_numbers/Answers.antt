-- `replies::answers::request_numbers` meets its contract: each arm is the case of the definition.
-- Assumes nothing.
use Rattle.replies.proofs.answers.request_numbers.Goals as goal

pub returns-in-Read : goal.returns-in-Read
returns-in-Read c = rw c.in-Read.is c.service.ensures

pub returns-in-Write : goal.returns-in-Write
returns-in-Write c = rw c.in-Write.is c.service-in-Write.ensures

pub returns-in-Erase : goal.returns-in-Erase
returns-in-Erase c = rw c.in-Erase.is c.service-in-Erase.ensures

pub returns-in-Answers : goal.returns-in-Answers
returns-in-Answers c = rw (c.in-Answers.is, c.answer_numbers.ensures)
