use Rattle.std.proofs.Common.{sym}
use Rattle.show.specs.Calls.{unread, unwritten, answers}
use Rattle.show.proofs.run.run.Goals as goal

pub returns-in_default-read_all-clause-status : goal.returns-in_default-read_all-clause-status
returns-in_default-read_all-clause-status g c = rw (sym c.in-Some.ensures.value)
    (unread c.in_default-read_all.ensures.fails)

pub returns-in-Ok-write_answer-clause-status : goal.returns-in-Ok-write_answer-clause-status
returns-in-Ok-write_answer-clause-status g c =
    rw (sym c.in-Some.ensures.value, c.status.ensures)
    (answers c.in-Ok.ensures.bytes (c.answer_to-answer.ensures c.in-Some.ensures.heeded))

pub returns-clause-status : goal.returns-clause-status
returns-clause-status g c = rw (sym c.in-Some.ensures.value) (unwritten c.in-Err.ensures.fails)
