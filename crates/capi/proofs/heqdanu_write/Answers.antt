-- The slice for the numbers is looked at first.
use Rattle.capi.proofs.AnsweredLaws.{write-untold, write-told}
use Rattle.capi.proofs.heqdanu_write.Goals as goal

pub returns-then-answer-lt-WRITE_ANSWER : goal.returns-then-answer-lt-WRITE_ANSWER
returns-then-answer-lt-WRITE_ANSWER c = write-untold c.args.answer.now c.if-answer-lt-WRITE_ANSWER.true

pub returns : goal.returns
returns c = write-told c.args.answer.now c.if-answer-lt-WRITE_ANSWER.false c.write-written.ensures c.put_written.ensures
