-- The slice for the numbers is looked at first.
use Rattle.capi.proofs.AnsweredLaws.{read-untold, read_told}
use Rattle.capi.proofs.heqdanu_read.Goals as goal

pub returns-then-answer-lt-READ_ANSWER : goal.returns-then-answer-lt-READ_ANSWER
returns-then-answer-lt-READ_ANSWER c = read-untold c.args.answer.now c.if-answer-lt-READ_ANSWER.true

pub returns : goal.returns
returns c = read_told c.args.answer.now c.if-answer-lt-READ_ANSWER.false c.read-read.ensures c.put_read.ensures
