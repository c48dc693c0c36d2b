-- The slice for the numbers is looked at first.
use Rattle.capi.proofs.AnsweredLaws.{vox-untold, vox-told}
use Rattle.capi.proofs.heqdanu_read_vox.Goals as goal

pub returns-then-answer-lt-READ_ANSWER : goal.returns-then-answer-lt-READ_ANSWER
returns-then-answer-lt-READ_ANSWER c = vox-untold c.args.answer.now c.if-answer-lt-READ_ANSWER.true

pub returns : goal.returns
returns c = vox-told c.args.answer.now c.if-answer-lt-READ_ANSWER.false c.read_vox-read.ensures c.put_read.ensures
