-- The slice for the numbers is looked at first.
use Rattle.capi.proofs.AnsweredLaws.{measure-untold, measure-told}
use Rattle.capi.proofs.heqdanu_recount.Goals as goal

pub returns-then-answer-lt-MEASURE_ANSWER : goal.returns-then-answer-lt-MEASURE_ANSWER
returns-then-answer-lt-MEASURE_ANSWER c = measure-untold c.args.answer.now c.if-answer-lt-MEASURE_ANSWER.true

pub returns : goal.returns
returns c = measure-told c.args.answer.now c.if-answer-lt-MEASURE_ANSWER.false c.recount-again.ensures c.put_measured.ensures
