-- The slice for the numbers is looked at first.
use Rattle.capi.proofs.AnsweredLaws.{list-untold, list-told}
use Rattle.capi.proofs.heqdanu_list.Goals as goal

pub returns-then-answer-lt-MEASURE_ANSWER : goal.returns-then-answer-lt-MEASURE_ANSWER
returns-then-answer-lt-MEASURE_ANSWER c = list-untold c.args.answer.now c.if-answer-lt-MEASURE_ANSWER.true

pub returns : goal.returns
returns c = list-told c.args.answer.now c.if-answer-lt-MEASURE_ANSWER.false c.list-measured.ensures c.put_measured.ensures
