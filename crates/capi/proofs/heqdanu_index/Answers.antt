-- The slice for the numbers is looked at first.
use Rattle.capi.proofs.AnsweredLaws.{index-untold, index-told}
use Rattle.capi.proofs.heqdanu_index.Goals as goal

pub returns-then-answer-lt-INDEX_ANSWER : goal.returns-then-answer-lt-INDEX_ANSWER
returns-then-answer-lt-INDEX_ANSWER c = index-untold c.args.answer.now c.if-answer-lt-INDEX_ANSWER.true

pub returns : goal.returns
returns c = index-told c.args.answer.now c.if-answer-lt-INDEX_ANSWER.false c.indexed-checked.ensures c.put_checked.ensures
