-- The slice for the numbers is looked at first.
use Rattle.capi.proofs.AnsweredLaws.{credit-untold, credit-told}
use Rattle.capi.proofs.heqdanu_credit.Goals as goal

pub returns-then-answer-lt-CREDIT_ANSWER : goal.returns-then-answer-lt-CREDIT_ANSWER
returns-then-answer-lt-CREDIT_ANSWER c = credit-untold c.args.answer.now c.if-answer-lt-CREDIT_ANSWER.true

pub returns : goal.returns
returns c = credit-told c.args.answer.now c.if-answer-lt-CREDIT_ANSWER.false c.credit-checked.ensures c.put_checked.ensures
