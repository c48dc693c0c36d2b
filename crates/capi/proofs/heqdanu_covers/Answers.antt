-- The slice for the numbers is looked at first.
use Rattle.capi.proofs.AnsweredLaws.{covers-untold, covers-told}
use Rattle.capi.proofs.heqdanu_covers.Goals as goal

pub returns-then-answer-lt-COVERS_ANSWER : goal.returns-then-answer-lt-COVERS_ANSWER
returns-then-answer-lt-COVERS_ANSWER c = covers-untold c.args.edge c.args.coords.now c.args.run.now c.args.i c.args.j c.args.k c.args.answer.now c.if-answer-lt-COVERS_ANSWER.true

pub returns : goal.returns
returns c = covers-told c.args.edge c.args.coords.now c.args.run.now c.args.i c.args.j c.args.k c.args.answer.now c.if-answer-lt-COVERS_ANSWER.false c.first_covering-covering.ensures c.put_covering.ensures
