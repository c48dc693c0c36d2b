-- One store after another.
use native.Mathlib.Omega.{arith}
use lib.ListN.{length-set}
use Rattle.capi_answers.proofs.StoreLaws.{three-stored}
use Rattle.capi_answers.proofs.put_length.Goals as goal

pub bounds-answer-1 : goal.bounds-answer-1
bounds-answer-1 c = simp length-set (omega arith)

pub bounds-answer-2 : goal.bounds-answer-2
bounds-answer-2 c = simp length-set (omega arith)

pub returns : goal.returns
returns c = rw (c.from.ensures) (three-stored c.args.answer.now c.args.number c.args.detail c.args.bytes c.requires)
