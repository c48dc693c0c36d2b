-- One store after another.
use native.Mathlib.Omega.{arith}
use lib.ListN.{length-set}
use Rattle.capi_answers.proofs.StoreLaws.{two-stored}
use Rattle.capi_answers.proofs.put_named.Goals as goal

pub bounds-answer-1 : goal.bounds-answer-1
bounds-answer-1 c = simp length-set (omega arith)

pub returns : goal.returns
returns c = rw (c.from.ensures) (two-stored c.args.answer.now c.args.covered c.args.shot c.requires)
