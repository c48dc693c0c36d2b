-- One store after another.
use native.Mathlib.Omega.{arith}
use lib.ListN.{length-set}
use Rattle.capi_answers.proofs.StoreLaws.{seven-stored}
use Rattle.capi_answers.proofs.put_totals.Goals as goal

pub bounds-answer-1 : goal.bounds-answer-1
bounds-answer-1 c = simp length-set (omega arith)

pub bounds-answer-2 : goal.bounds-answer-2
bounds-answer-2 c = simp length-set (omega arith)

pub bounds-answer-3 : goal.bounds-answer-3
bounds-answer-3 c = simp length-set (omega arith)

pub bounds-answer-4 : goal.bounds-answer-4
bounds-answer-4 c = simp length-set (omega arith)

pub bounds-answer-5 : goal.bounds-answer-5
bounds-answer-5 c = simp length-set (omega arith)

pub returns : goal.returns
returns c = rw (c.from.ensures) (seven-stored c.args.answer.now c.args.number c.args.detail c.args.t.volume c.args.t.area c.args.t.edge c.args.t.inner c.args.t.corners c.requires)
