use native.Mathlib.Omega.{arith}
use Rattle.section.proofs.StepLaws.{stepped-none, stepped-more, stepped-met}
use Rattle.acceptance.proofs.sections.meet_by_places.Goals as goal

pub loop-init : goal.loop-init
loop-init c = stepped-none _

pub loop-preserved : goal.loop-preserved
loop-preserved c = stepped-more _ _ c.loop.invariant c.next_from-at.ensures

pub returns : goal.returns
returns c = stepped-met _ c.loop.counter c.args.steps c.loop.invariant (omega arith) c.step_from.ensures
