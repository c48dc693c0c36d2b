-- The number of the loop is the first whose record passes, or none does. Assumes nothing.
use mathlib.Core.Path.{refl, sym, ◌∙◌, ap}
use native.Mathlib.Omega.{arith}
use Rattle.section.proofs.RunLaws.{sought-here, sought-more, sought-none}
use Rattle.section.proofs.first_from.Goals as goal

pub loop-number-init : goal.loop-number-init
loop-number-init g c p h = refl

pub returns-then-passes : goal.returns-then-passes
returns-then-passes g c p h =
    sought-here p _ _ _ (omega arith) (c.loop-number.invariant p h) (ap p (sym c.x_at.ensures) ∙ (sym (h _ _ c.passes.ensures) ∙ c.if-passes.true))

pub loop-number-preserved : goal.loop-number-preserved
loop-number-preserved g c p h =
    sought-more p _ _ _ (omega arith) (c.loop-number.invariant p h) (ap p (sym c.x_at.ensures) ∙ (sym (h _ _ c.passes.ensures) ∙ c.if-passes.false))

pub returns : goal.returns
returns g c p h = sought-none p _ _ c.loop-number.number (omega arith) (omega arith) (c.loop-number.invariant p h)
