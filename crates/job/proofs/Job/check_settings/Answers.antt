-- Each way out of `check_settings` is one law of `Answers`. Assumes nothing.
use mathlib.Core.Path.{sym, ◌∙◌}
use native.Mathlib.Omega.{arith}
use Rattle.job.proofs.Tests.{within}
use Rattle.job.proofs.Answers.{broken, too_many, bad-field, bad-edge, bad-grid, no-divisor, good-settings}
use Rattle.job.proofs.Job.check_settings.Goals as goal

pub returns-then-self-ne0 : goal.returns-then-self-ne0
returns-then-self-ne0 c = broken _ c.if-self-ne0.true

pub returns-then-count-gt4096 : goal.returns-then-count-gt4096
returns-then-count-gt4096 c = too_many _ c.if-self-ne0.false (omega arith)

pub returns-then-is_outside : goal.returns-then-is_outside
returns-then-is_outside c = bad-field _ c.if-self-ne0.false (omega arith) (sym c.is_outside.ensures ∙ c.if-is_outside.true)

pub returns-then-is_outside-2 : goal.returns-then-is_outside-2
returns-then-is_outside-2 c = bad-edge _ c.if-self-ne0.false (omega arith) (sym c.is_outside.ensures ∙ c.if-is_outside.false) (sym c.is_outside-2.ensures ∙ c.if-is_outside-2.true)

pub returns-then-is_outside-3 : goal.returns-then-is_outside-3
returns-then-is_outside-3 c = bad-grid _ c.if-self-ne0.false (omega arith) (sym c.is_outside.ensures ∙ c.if-is_outside.false)
    (sym c.is_outside-2.ensures ∙ c.if-is_outside-2.false) (sym c.is_outside-3.ensures ∙ c.if-is_outside-3.true)

pub nonzero_rem-self-2 : goal.nonzero_rem-self-2
nonzero_rem-self-2 c = omega (arith, within 1 64 c.args.self.grid (sym c.is_outside-3.ensures ∙ c.if-is_outside-3.false))

pub returns-then-self-ne0-2 : goal.returns-then-self-ne0-2
returns-then-self-ne0-2 c = no-divisor _ c.if-self-ne0.false (omega arith) (sym c.is_outside.ensures ∙ c.if-is_outside.false)
    (sym c.is_outside-2.ensures ∙ c.if-is_outside-2.false) (sym c.is_outside-3.ensures ∙ c.if-is_outside-3.false) c.if-self-ne0-2.true

pub returns : goal.returns
returns c = good-settings _ c.if-self-ne0.false (omega arith) (sym c.is_outside.ensures ∙ c.if-is_outside.false)
    (sym c.is_outside-2.ensures ∙ c.if-is_outside-2.false) (sym c.is_outside-3.ensures ∙ c.if-is_outside-3.false) c.if-self-ne0-2.false
