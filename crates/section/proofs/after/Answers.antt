-- `after` stays where no whole record is left.
use mathlib.Core.Path.{sym, ◌∙◌}
use native.Mathlib.Omega.{arith}
use Rattle.section.proofs.StepLaws.{step_from-whole, step_from-moves, step_from-stays}
use Rattle.section.proofs.after.Goals as goal

pub overflow_add-result : goal.overflow_add-result
overflow_add-result c = let h = c.record_at.ensures in record { fits = omega (arith, step_from-whole _ _ (sym c.in-Some.is ∙ h)) }

pub returns-in-Some : goal.returns-in-Some
returns-in-Some c = step_from-moves _ _ (sym c.in-Some.is ∙ c.record_at.ensures)

pub returns-in-None : goal.returns-in-None
returns-in-None c = step_from-stays _ _ (sym c.in-None.is ∙ c.record_at.ensures)
