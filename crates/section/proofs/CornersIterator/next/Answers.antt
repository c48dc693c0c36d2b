-- A step meets the record at the place, and moves by its bytes.
use mathlib.Core.Path.{refl, sym, ◌∙◌}
use native.Mathlib.Omega.{arith}
use Rattle.section.proofs.StepLaws.{step_from-whole, step_from-moves, step_from-stays}
use Rattle.section.proofs.CornersIterator.next.Goals as goal

pub returns-in_err-corner-clause-steps : goal.returns-in_err-corner-clause-steps
returns-in_err-corner-clause-steps c = let met = sym c.in_err-corner.was ∙ c.record_at.ensures in
    (c.from_residual.ensures ∙ met, refl, step_from-stays _ _ met)

pub returns-clause-steps : goal.returns-clause-steps
returns-clause-steps c = (sym c.in_ok-corner.was ∙ c.record_at.ensures, refl, c.after-self.ensures)

pub returns-clause-goes : goal.returns-clause-goes
returns-clause-goes c = let met = sym c.in_ok-corner.was ∙ c.record_at.ensures in
    let whole = step_from-whole _ _ met in
    let moved = c.after-self.ensures ∙ sym (step_from-moves _ _ met) in
    record { on = λ _. (tt, tt, omega arith); keeps = tt; rests = λ _. tt }
