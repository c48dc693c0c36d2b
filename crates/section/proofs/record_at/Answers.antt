-- `record_at` is none where no whole record is left.
use mathlib.Core.Path.{◌∙◌}
use mathlib.Core.Logic.{⊎_elim}
use native.Mathlib.Omega.{arith}
use Rattle.section.proofs.StepLaws.{step_from-done, step_from-read}
use Rattle.section.proofs.record_at.Goals as goal

pub returns-in_err-get : goal.returns-in_err-get
returns-in_err-get c = c.from_residual.ensures ∙ step_from-done _ _ (⊎_elim (λ h. omega arith) (λ h. omega arith) c.in_err-get.ensures.lookup.0)

pub returns-in_default : goal.returns-in_default
returns-in_default c = step_from-done _ _ (omega (arith, c.in_ok-get.ensures.lookup.0))

pub returns : goal.returns
returns c = step_from-read _ _ c.in_ok-get.ensures.lookup.0.2 c.in-len7-up.len_at_least c.from_le_bytes.ensures c.from_le_bytes-2.ensures c.from_le_bytes-3.ensures
