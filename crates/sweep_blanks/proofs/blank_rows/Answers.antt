-- Entries whose bits together are none are 0.
use native.Mathlib.Omega.{arith}
use Rattle.sweep_blanks.proofs.BlankLaws.{blank-one, blank-eight}
use Rattle.sweep_blanks.proofs.blank_rows.Goals as goal

pub returns-then-seven-ne0 : goal.returns-then-seven-ne0
returns-then-seven-ne0 c = (blank-one _ _ c.if-two-ne0.false, omega arith)

pub returns : goal.returns
returns c = (blank-eight _ _ c.if-two-ne0.false c.if-seven-ne0.false, omega arith)
