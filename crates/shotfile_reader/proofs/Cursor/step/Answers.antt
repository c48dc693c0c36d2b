-- `step` answers `step_at`: the record at the cursor, or the end. Assumes nothing.
use mathlib.Core.Path.{sym, ◌∙◌}
use Rattle.std.proofs.lemmas.Result.{err_from_is_err_and}
use Rattle.shotfile_reader.proofs.Steps.{step_end, step-on}
use Rattle.shotfile_reader.proofs.Cursor.step.Goals as goal

pub returns-then-bytes-self : goal.returns-then-bytes-self
returns-then-bytes-self c = step_end _ _ c.if-bytes-self.true

pub returns-in_err-record : goal.returns-in_err-record
returns-in_err-record c = let p = err_from_is_err_and c.from_residual.result c.from_residual.ensures.1 in
    rw (p.1, p.2) (step-on _ _ c.if-bytes-self.false _ (sym c.in_err-record.was ∙ c.take_record.ensures))

pub returns : goal.returns
returns c = step-on _ _ c.if-bytes-self.false _ (sym c.in_ok-record.was ∙ c.take_record.ensures)
