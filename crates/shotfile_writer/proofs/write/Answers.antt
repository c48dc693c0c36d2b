-- `write` answers and leaves what the checks say: each way out is one law of `Writing`. Assumes nothing.
use mathlib.Core.Path.{sym, ◌∙◌}
use native.Mathlib.Omega.{arith}
use Rattle.std.proofs.lemmas.Result.{err_from_is_err_and}
use Rattle.job.specs.Job.{seen}
use Rattle.shotfile_writer.proofs.Writing.{few-shots, write-refused, write-short, write_done}
use Rattle.shotfile_writer.proofs.write.Goals as goal

pub returns-in_err-check : goal.returns-in_err-check
returns-in_err-check c = let p = err_from_is_err_and c.from_residual.result c.from_residual.ensures.1 in
    rw (p.1, p.2) (write-refused _ _ (sym c.in_err-check.was ∙ c.check.ensures.answer))

pub file_length-needed-requires : goal.file_length-needed-requires
file_length-needed-requires c = few-shots _ (sym c.in_ok-check.was ∙ c.check.ensures.answer)

pub returns-then-bytes-needed : goal.returns-then-bytes-needed
returns-then-bytes-needed c = let given = c.args in
    write-short (seen given.job) given.bytes.now
    (sym c.in_ok-check.was ∙ c.check.ensures.answer) c.file_length-needed.ensures (omega arith)

pub put_file-requires : goal.put_file-requires
put_file-requires c = omega (arith, c.file_length-needed.ensures, c.if-bytes-needed.false)

pub returns : goal.returns
returns c = write_done _ _ (sym c.in_ok-check.was ∙ c.check.ensures.answer) c.file_length-needed.ensures
    c.if-bytes-needed.false c.put_file.ensures
