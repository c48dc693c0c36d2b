-- `read` answers and leaves what the file says: each way out is one law of `Reading`. Assumes nothing.
use mathlib.Core.Path.{sym, ◌∙◌}
use native.Mathlib.Omega.{arith}
use Rattle.std.proofs.lemmas.Result.{err_from_is_err_and}
use Rattle.shotfile_reader.proofs.Reading.{counted, read-headless, read-uncounted, read-stored}
use Rattle.shotfile_reader.proofs.read.Goals as goal

pub returns-in_err-header : goal.returns-in_err-header
returns-in_err-header c = let p = err_from_is_err_and c.from_residual.result c.from_residual.ensures.1 in
    rw (p.1, p.2) (read-headless _ _ c.header_absent.ensures (sym c.in_err-header.was ∙ c.take_record.ensures))

pub returns-in_err-shots : goal.returns-in_err-shots
returns-in_err-shots c = let p = err_from_is_err_and c.from_residual-in_err-shots.result c.from_residual-in_err-shots.ensures.1 in
    rw (p.1, p.2) (read-uncounted _ _ c.header_absent.ensures (sym c.in_ok-header.was ∙ c.take_record.ensures) c.first_absent.ensures c.count.ensures
    (sym c.in_err-shots.was ∙ c.count_shots.ensures))

pub store_shots-requires : goal.store_shots-requires
store_shots-requires c = omega (
  arith,
  (counted c.args.bytes.now c.count.result _
      (sym c.in_ok-shots.was ∙ c.count_shots.ensures)).room,
  c.count.ensures,
)

pub returns : goal.returns
returns c = read-stored _ _ c.header_absent.ensures (sym c.in_ok-header.was ∙ c.take_record.ensures) c.first_absent.ensures c.count.ensures
    (sym c.in_ok-shots.was ∙ c.count_shots.ensures) c.store_shots.ensures
