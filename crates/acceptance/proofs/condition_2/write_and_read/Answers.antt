-- What was written is read.
use mathlib.Core.Path.{refl}
use Rattle.std.proofs.lemmas.Result.{err_from_is_err_and}
use Rattle.acceptance.proofs.Condition2.{written-there, reads_back, unread}
use Rattle.acceptance.proofs.condition_2.write_and_read.Goals as goal

pub front-requires : goal.front-requires
front-requires c = written-there c.in_ok-length.ensures refl

pub returns-in_err-length : goal.returns-in_err-length
returns-in_err-length c = let p = err_from_is_err_and c.from_residual.result c.from_residual.ensures.1 in
    rw (p.1, p.2) (unread c.in_err-length.ensures refl)

pub returns : goal.returns
returns c = reads_back c.in_ok-length.ensures refl c.front.ensures c.read.ensures
