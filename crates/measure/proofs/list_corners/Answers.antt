-- The corners are counted before the buffer is called too short.
use native.Mathlib.Omega.{arith}
use Rattle.job.specs.Job.{seen}
use Rattle.measure_intake.specs.Intake.{solid}
use Rattle.measure.proofs.AnswerLaws.{totals-corners, short-listing, long-listing}
use Rattle.measure.proofs.list_corners.Goals as goal

pub returns-then-buffer-corners : goal.returns-then-buffer-corners
returns-then-buffer-corners c = short-listing c.args.list.job.field (solid (seen c.args.list.job)) c.args.buffer.now (totals-corners c.args.list.job.field (solid (seen c.args.list.job)) c.count-totals.ensures)
    (omega arith)

pub store-requires : goal.store-requires
store-requires c = record { coords_in_bounds = omega (arith, totals-corners c.args.list.job.field (solid (seen c.args.list.job)) c.count-totals.ensures, c.if-buffer-corners.false) }

pub returns : goal.returns
returns c = long-listing c.args.list.job.field (solid (seen c.args.list.job)) c.args.buffer.now
    (omega (arith, totals-corners c.args.list.job.field (solid (seen c.args.list.job)) c.count-totals.ensures, c.if-buffer-corners.false)) c.count-totals.ensures c.store.ensures
