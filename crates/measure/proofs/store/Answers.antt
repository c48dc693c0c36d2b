-- A sweep with room for every record.
use Rattle.job.specs.Job.{seen}
use Rattle.measure_intake.specs.Intake.{solid}
use Rattle.measure.proofs.AnswerLaws.{swept-listing}
use Rattle.measure.proofs.store.Goals as goal

pub returns : goal.returns
returns c = swept-listing c.args.buffer.now c.args.list.job.field (solid (seen c.args.list.job)) c.requires.coords_in_bounds c.sweep.ensures
