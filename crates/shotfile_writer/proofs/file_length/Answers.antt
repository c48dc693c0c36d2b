use native.Mathlib.Omega.{arith}
use Rattle.job.specs.Job.{seen}
use Rattle.shotfile_writer.proofs.Writing.{file-most, measured-none, measured-more, measured-all}
use Rattle.shotfile_writer.proofs.file_length.Goals as goal

pub loop-i-init : goal.loop-i-init
loop-i-init c = measured-none (seen c.args.job) c.header_absent-absent.ensures c.first_absent-last.ensures (rw c.settings_of.ensures at c.record_length-total.ensures)

pub shot_at-shot-requires : goal.shot_at-shot-requires
shot_at-shot-requires c = omega (arith, c.loop-i-test.true, c.count-i-end.ensures)

pub overflow_add-total : goal.overflow_add-total
overflow_add-total c = omega (
  arith,
  (measured-more c.loop-i.invariant (omega (arith, c.loop-i-test.true, c.count-i-end.ensures)) c.shot_at-shot.ensures c.record_length-total-in-loop-i.ensures).is,
  file-most
      (seen c.args.job) c.requires,
)

pub loop-i-preserved : goal.loop-i-preserved
loop-i-preserved c = measured-more c.loop-i.invariant (omega (arith, c.loop-i-test.true, c.count-i-end.ensures)) c.shot_at-shot.ensures c.record_length-total-in-loop-i.ensures

pub returns : goal.returns
returns c = measured-all c.loop-i.invariant (omega (arith, c.loop-i-test.false, c.count-i-end.ensures))
