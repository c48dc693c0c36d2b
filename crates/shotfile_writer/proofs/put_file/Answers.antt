use mathlib.Core.Path.{refl, ◌∙◌}
use Prim.Native.Nat.{◌+◌}
use native.Mathlib.Omega.{arith}
use Rattle.buffer.proofs.Underway.{underway-none, underway-all, underway-room, underway-more}
use Rattle.shotfile_records.specs.Records.{record_of}
use Rattle.shotfile_writer.proofs.Writing.{records_from, records-on, records-end, header-room, shots-room, all-written}
use Rattle.shotfile_writer.proofs.put_file.Goals as goal

pub put_record-at-requires : goal.put_record-at-requires
put_record-at-requires c = rw c.settings_of.ensures (header-room _ c.header_absent-absent.ensures refl c.args.bytes.now c.requires)

pub loop-i-init : goal.loop-i-init
loop-i-init c = (refl, underway-none _ _ _ (omega (arith, c.put_record-at.ensures.next, c.put_record-at.ensures.room, c.put_record-at.auto.bytes)))

pub shot_at-shot-requires : goal.shot_at-shot-requires
shot_at-shot-requires c = omega (arith, c.loop-i-test.true, c.count-i-end.ensures)

pub put_record-at-requires-in-loop-i : goal.put_record-at-requires-in-loop-i
put_record-at-requires-in-loop-i c = underway-room c.loop-i.invariant.1 (record_of c.loop-i.last c.shot_at-shot.result) (records_from c.args.job.edge c.args.job.coords.now (c.loop-i.i + 1) c.shot_at-shot.result)
    (records-on c.args.job.edge c.args.job.coords.now c.loop-i.i c.loop-i.last (omega (arith, c.loop-i-test.true, c.count-i-end.ensures)) c.shot_at-shot.ensures)
    (shots-room _ c.header_absent-absent.ensures c.first_absent-last.ensures (rw c.settings_of.ensures at c.put_record-at.ensures) c.requires c.put_record-at.auto.bytes)

pub loop-i-preserved : goal.loop-i-preserved
loop-i-preserved c = (
  c.put_record-at-in-loop-i.auto.bytes ∙ c.loop-i.invariant.0,
  underway-more c.loop-i.invariant.1 (record_of c.loop-i.last c.shot_at-shot.result)
      (records_from c.args.job.edge c.args.job.coords.now (c.loop-i.i + 1) c.shot_at-shot.result)
      (records-on c.args.job.edge c.args.job.coords.now c.loop-i.i c.loop-i.last (omega (arith, c.loop-i-test.true, c.count-i-end.ensures)) c.shot_at-shot.ensures) c.put_record-at-in-loop-i.ensures,
)

pub shape_of-bytes : goal.shape_of-bytes
shape_of-bytes c = c.loop-i.invariant.0 ∙ c.put_record-at.auto.bytes

pub returns : goal.returns
returns c = all-written _ c.header_absent-absent.ensures c.first_absent-last.ensures (rw c.settings_of.ensures at c.put_record-at.ensures)
    (underway-all c.loop-i.invariant.1 (records-end c.args.job.edge c.args.job.coords.now c.loop-i.i c.loop-i.last (omega (arith, c.loop-i-test.false, c.count-i-end.ensures))))
