-- A record is its map and its three fields. Assumes nothing.
use native.Mathlib.Omega.{arith}
use Rattle.shotfile_records.proofs.Putting.{field_most, record-size}
use Rattle.shotfile_records.proofs.record_length.Goals as goal

pub overflow_add-result : goal.overflow_add-result
overflow_add-result c = omega (arith, c.field_length-first.ensures, field_most c.args.absent.first c.args.fields.first, c.field_length-second.ensures, field_most c.args.absent.second c.args.fields.second, c.field_length-third.ensures, field_most c.args.absent.third c.args.fields.third)

pub overflow_add-result-2 : goal.overflow_add-result-2
overflow_add-result-2 c = omega (arith, c.field_length-first.ensures, field_most c.args.absent.first c.args.fields.first, c.field_length-second.ensures, field_most c.args.absent.second c.args.fields.second, c.field_length-third.ensures, field_most c.args.absent.third c.args.fields.third)

pub overflow_add-result-3 : goal.overflow_add-result-3
overflow_add-result-3 c = omega (arith, c.field_length-first.ensures, field_most c.args.absent.first c.args.fields.first, c.field_length-second.ensures, field_most c.args.absent.second c.args.fields.second, c.field_length-third.ensures, field_most c.args.absent.third c.args.fields.third)

pub returns : goal.returns
returns c = omega (arith, record-size c.args.absent c.args.fields, c.field_length-first.ensures, c.field_length-second.ensures, c.field_length-third.ensures)
