-- A field takes two bytes where its bit stands. Assumes nothing.
use native.Mathlib.Omega.{arith}
use Rattle.shotfile_records.proofs.Putting.{field-size}
use Rattle.shotfile_records.proofs.field_length.Goals as goal

pub returns : goal.returns
returns c = omega (arith, c.from.ensures, c.stands.ensures, field-size c.args.absent c.args.value)
