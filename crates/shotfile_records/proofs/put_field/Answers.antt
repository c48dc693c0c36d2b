-- `put_field` writes a field, or nothing. Assumes nothing.
use mathlib.Core.Path.{ap}
use native.Mathlib.Omega.{arith}
use lib.ListN.{length}
use Rattle.shotfile_records.proofs.Putting.{field-some, put-absent, put-there}
use Rattle.shotfile_records.proofs.put_field.Goals as goal

pub returns-then-number-absent : goal.returns-then-number-absent
returns-then-number-absent c = let given = c.args in put-absent given.bytes.now given.at given.absent given.number (omega arith) c.requires

pub slice_bounds-copy_from_slice-end : goal.slice_bounds-copy_from_slice-end
slice_bounds-copy_from_slice-end c = omega (arith, ap length (field-some _ _ c.if-number-absent.false))

pub returns : goal.returns
returns c = rw (c.copy_from_slice.ensures.after, c.to_le_bytes.ensures) (put-there _ _ _ _ c.if-number-absent.false (omega arith) c.requires)
