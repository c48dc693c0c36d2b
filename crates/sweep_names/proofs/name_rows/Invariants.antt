-- The rows before that of the loop are named.
use Rattle.sweep_image.specs.Changes.{Changed}
use Rattle.sweep_names.specs.Names.{named_if}
use Rattle.sweep_names.proofs.name_rows.Given as goal

abbrev pub invariant-loop-y : goal.invariant-loop-y
invariant-loop-y l = Changed (named_if l.l l.u l.at l.bit) l.a l.y l.initial.names l.names
