-- Pattern after pattern, the entry of the table goes to the weight's place of its sixteen.
use Rattle.lattice_weights.specs.Packed.{place}
use Rattle.lattice_weights.proofs.PackedLaws.{PackedTo}
use Rattle.lattice_weights.proofs.copy_in.Given as goal

abbrev pub invariant-loop-q : goal.invariant-loop-q
invariant-loop-q l = PackedTo (place l.which) l.q l.t
