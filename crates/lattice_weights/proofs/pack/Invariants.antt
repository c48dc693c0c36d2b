-- The weights are put in one after the other, from none.
use Rattle.lattice_weights.specs.Packed.{FirstWeights}
use Rattle.lattice_weights.proofs.pack.Given as goal

abbrev pub invariant-loop-which : goal.invariant-loop-which
invariant-loop-which l = FirstWeights l.which-index l.t
