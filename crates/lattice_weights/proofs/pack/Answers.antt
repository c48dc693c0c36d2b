-- Turn j puts in the weight at place j.
use native.Mathlib.Omega.{arith}
use mathlib.Core.Path.{◌≡◌, subst}
use Rattle.lattice_weights.specs.Packed.{FirstWeights}
use Rattle.lattice_weights.proofs.PackedLaws.{no-weight, all-place}
use Rattle.lattice_weights.proofs.pack.Goals as goal

pub loop-which-init : goal.loop-which-init
loop-which-init c = no-weight c.requires

pub copy_in-requires : goal.copy_in-requires
copy_in-requires c = rw (all-place c.loop-which.which-index c.loop-which-test.true) c.loop-which.invariant

pub loop-which-preserved : goal.loop-which-preserved
loop-which-preserved c = rw (all-place c.loop-which.which-index c.loop-which-test.true) at c.copy_in.ensures

pub returns : goal.returns
returns c = let l = c.loop-which in
    let j : l.which-index ≡ 10 = omega arith in
    subst (λ j. FirstWeights j l.t) j l.invariant
