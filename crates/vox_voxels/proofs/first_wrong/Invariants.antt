-- No voxel before that of the loop is wrong.
use Rattle.ground.proofs.SearchLaws.{Searched}
use Rattle.vox_voxels.specs.Voxels.{wrong_voxel}
use Rattle.vox_voxels.proofs.first_wrong.Given as goal

abbrev pub invariant-loop-n : goal.invariant-loop-n
invariant-loop-n l = Searched (wrong_voxel l.bytes) 0 l.count l.n
