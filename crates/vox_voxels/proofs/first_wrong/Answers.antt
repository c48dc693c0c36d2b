use mathlib.Core.Path.{◌≡◌, ◌∙◌}
use native.Mathlib.Omega.{arith}
use Rattle.ground.proofs.SearchLaws.{search-none, search-more, search-all, search-found}
use Rattle.vox_voxels.proofs.VoxelLaws.{wrong-found}
use Rattle.vox_voxels.proofs.first_wrong.Goals as goal

pub loop-n-init : goal.loop-n-init
loop-n-init c = search-none (omega arith)

pub returns-then-is_wrong_voxel : goal.returns-then-is_wrong_voxel
returns-then-is_wrong_voxel c = wrong-found _ (search-found c.loop-n.invariant c.is_wrong_voxel.ensures c.if-is_wrong_voxel.true)

pub loop-n-preserved : goal.loop-n-preserved
loop-n-preserved c = search-more c.loop-n.invariant (omega arith) c.is_wrong_voxel.ensures c.if-is_wrong_voxel.false

pub returns : goal.returns
returns c =
    let all : c.args.count ≡ c.loop-n.n = omega arith in
    all ∙ wrong-found _ (search-all c.loop-n.invariant (omega arith))
