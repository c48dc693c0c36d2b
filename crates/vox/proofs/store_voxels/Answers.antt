use mathlib.Core.Path.{refl, ◌∙◌}
use native.Mathlib.Omega.{arith}
use Rattle.buffer.proofs.WroteLaws.{wrote_as}
use Rattle.buffer.proofs.Underway.{underway-all, underway-more, wrote-front}
use Rattle.shotfile_records.specs.Numbers.{shot_numbers}
use Rattle.vox.specs.Vox.{voxel_fields}
use Rattle.vox.proofs.Walks.{voxel-numbers, voxels-all, voxels-done, voxels-next}
use Rattle.vox.proofs.store_voxels.Goals as goal

pub loop-n-init : goal.loop-n-init
loop-n-init c = (refl, voxels-all _ _ _)

pub put_voxel-requires : goal.put_voxel-requires
put_voxel-requires c = omega (arith, c.loop-n-test.true, c.requires.count_bound, c.loop-n.invariant.0)

pub loop-n-preserved : goal.loop-n-preserved
loop-n-preserved c = (
  c.put_voxel.auto.coords ∙ c.loop-n.invariant.0,
  underway-more c.loop-n.invariant.1 (shot_numbers (voxel_fields c.args.bytes.now c.loop-n.n)) _
      (voxels-next c.args.bytes.now c.args.count c.loop-n.n c.loop-n-test.true) (wrote_as (voxel-numbers c.args.bytes.now c.loop-n.n) c.put_voxel.ensures),
)

pub shape_of-coords : goal.shape_of-coords
shape_of-coords c = c.loop-n.invariant.0

pub returns : goal.returns
returns c = wrote-front (underway-all c.loop-n.invariant.1 (voxels-done _ _ _ c.loop-n-test.false))
