-- The voxels are the shots.
use Rattle.acceptance.proofs.Requests.{voxels-read}
use Rattle.acceptance.proofs.voxels.read_vox.Goals as goal

pub returns : goal.returns
returns c = voxels-read c.read_vox.ensures
