-- Reading a VOX file does as it promises.
use Rattle.acceptance.proofs.Condition1.{vox-answered}
use Rattle.acceptance.proofs.condition_1.read_vox.Goals as goal

pub returns : goal.returns
returns c = vox-answered c.read_vox.ensures
