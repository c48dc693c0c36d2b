-- `shot_at` takes the three coordinates by the door of `job`. Assumes nothing.
use Rattle.shotfile_writer.proofs.shot_at.Goals as goal

pub returns : goal.returns
returns c = rw (c.x_of.ensures, c.y_of.ensures, c.z_of.ensures)
