-- The same of a VOX file.
use Rattle.quoting.proofs.ReadVox.{vox-there, vox-quoted}
use Rattle.quoting.proofs.quote_vox.Goals as goal

pub measure_read-measured-requires : goal.measure_read-measured-requires
measure_read-measured-requires c = vox-there c.read_vox-read.ensures

pub returns : goal.returns
returns c = vox-quoted c.read_vox-read.ensures c.measure_read-measured.ensures c.put_answer.ensures
