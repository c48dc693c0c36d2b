-- A number stands where it is not what its absence means. Assumes nothing.
use Rattle.shotfile_records.proofs.Putting.{bit-told}
use Rattle.shotfile_records.proofs.stands.Goals as goal

pub returns : goal.returns
returns c = bit-told c.args.absent c.args.number
