-- `first_absent` is the definition's constant. Assumes nothing.
use mathlib.Core.Path.{refl}
use Rattle.shotfile_records.specs.Records.{first_absent}
use Rattle.shotfile_records.proofs.first_absent.Goals as goal

pub returns : goal.returns
unfolding first_absent
returns c = refl
