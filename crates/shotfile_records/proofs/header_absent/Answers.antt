-- `header_absent` is the definition's constant. Assumes nothing.
use mathlib.Core.Path.{refl}
use Rattle.shotfile_records.specs.Records.{header_absent}
use Rattle.shotfile_records.proofs.header_absent.Goals as goal

pub returns : goal.returns
unfolding header_absent
returns c = refl
