-- No needless field in a file that is read, by what reading promises.
use Rattle.acceptance.proofs.ShortestFiles.{only-shortest}
use Rattle.acceptance.proofs.shortest_files.read.Goals as goal

pub returns : goal.returns
returns c = only-shortest c.read.ensures
