-- The sums of no corner are zero.
use Rattle.std.proofs.Common.{rules}
use Rattle.lattice.specs.Listing.{over, corner_sum}
use Rattle.lattice_sums.specs.CornerSums.{sums_of}
use Rattle.lattice_sums.proofs.sums.CornerSums.new.Goals as goal

pub returns : goal.returns
unfolding sums_of corner_sum over
returns c = search rules
