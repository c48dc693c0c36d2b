-- Each arm gathers its four cells, which is computed at all 256 bytes.
use Rattle.lattice_edges.specs.declared.UnitEdge.TheVariants.{BelowX, AboveX, BelowY, AboveY, BelowZ, AboveZ}
use Rattle.lattice_edges.proofs.EdgeLaws.{low-gathers}
use Rattle.lattice_edges.proofs.UnitEdge.low_four.Goals as goal

pub returns-in-BelowX : goal.returns-in-BelowX
returns-in-BelowX c = low-gathers BelowX c.in-BelowX.is c.args.p c.ranges.p.fits

pub returns-in-AboveX : goal.returns-in-AboveX
returns-in-AboveX c = low-gathers AboveX c.in-AboveX.is c.args.p c.ranges.p.fits

pub returns-in-BelowY : goal.returns-in-BelowY
returns-in-BelowY c = low-gathers BelowY c.in-BelowY.is c.args.p c.ranges.p.fits

pub returns-in-AboveY : goal.returns-in-AboveY
returns-in-AboveY c = low-gathers AboveY c.in-AboveY.is c.args.p c.ranges.p.fits

pub returns-in-BelowZ : goal.returns-in-BelowZ
returns-in-BelowZ c = low-gathers BelowZ c.in-BelowZ.is c.args.p c.ranges.p.fits

pub returns-in-AboveZ : goal.returns-in-AboveZ
returns-in-AboveZ c = low-gathers AboveZ c.in-AboveZ.is c.args.p c.ranges.p.fits
