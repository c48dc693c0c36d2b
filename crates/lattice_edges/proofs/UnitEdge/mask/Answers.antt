-- Each mask is that of its four cells, which is computed at all 256 bytes.
use Rattle.lattice_edges.specs.declared.UnitEdge.TheVariants.{BelowX, AboveX, BelowY, AboveY, BelowZ, AboveZ}
use Rattle.lattice_edges.proofs.EdgeLaws.{mask-counts}
use Rattle.lattice_edges.proofs.UnitEdge.mask.Goals as goal

pub returns-in-BelowX : goal.returns-in-BelowX
returns-in-BelowX c = mask-counts BelowX c.in-BelowX.is

pub returns-in-AboveX : goal.returns-in-AboveX
returns-in-AboveX c = mask-counts AboveX c.in-AboveX.is

pub returns-in-BelowY : goal.returns-in-BelowY
returns-in-BelowY c = mask-counts BelowY c.in-BelowY.is

pub returns-in-AboveY : goal.returns-in-AboveY
returns-in-AboveY c = mask-counts AboveY c.in-AboveY.is

pub returns-in-BelowZ : goal.returns-in-BelowZ
returns-in-BelowZ c = mask-counts BelowZ c.in-BelowZ.is

pub returns-in-AboveZ : goal.returns-in-AboveZ
returns-in-AboveZ c = mask-counts AboveZ c.in-AboveZ.is
