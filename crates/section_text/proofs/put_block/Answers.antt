-- The lines of a block's records. Assumes nothing.
use native.Mathlib.Omega.{arith}
use Rattle.buffer.proofs.WroteLaws.{wrote_as}
use Rattle.section_text.proofs.BlockLaws.{block-few, block-lined}
use Rattle.section_text.proofs.put_block.Goals as goal

pub put_corners-requires : goal.put_corners-requires
put_corners-requires c = omega (arith, block-few c.args.listing.now c.args.number c.block-records.ensures, c.requires)

pub returns : goal.returns
returns c = wrote_as (block-lined _ _ c.block-records.ensures) c.put_corners.ensures
