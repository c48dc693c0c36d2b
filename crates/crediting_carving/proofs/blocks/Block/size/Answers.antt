-- The product of three lengths.
use Rattle.crediting_carving.proofs.BlockLaws.{size-of-lengths}
use Rattle.crediting_carving.proofs.blocks.Block.size.Goals as goal

pub returns : goal.returns
returns c = size-of-lengths c.args.self c.len.ensures c.len-2.ensures c.len-3.ensures
