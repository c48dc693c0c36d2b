-- `block` hands back what lies between a block's ends. Assumes nothing.
use Prim.Native.Nat.{◌*◌}
use native.Mathlib.Omega.{arith}
use Rattle.section_text.proofs.BlockLaws.{block-lies}
use Rattle.section_text.proofs.block.Goals as goal

pub returns : goal.returns
returns c = block-lies 14336 (14336 * c.args.number) c.args.listing.now (omega (arith, c.saturating_mul.ensures, c.min-start.ensures)) (omega (arith, c.saturating_add.ensures, c.min-end.ensures))
