use mathlib.Core.Path.{◌∙◌}
use native.Mathlib.Omega.{arith}
use Rattle.acceptance.proofs.SectionParts.{joined-none, joined-more, joined-last}
use Rattle.acceptance.proofs.sections.put_parts.Goals as goal

pub loop-x-init : goal.loop-x-init
loop-x-init c = (omega arith, joined-none _ _ _)

pub put_part-next-requires : goal.put_part-next-requires
put_part-next-requires c = c.loop-x.invariant.1.inside

pub loop-x-preserved : goal.loop-x-preserved
loop-x-preserved c = let s = c.args in (omega arith, joined-more s.listing.now s.out.now s.side (omega arith) c.loop-x.invariant.1 c.part-part.ensures c.put_part-next.ensures)

pub put_part-requires : goal.put_part-requires
put_part-requires c = c.loop-x.invariant.1.inside

pub shape_of-out : goal.shape_of-out
shape_of-out c = c.put_part.ensures.same_room ∙ c.loop-x.invariant.1.same_room

pub returns : goal.returns
returns c = let s = c.args in joined-last s.listing.now s.out.now s.side (omega arith) c.loop-x.invariant.1 c.part-last.ensures c.put_part.ensures
