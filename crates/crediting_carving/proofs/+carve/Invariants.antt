-- No shot of the run meets the block, or the first that does gets its cells and the parts around them are carved by the rest of the run.
-- The measure is the length of the run; the loop has credited the parts so far.
use mathlib.Core.Path.{◌≡◌}
use lib.ListN.{length}
use Rattle.crediting_carving.specs.Blocks.{added}
use Rattle.crediting_carving.proofs.CarveLaws.{sides_in}
use Rattle.crediting_carving.proofs.+carve.Given as goal

abbrev pub decreases-carve : goal.decreases-carve
decreases-carve l = length l.run.now

abbrev pub invariant-loop-side : goal.invariant-loop-side
invariant-loop-side l = l.credits ≡ added l.initial.credits (sides_in l.edge l.coords l.rest l.block l.core l.side-index)
