-- No shot that was asked covers the cell; so the first that does is that of the shots still to ask.
use Rattle.std.proofs.Common.{◌≡◌}
use Rattle.grid_cover.specs.Cover.{first_covering}
use Rattle.grid_cover.proofs.first_covering.Given as goal

abbrev pub invariant-loop-shot : goal.invariant-loop-shot
invariant-loop-shot l = first_covering l.edge l.coords l.shots.rest.now l.i l.j l.k ≡ first_covering l.edge l.coords l.run l.i l.j l.k
