use native.Mathlib.Omega.{arith}
use Rattle.job.specs.Job.{shot_count}
use Rattle.grid.specs.Grid.{meets_on}
use Rattle.ground.proofs.NumberLaws.{below_at}
use Rattle.grid_filling.proofs.FrontLaws.{bit-from, kept-none, kept-few, kept-turn}
use Rattle.grid_filling.proofs.narrow.Goals as goal

pub loop-shot-init : goal.loop-shot-init
loop-shot-init c = let a = c.args in kept-none (meets_on a.axis a.width a.interval a.edge a.coords.now) a.from.now a.to.now

pub bounds-to-kept : goal.bounds-to-kept
bounds-to-kept c = let a = c.args in omega (arith, kept-few (meets_on a.axis a.width a.interval a.edge a.coords.now) a.from.now c.loop-shot.shot-index c.loop-shot.invariant (omega arith))

pub is_met-requires : goal.is_met-requires
is_met-requires c = below_at (shot_count c.args.coords.now) c.args.from.now c.requires.all_below c.loop-shot.shot-index c.loop-shot-test.true

pub loop-shot-preserved : goal.loop-shot-preserved
loop-shot-preserved c = let a = c.args in
    let i = c.loop-shot in
    let k = kept-turn (meets_on a.axis a.width a.interval a.edge a.coords.now) a.from.now i.shot-index i.invariant c.loop-shot-test.true (omega arith) c.is_met.ensures (rw (bit-from c.is_met.result) at c.from-kept.ensures) in
    k
