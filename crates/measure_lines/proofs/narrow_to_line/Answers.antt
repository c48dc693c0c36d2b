use Rattle.std.proofs.Common.{sym, ◌∙◌}
use Rattle.job.specs.Job.{shot_count}
use Rattle.ground.proofs.NumberLaws.{below_at}
use Rattle.measure_lines.specs.Lines.{reaches_line}
use Rattle.measure_lines.proofs.KeptLaws.{kept-none, kept-room, kept-yes, kept-no}
use Rattle.measure_lines.proofs.narrow_to_line.Goals as goal
use Rattle.measure_lines.proofs.narrow_to_line.Goals.{then-reaches_line, else-reaches_line}

pub loop-shot-init : goal.loop-shot-init
loop-shot-init c = let a = c.args in kept-none (reaches_line a.edge a.coords.now a.x a.y) a.run.now a.to.now

pub reaches_line-requires : goal.reaches_line-requires
reaches_line-requires c = below_at (shot_count c.args.coords.now) c.args.run.now c.requires.all_below c.loop-shot.shot-index c.loop-shot-test.true

pub bounds-to-next : goal.bounds-to-next
bounds-to-next c = let a = c.args in kept-room (reaches_line a.edge a.coords.now a.x a.y) a.run.now a.to.now c.loop-shot.shot-index c.loop-shot-test.true c.loop-shot.invariant c.requires.run_in_bounds

pub loop-shot-preserved : goal.loop-shot-preserved
loop-shot-preserved c = let a = c.args in
    let f = reaches_line a.edge a.coords.now a.x a.y in
    let i = c.loop-shot.shot-index in
    elim c.if-reaches_line.branch [
      | then-reaches_line w ↦ rw (w.to-is, w.next-is) (kept-yes f a.run.now a.to.now i c.loop-shot-test.true c.loop-shot.invariant c.requires.run_in_bounds (sym c.reaches_line.ensures ∙ w.if-reaches_line.true))
      | else-reaches_line w ↦ rw (w.to-is, w.next-is) (kept-no f a.run.now a.to.now i c.loop-shot-test.true c.loop-shot.invariant (sym c.reaches_line.ensures ∙ w.if-reaches_line.false))
    ]
