use mathlib.Core.Path.{◌≡◌}
use Prim.Native.Nat.{ℕ}
use native.Mathlib.Omega.{arith}
use Rattle.ground.proofs.SearchLaws.{search-none, search-more, search-all, search-found}
use Rattle.job.proofs.Shots.{asked_of, leaving-found}
use Rattle.job.proofs.Job.first_leaving.Goals as goal

pub loop-i-init : goal.loop-i-init
loop-i-init c = search-none (omega arith)

pub returns-then-shot_leaves : goal.returns-then-shot_leaves
returns-then-shot_leaves c = let start = c.args.self in
    let asked = asked_of start.field start.edge start.coords.now c.loop-i.i
    c.edge_of.ensures c.x_of.ensures c.y_of.ensures c.z_of.ensures
    c.shot_leaves.ensures in
    leaving-found _ _ _ (search-found c.loop-i.invariant asked c.if-shot_leaves.true)

pub loop-i-preserved : goal.loop-i-preserved
loop-i-preserved c = let start = c.args.self in
    let asked = asked_of start.field start.edge start.coords.now c.loop-i.i
    c.edge_of.ensures c.x_of.ensures c.y_of.ensures c.z_of.ensures
    c.shot_leaves.ensures in
    search-more c.loop-i.invariant (omega arith) asked c.if-shot_leaves.false

pub returns : goal.returns
returns c = let end : ◌≡◌ {A = ℕ} c.loop-i.i c.count-n.result = omega arith in rw (← end) (leaving-found _ _ _ (search-all c.loop-i.invariant (omega arith)))
