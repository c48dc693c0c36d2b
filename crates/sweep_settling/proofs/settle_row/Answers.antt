use native.Mathlib.Omega.{arith}
use lib.ListN.{length-set}
use Rattle.sweep_settling.proofs.SettlingLaws.{word_in, copied}
use Rattle.sweep_settling.proofs.settle_row.Goals as goal

pub bounds-u-at : goal.bounds-u-at
bounds-u-at c = let given = c.args in
    let left = c.loop-m.invariant.0 in
    word_in given.names.now given.y c.lowest.ensures (omega (arith, c.requires.lent.tells.size)) left given.u.now
    c.requires.lent.small c.requires.lent.upper

pub bounds-l-at : goal.bounds-l-at
bounds-l-at c = let given = c.args in
    let at = c.loop-m in
    word_in given.names.now given.y c.lowest.ensures (omega (arith, c.requires.lent.tells.size)) at.invariant.0 at.l
    c.requires.lent.small (omega (arith, at.invariant.1, c.requires.lent.lower))

pub loop-m-preserved : goal.loop-m-preserved
loop-m-preserved c = let given = c.args in
    let at = c.loop-m in (
      copied given.names.now given.y c.lowest.ensures (omega (arith, c.requires.lent.tells.size)) at.invariant.0
          c.without_lowest-m.ensures c.requires.lent.small (omega (arith, at.invariant.1, c.requires.lent.lower)),
      simp length-set at.invariant.1,
    )
