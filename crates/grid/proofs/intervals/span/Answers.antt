-- The intervals met are those from the first on and before the one after the last, cut at the grid.
use Rattle.grid.proofs.NeedLaws.{span-read, first-read}
use Rattle.grid.proofs.intervals.span.Goals as goal

pub overflow_sub-result : goal.overflow_sub-result
overflow_sub-result c = let a = c.args in
    rw (c.min.ensures, c.from-first.ensures, c.from-after.ensures, c.from.ensures, c.saturating_sub.ensures, c.from-2.ensures, c.from-3.ensures, c.from-4.ensures) (first-read a.width a.at a.edge c.requires.le_width a.grid c.requires.edge_bound c.requires.quotients)

pub returns : goal.returns
returns c = let a = c.args in
    rw (c.min.ensures, c.from-first.ensures, c.from-after.ensures, c.from.ensures, c.saturating_sub.ensures, c.from-2.ensures, c.from-3.ensures, c.from-4.ensures) (span-read a.width a.at a.edge c.requires.le_width a.grid c.requires.edge_bound c.requires.quotients)
