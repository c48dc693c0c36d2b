-- Four bits; an empty run covers nothing.
use Rattle.std.proofs.Common.{sym, ◌∙◌, arith}
use borrow.Author.Tests.{eqb-true}
use Rattle.grid_cover.specs.Cover.{run_covers}
use Rattle.measure_cells.proofs.PointLaws.{bit-told, quad_is, quad-none}
use Rattle.measure_cells.proofs.points.quad_ends.Goals as goal

pub returns-then-is_empty : goal.returns-then-is_empty
returns-then-is_empty c = (quad-none c.args.edge c.args.coords.now c.args.run.now c.args.x c.args.y c.args.z (eqb-true _ _ (sym c.is_empty.ensures ∙ c.if-is_empty.true)), omega arith)

pub returns : goal.returns
returns c =
    let p = bit-told c.from-p.ensures c.cell_ends.ensures in
    let q = bit-told c.from-q.ensures c.cell_ends-2.ensures in
    let r = bit-told c.from-r.ensures c.cell_ends-3.ensures in
    let s = bit-told c.from-s.ensures c.cell_ends-4.ensures in
    (quad_is (run_covers c.args.edge c.args.coords.now c.args.run.now) c.args.x c.args.y c.args.z p.0 q.0 r.0 s.0, omega (arith, p.1, q.1, r.1, s.1))
