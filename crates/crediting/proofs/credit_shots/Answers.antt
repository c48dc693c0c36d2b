use mathlib.Core.Path.{◌≡◌, refl, sym, ap, ◌∙◌}
use Prim.Native.Nat.{◌*◌}
use native.Mathlib.Omega.{arith}
use lib.ListN.{replicate}
use Rattle.job.specs.Job.{shot_count}
use Rattle.crediting.proofs.FieldLaws.{cells-long, cells-none, cells-next, cell_room, cells-all}
use Rattle.crediting.proofs.credit_shots.Goals as goal

pub cells_of-cell-end-requires : goal.cells_of-cell-end-requires
cells_of-cell-end-requires c = c.args.list.holds.valid.grid_most

pub loop-cell-init : goal.loop-cell-init
loop-cell-init c = (omega arith, c.fill.ensures.after (λ y h. h) ∙ (ap (λ n. replicate n 0) (sym c.requires.shots_placed) ∙ cells-none c.args.list.holds.valid (shot_count c.args.list.job.coords.now)))

pub credit_cell-requires : goal.credit_cell-requires
credit_cell-requires c = record {
  cell_bound = omega (arith, c.cells_of-cell-end.ensures);
  shots_placed = omega (arith, cells-long c.args.list.holds.valid (shot_count c.args.list.job.coords.now) c.loop-cell.cell c.loop-cell.invariant.1);
  room_for = cell_room c.args.list.holds.valid (shot_count c.args.list.job.coords.now) c.loop-cell.cell (omega (arith, c.cells_of-cell-end.ensures))
      c.loop-cell.credits c.loop-cell.invariant.1;
}

pub loop-cell-preserved : goal.loop-cell-preserved
loop-cell-preserved c = (omega arith, cells-next c.args.list.holds.valid (shot_count c.args.list.job.coords.now) c.loop-cell.cell c.loop-cell.credits _ c.loop-cell.invariant.1 c.credit_cell.ensures)

pub shape_of-credits : goal.shape_of-credits
shape_of-credits c = omega (arith, cells-long c.args.list.holds.valid (shot_count c.args.list.job.coords.now) c.loop-cell.cell c.loop-cell.invariant.1, c.requires.shots_placed)

pub returns : goal.returns
returns c = let all : c.loop-cell.cell ≡ c.args.list.job.grid * c.args.list.job.grid * c.args.list.job.grid = omega (arith, c.cells_of-cell-end.ensures) in cells-all c.args.list.holds.valid (shot_count c.args.list.job.coords.now) refl c.loop-cell.credits (rw all at c.loop-cell.invariant.1)
