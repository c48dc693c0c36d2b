-- All cells go in behind the starting places, and the last starting place makes the index whole.
use mathlib.Core.Path.{ap, ◌∙◌}
use native.Mathlib.Omega.{arith}
use Rattle.job.specs.Job.{seen}
use Rattle.ground.specs.Numbers.{up_to}
use Rattle.grid_filling.proofs.IndexLaws.{up_to-part, need-place, build-ready, build-fits, build-last}
use Rattle.grid_filling.proofs.build.Goals as goal

pub fill_slabs-end-requires : goal.fill_slabs-end-requires
fill_slabs-end-requires c = record { all_value = up_to-part c.count-shots.result (omega (arith, c.count-shots.ensures, c.args.list.valid.few)) c.number.ensures ∙ ap up_to c.count-shots.ensures; ready = build-ready _ c.args.work.now c.requires.coords_in_bounds c.cells_of-cells.ensures }

pub overflow_cast-work : goal.overflow_cast-work
overflow_cast-work c = build-fits _ c.args.work.now c.requires.coords_in_bounds c.args.list.valid c.cells_of-cells.ensures c.fill_slabs-end.ensures

pub bounds-work-cells : goal.bounds-work-cells
bounds-work-cells c = omega (arith, c.requires.coords_in_bounds, need-place (seen c.args.list.job), c.cells_of-cells.ensures, c.fill_slabs-end.ensures.same_length)

pub returns : goal.returns
returns c = build-last _ c.args.work.now c.requires.coords_in_bounds c.cells_of-cells.ensures c.fill_slabs-end.ensures
