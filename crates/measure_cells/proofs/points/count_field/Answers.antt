-- All planes, from none: over all points the counts are the totals.
use mathlib.Core.Path.{◌∙◌}
use Prim.Native.Nat.{ℕ, ◌+◌}
use native.Mathlib.Omega.{arith}
use Rattle.job.specs.Job.{seen}
use Rattle.job.proofs.Conditions.{valid-within}
use Rattle.measure_intake.specs.Intake.{solid}
use Rattle.measure_cells.specs.Points.{plane_to}
use Rattle.measure_cells.proofs.FieldLaws.{field-totals}
use Rattle.measure_cells.proofs.SumLaws.{whole-none}
use Rattle.measure_cells.proofs.points.count_field.Goals as goal

pub count_planes-requires : goal.count_planes-requires
count_planes-requires c = record { from_le_to = omega arith; to_bound = omega arith; t_value = whole-none (λ (x : ℕ). plane_to (solid (seen c.args.list.job)) (c.args.list.job.field + 1) (c.args.list.job.field + 1) x) }

pub returns : goal.returns
returns c = c.count_planes.ensures ∙ field-totals c.args.list.job.field (solid (seen c.args.list.job)) (valid-within c.args.list.holds.valid)
