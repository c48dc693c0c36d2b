-- No plane is counted before the first; over all points the counts are the totals.
use Rattle.std.proofs.Common.{ℕ, ◌≡◌, ◌∙◌, ◌+◌, arith}
use Rattle.job.specs.Job.{seen}
use Rattle.job.proofs.Conditions.{valid-within}
use Rattle.measure_intake.specs.Intake.{solid}
use Rattle.measure_cells.specs.Points.{plane_to}
use Rattle.measure_cells.proofs.FieldLaws.{field-totals}
use Rattle.measure_cells.proofs.SumLaws.{whole-none}
use Rattle.measure_shown.proofs.count_shown.Goals.{else-loop-x-test, then-loop-x-test+else-x-step-x-end}
use Rattle.measure_shown.proofs.count_shown.Goals as goal

pub loop-x-init : goal.loop-x-init
loop-x-init c =
    let a = c.args.list.job in
    (omega arith, whole-none (λ (x : ℕ). plane_to (solid (seen a)) (a.field + 1) (a.field + 1) x))

-- left at once, or after the last piece
pub returns : goal.returns
returns c =
    let a = c.args.list.job in
    let all = field-totals a.field (solid (seen a)) (valid-within c.args.list.holds.valid) in
    elim c.loop-x-test.branch [
      | else-loop-x-test w ↦
          let e : c.loop-x.x ≡ a.field + 1 = omega (arith, w.loop-x-test.false, c.loop-x.invariant.0) in
          w.sums-is ∙ (rw e at c.loop-x.invariant.1) ∙ all
      | then-loop-x-test+else-x-step-x-end w ↦
          let e : w.min.result ≡ a.field + 1 = omega (arith, w.min.ensures) in
          w.sums-is ∙ (rw e at w.count_planes-sums.ensures) ∙ all
    ]
