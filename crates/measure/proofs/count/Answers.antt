-- A sweep that stores nothing: its sums are the totals.
use mathlib.Core.Path.{◌≡◌}
use Rattle.job.specs.Job.{seen}
use Rattle.lattice.specs.Listing.{corners}
use Rattle.lattice_sums.specs.CornerSums.{sums_of, totals_of}
use Rattle.job.proofs.Conditions.{valid-within}
use Rattle.measure_intake.specs.Intake.{solid}
use Rattle.measure.proofs.AnswerLaws.{swept-sums, swept-whole, swept-totals}
use Rattle.measure.proofs.count.Goals as goal

pub totals-requires : goal.totals-requires
totals-requires c =
    let s = solid (seen c.args.list.job) in
    let is : c.sweep.result ≡ sums_of (corners c.args.list.job.field s) = swept-sums _ c.args.list.job.field s c.sweep.ensures in
    (totals_of c.args.list.job.field s, swept-whole c.args.list.job.field s (valid-within c.args.list.holds.valid) is)

pub returns : goal.returns
returns c =
    let s = solid (seen c.args.list.job) in
    let is : c.sweep.result ≡ sums_of (corners c.args.list.job.field s) = swept-sums _ c.args.list.job.field s c.sweep.ensures in
    swept-totals c.args.list.job.field s (valid-within c.args.list.holds.valid) is c.totals.ensures
