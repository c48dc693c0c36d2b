-- An accepted VOX file is always quoted, where the work slice has an entry for each of 4,096 voxels and two more: docs/SCOPE.md, 'VOX file'.
-- The statement at the end is of the call, by what it promises. Assumes nothing.
use mathlib.Core.Path.{◌≡◌, ◌∙◌, ap}
use mathlib.Core.List.{List}
use Prim.Native.Nat.{ℕ, ◌≤◌}
use native.Mathlib.Omega.{arith}
use lib.ListN.{length}
use Rattle.buffer.specs.Wrote.{Wrote}
use Rattle.buffer.proofs.WroteLaws.{wrote_as}
use Rattle.lattice_sums.specs.CornerSums.{totals_of}
use Rattle.job.specs.Job.{Job, shot_count, Valid}
use Rattle.grid.specs.Grid.{need}
use Rattle.shotfile_reader.specs.Files.{File, file}
use Rattle.vox.specs.Vox.{vox_in}
use Rattle.vox.proofs.Voxels.{vox-list}
use Rattle.measure_intake.specs.Intake.{solid, answer_of, measure_answer}
use Rattle.measure_intake.proofs.Refused.{measure-decides}
use Rattle.text_report.specs.Lines.{quote_lines}
use Rattle.quoting_text.specs.Quoting.{answer_text, quoted_text}
use Rattle.quoting.specs.VoxQuoting.{vox_text, VoxQuoted}
use Rattle.refusals.specs.Refusals.{Checked}
use Rattle.std.specs.Prelude.{Ok}

-- a list that is valid and has its entries is quoted: its totals are its cell counts
measure-quotes : (job : Job) (entries : ℕ) → Valid job → need job ≤ entries → measure_answer job entries ≡ Ok (totals_of job.field (solid job))
unfolding measure_answer
measure-quotes job entries v h = ap (λ (c : Checked). answer_of c job.field (solid job)) ((measure-decides job entries).accepted.1 (v, h))

-- the text of an accepted file is the quote of its cells
vox-text : (places : ℕ) (bytes : List ℕ) {job : Job} → vox_in places bytes ≡ file job
    → (entries : ℕ) → 4098 ≤ entries → vox_text bytes places entries ≡ quote_lines (totals_of job.field (solid job))
unfolding vox_text answer_text
vox-text places bytes {job} is entries enough =
    let list = vox-list places bytes is in
    let quoted = measure-quotes job entries list.valid (omega (arith, list.needs, list.valid.few)) in
    ap (λ (f : File). quoted_text f entries) is ∙ ap answer_text quoted

-- so the call puts that quote to the front
pub vox-always : {bytes lent work out coords' work' out' : List ℕ} {r : ℕ} → VoxQuoted bytes lent work out r coords' work' out'
    → {job : Job} → vox_in (shot_count lent) bytes ≡ file job
    → 4098 ≤ length work → Wrote out out' 0 r (quote_lines (totals_of job.field (solid job)))
vox-always {bytes} {lent} {work} call is enough = wrote_as (vox-text (shot_count lent) bytes is (length work) enough) call.text
