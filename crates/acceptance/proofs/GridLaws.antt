-- Request (ii), from what the calls promise. Assumes nothing.
use mathlib.Core.Path.{◌≡◌, refl, ◌∙◌, ap}
use mathlib.Core.Bool.{Bool, true, false}
use mathlib.Core.List.{List}
use Prim.Native.Nat.{ℕ, ◌+◌}
use native.Mathlib.Omega.{arith}
use lib.ListN.{get_or}
use Rattle.job.specs.Job.{Job, with_grid, shot_count}
use Rattle.measure.specs.Answers.{ListCall}
use Rattle.measure.proofs.Condition3.{totals-any-grid, listing-any-grid}
use Rattle.shotfile_records.specs.Records.{header_absent, field_at, fields_at, bit_of, record_of}
use Rattle.shotfile_records.proofs.Parts.{parts}
use Rattle.shotfile_records.proofs.Putting.{bit-absent, bit-there, bit-small}
use Rattle.shotfile_reader.specs.Calls.{ReadCall}
use Rattle.shotfile_reader.specs.Calls.{ReadAnswer}
use Rattle.shotfile_reader.proofs.Accepted.{accepted-file}
use Rattle.shotfile_reader.proofs.FileParts.{file-parts}
use Rattle.shotfile_writer.specs.Files.{file_of}
use Rattle.shotfile_writer.specs.Calls.{WriteCall, WriteAnswer}
use Rattle.shotfile_writer.proofs.Accepted.{accepted-list}
use Rattle.acceptance.specs.Grids.{GridRead, GridWritten, ListedAlike}
use Rattle.acceptance.proofs.Condition3.{quoted}
use lib.Dec.{eqb}
use borrow.Author.Tests.{eq-eqb, eqb-true, eqb-false}
use Prim.Native.Nat.{◌*◌, ◌/◌}
use Rattle.shotfile_records.specs.declared.Fields.{Fields}
use Rattle.acceptance.specs.Grids.{NoGrid}
use mathlib.Core.Logic.{◌↔◌}
use Rattle.measure_intake.specs.Intake.{Measured}

pub listed-alike : {job : Job} {G : ℕ} {work buffer work' buffer' work₂ buffer₂ work₂' buffer₂' : List ℕ} {m m₂ : Measured}
    → ListCall job work buffer m work' buffer' → ListCall (with_grid G job) work₂ buffer₂ m₂ work₂' buffer₂'
    → ListedAlike (record { one = m; two = m₂ }) buffer' buffer₂'
listed-alike one two t t₂ e e₂ = record { totals = totals-any-grid (quoted one e) (quoted two e₂); bytes = listing-any-grid (quoted one e) (quoted two e₂) }

-- bit 2 of a header that is read, and of one that is written
pub grid-read : {bytes coords coords' : List ℕ} {r : ReadAnswer} → ReadCall bytes coords r coords' → GridRead bytes r
unfolding fields_at field_at header_absent
grid-read {bytes} {coords} call absent list e =
    let header = (file-parts bytes (shot_count coords) (accepted-file call e).is).header in
    let p = parts bytes 0 header_absent header in
    let clear : get_or bytes 0 0 / 4 ≡ 0 = omega (arith, absent, p.known) in
    ap (λ (f : Fields). f.third) p.is ∙ rw (eq-eqb (get_or bytes 0 0 / 4) 0 clear)

pub grid-written : {job : Job} {bytes bytes' : List ℕ} {w : WriteAnswer} → WriteCall job bytes w bytes' → GridWritten job w bytes'
unfolding file_of record_of header_absent
grid-written {job} {bytes} {bytes'} call n e = go (eqb job.grid 16) refl
  where
    map : get_or bytes' 0 0 ≡ bit_of 1024 job.field + 2 * bit_of 16 job.edge + 4 * bit_of 16 job.grid
    map = ap (λ l. get_or l 0 0) (accepted-list call e).leaves

    go : (b : Bool) → eqb job.grid 16 ≡ b → NoGrid bytes' ↔ (job.grid ≡ 16)
    go true h =
        let is = eqb-true job.grid 16 h in
        (λ z. is, λ z. omega (arith, map, bit-absent 16 job.grid is, bit-small 1024 job.field, bit-small 16 job.edge))
    go false h =
        let is-not = eqb-false job.grid 16 h in
        (λ z. absurd (omega (arith, z, map, bit-there 16 job.grid is-not, bit-small 1024 job.field, bit-small 16 job.edge)), λ z. absurd (is-not z))
