-- What listing a file leaves, by what reading the file and listing its list answer; and that a listing fits its buffer.
use mathlib.Core.Path.{◌≡◌, sym, ◌∙◌, ap}
use mathlib.Core.List.{List}
use Prim.Native.Nat.{ℕ, ◌*◌, ◌≤◌}
use native.Mathlib.Omega.{arith}
use lib.ListN.{length}
use Rattle.lattice_sums.specs.declared.sums.Totals.{Totals}
use Rattle.job.specs.Job.{Job, job_of, shot_count, first_shots}
use Rattle.job.specs.declared.Stored.{Stored}
use Rattle.refusals.specs.declared.Refusal.{Refusal}
use Rattle.shotfile_reader.specs.Files.{File, file, refused, file_in}
use Rattle.shotfile_reader.specs.Calls.{ReadCall, ReadAnswer}
use Rattle.shotfile_reader.proofs.Accepted.{accepted-file, refused-file}
use Rattle.measure_intake.specs.Intake.{measured_numbers, Measured}
use Rattle.measure.specs.Answers.{ListCall}
use Rattle.measure.proofs.Refused.{listing-fits}
use Rattle.quoting_text.specs.Quoting.{index_after}
use Rattle.listing_file.specs.Listing.{listed_answer, listed_numbers, listed_after, FileListed}
use Rattle.std.specs.Prelude.{Ok, Err}

-- a file that is read
module _ {bytes coords coords' : List ℕ} {a : ReadAnswer} (read : ReadCall bytes coords a coords') where
  pub file-unlisted : {work buffer : List ℕ} (r : Refusal) → a ≡ Err r → FileListed bytes coords work buffer (Err r) coords' work buffer
  unfolding measured_numbers
  file-unlisted {work} {buffer} r e =
      let k = sym (refused-file read e).0 in
      record {
        answer = ap (λ (f : File). listed_answer f (length work) (length buffer)) k;
        numbers = ap (λ (f : File). listed_numbers f (length work) (length buffer)) k;
        coordinates = read.coordinates;
        index = ap (λ (f : File). index_after f work) k;
        listing = ap (λ (f : File). listed_after f (length work) buffer) k;
      }

  pub file-listed : {work work' buffer buffer' : List ℕ} {m : Measured} {stored : Stored} {job : Job} → a ≡ Ok stored → job ≡ job_of stored.field stored.edge stored.grid (first_shots stored.shots coords')
      → ListCall job work buffer m work' buffer' → FileListed bytes coords work buffer m coords' work' buffer'
  file-listed {work} {work'} {buffer} {job = job} e l q =
      let is : file job ≡ file_in (shot_count coords) bytes = ap file l ∙ sym (accepted-file read e).is in
      record {
        answer = q.answer ∙ ap (λ (f : File). listed_answer f (length work) (length buffer)) is;
        numbers = q.numbers ∙ ap (λ (f : File). listed_numbers f (length work) (length buffer)) is;
        coordinates = read.coordinates;
        index = q.index ∙ ap (λ (f : File). index_after f work) is;
        listing = q.listing ∙ ap (λ (f : File). listed_after f (length work) buffer) is;
      }

-- the listing of a file that is accepted fits the buffer
pub listed-fits : {bytes coords work buffer coords' work' buffer' : List ℕ} {m : Measured} → FileListed bytes coords work buffer m coords' work' buffer' → {t : Totals} → m ≡ Ok t → 7 * t.corners ≤ length buffer
listed-fits {bytes} {coords} {work} {buffer} call {t} k = go (file_in (shot_count coords) bytes) (sym k ∙ call.answer)
  where
    go : (f : File) → Ok t ≡ listed_answer f (length work) (length buffer) → 7 * t.corners ≤ length buffer
    go (file job) e = listing-fits job (length work) (length buffer) e
    go (refused r) e = let z : ◌≡◌ {A = ℕ} 0 1 = cc in absurd (omega arith)
