-- Condition 1 of each call, from what the call promises. Assumes nothing.
use mathlib.Core.Path.{◌∙◌, ap}
use mathlib.Core.List.{List}
use Prim.Native.Nat.{ℕ}
use lib.ListN.{length}
use Rattle.buffer.specs.Wrote.{in_front}
use Rattle.refusals.specs.Tests.{Checks, if_accepted}
use Rattle.refusals.proofs.Deciding.{call-accepts, call-refuses}
use Rattle.job.specs.Checking.{tests}
use Rattle.job.proofs.Conditions.{job-decides}
use Rattle.job.specs.Job.{Job, shot_count}
use Rattle.lattice.specs.Listing.{listing}
use Rattle.measure_intake.specs.Intake.{solid, IndexCall, MeasureCall, Measured}
use Rattle.measure_intake.proofs.Refused.{index-accepts, index-refuses, measure-accepts, measure-refuses, work-stored, work-kept}
use Rattle.measure.specs.Answers.{listing_after, ListCall}
use Rattle.measure.proofs.Refused.{list-decides, list-accepts, list-refuses, list-refused-keeps, list-work-kept, list-work-done}
use Rattle.crediting.specs.Credits.{credits_of, credits_after, CreditCall}
use Rattle.crediting.proofs.Refused.{credit-decides, credit-accepts, credit-refuses, credit-refused-keeps, credit-work-kept, credit-work-done}
use Rattle.shotfile_reader.specs.Files.{File, file, refused}
use Rattle.shotfile_reader.specs.Calls.{read_coords, ReadCall}
use Rattle.shotfile_reader.specs.Calls.{ReadAnswer}
use Rattle.shotfile_reader.proofs.Accepted.{refused-file}
use Rattle.shotfile_reader.proofs.Conditions.{read-accepts, read-refuses}
use Rattle.shotfile_writer.specs.Files.{file_of}
use Rattle.shotfile_writer.specs.Calls.{write_bytes, WriteCall, WriteAnswer}
use Rattle.shotfile_writer.proofs.Conditions.{write-accepts, write-refuses}
use Rattle.shotfile_writer.proofs.Writing.{write-decides}
use Rattle.vox.specs.Vox.{vox_job, vox_in, VoxCall}
use Rattle.vox.proofs.Conditions.{vox-decides, vox-accepts, vox-refuses}
use Rattle.vox.proofs.FileOrder.{vox-first}
use Rattle.acceptance.specs.Condition1.{CheckAnswered, IndexAnswered, MeasureAnswered, ListAnswered, CreditAnswered, WriteAnswered, ReadAnswered, VoxAnswered}
use Rattle.refusals.specs.Refusals.{Checked}

-- ---- lists
pub check-answered : {job : Job} {r : Checked} → Checks (tests job) r → CheckAnswered job r
check-answered {job} call = record { accepts = call-accepts (job-decides job) call.answer; refuses = call-refuses (job-decides job) call.answer; numbers = call.numbers }

pub index-answered : {job : Job} {work work' : List ℕ} {r : Checked} → IndexCall job work r work' → IndexAnswered job work r work'
index-answered {job} {work} call = record {
  accepts = index-accepts call;
  refuses = index-refuses call;
  numbers = call.numbers;
  stores = λ h. call.index ∙ work-stored job work h;
  keeps = λ q h. call.index ∙ work-kept job work q h;
}

pub measure-answered : {job : Job} {work work' : List ℕ} {r : Measured} → MeasureCall job work r work' → MeasureAnswered job work r work'
measure-answered {job} {work} call = record {
  accepts = measure-accepts call;
  refuses = measure-refuses call;
  numbers = call.numbers;
  stores = λ h. call.index ∙ work-stored job work h;
  keeps = λ q h. call.index ∙ work-kept job work q h;
}

pub list-answered : {job : Job} {work buffer work' buffer' : List ℕ} {r : Measured} → ListCall job work buffer r work' buffer' → ListAnswered job work buffer r work' buffer'
unfolding listing_after
list-answered {job} {work} {buffer} call = record {
  accepts = list-accepts call;
  refuses = list-refuses call;
  numbers = call.numbers;
  index_stored = list-work-done call;
  index_kept = list-work-kept call;
  stores = λ h. call.listing ∙ ap (λ (c : Checked). if_accepted c (λ r. buffer) (in_front (listing job.field (solid job)) buffer)) ((list-decides job (length work) (length buffer)).accepted.1 h);
  keeps = λ q h. list-refused-keeps call q ((list-refuses call q).1 h);
}

pub credit-answered : {job : Job} {work credits work' credits' : List ℕ} {r : Checked} → CreditCall job work credits r work' credits' → CreditAnswered job work credits r work' credits'
unfolding credits_after
credit-answered {job} {work} {credits} call = record {
  accepts = credit-accepts call;
  refuses = credit-refuses call;
  numbers = call.numbers;
  index_stored = credit-work-done call;
  index_kept = credit-work-kept call;
  stores = λ h. call.credited ∙ ap (λ (c : Checked). if_accepted c (λ r. credits) (in_front (credits_of job.field job.edge job.coords) credits)) ((credit-decides job (length work) (length credits)).accepted.1 h);
  keeps = λ q h. credit-refused-keeps call q ((credit-refuses call q).1 h);
}

-- ---- files
pub write-answered : {job : Job} {bytes bytes' : List ℕ} {r : WriteAnswer} → WriteCall job bytes r bytes' → WriteAnswered job bytes r bytes'
unfolding write_bytes
write-answered {job} {bytes} call =
    let stored : Checked → List ℕ = λ c. if_accepted c (λ r. bytes) (in_front (file_of job) bytes) in
    record {
      accepts = write-accepts call;
      refuses = write-refuses call;
      numbers = call.numbers;
      stores = λ h. call.file ∙ ap stored ((write-decides job (length bytes)).accepted.1 h);
      keeps = λ q h. call.file ∙ ap stored (((write-decides job (length bytes)).refused q).1 h);
    }

pub read-answered : {bytes coords coords' : List ℕ} {r : ReadAnswer} → ReadCall bytes coords r coords' → ReadAnswered bytes coords r coords'
read-answered {bytes} {coords} call = record {
  accepts = read-accepts call;
  refuses = read-refuses call;
  numbers = call.numbers;
  stores = λ job e. call.coordinates ∙ ap (λ (k : File). read_coords k coords) e;
  keeps = λ q h. (refused-file call ((read-refuses call q).1 h)).1;
}

pub vox-answered : {bytes coords coords' : List ℕ} {r : ReadAnswer} → VoxCall bytes coords r coords' → VoxAnswered bytes coords r coords'
unfolding vox_in
vox-answered {bytes} {coords} call =
    let left : Checked → List ℕ = λ c. read_coords (if_accepted c refused (file (vox_job bytes))) coords in
    record {
      accepts = vox-accepts call;
      refuses = vox-first call;
      numbers = call.numbers;
      stores = λ h. call.coordinates ∙ ap left ((vox-decides (shot_count coords) bytes).accepted.1 h);
      keeps = λ q h. call.coordinates ∙ ap left (((vox-decides (shot_count coords) bytes).refused q).1 ((vox-refuses call q).0 ((vox-first call q).1 h)));
    }
