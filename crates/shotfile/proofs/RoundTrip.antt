-- Reading and writing undo one another: what condition 2 asks of shot files. Assumes nothing.
-- (a) A list that the writer accepts is read back from what it wrote, with its settings.
-- (b) A file that is read is written back, byte for byte, from what was read. So two files with the same list and settings are the same bytes.
-- (c) What is written, and what is read, is in its shortest form.
-- Each is stated of the definitions, and (a) to (c) once more of the calls, by their contracts `ReadCall` and `WriteCall`.
use mathlib.Core.Path.{◌≡◌, sym, ap, subst, ◌∙◌}
use mathlib.Core.List.{List, [], ◌∷◌}
use Prim.Native.Nat.{ℕ, ◌≤◌}
use native.Mathlib.Omega.{arith}
use lib.Dec.{T}
use lib.ListN.{length, take, drop}
use lib.Seq.{take_at}
use Rattle.ground.specs.Numbers.{Bytes}
use Rattle.ground.proofs.Bools.{truth}
use Rattle.buffer.specs.Wrote.{in_front}
use Rattle.lattice.specs.Shots.{Shot, AllInField}
use Rattle.std.specs.Prelude.{Ok}
use Rattle.job.specs.declared.Stored.{Stored}
use Rattle.job.specs.Job.{Job, job_of, shots, shot_count, first_shots, Valid}
use Rattle.job.proofs.Conditions.{accepted-valid}
use Rattle.shotfile_records.specs.Numbers.{setting_fields}
use Rattle.shotfile_reader.specs.Files.{File, file, file_in}
use Rattle.shotfile_writer.specs.Files.{file_of}
use Rattle.shotfile.specs.Shortest.{shortest}
use Rattle.shotfile_reader.specs.Calls.{ReadAnswer, read_numbers, read_answer, read_values, read_coords, ReadCall}
use Rattle.shotfile_writer.specs.Calls.{WriteAnswer, written_numbers, WriteCall}
use Rattle.shotfile_reader.proofs.Coords.{threes-whole}
use Rattle.shotfile.proofs.ReadBack.{SmallFields, SmallShots, file-read}
use Rattle.shotfile.proofs.Shortest.{file-shortest, file-same}
use Rattle.shotfile_writer.proofs.Writing.{write_done}
use Rattle.shotfile_reader.proofs.Accepted.{accepted-file}
use Rattle.shotfile_writer.proofs.Accepted.{AcceptedList, accepted-list}

-- ---- of the definitions
-- the numbers of a valid list are of 16 bits
pub small-shots : (F : ℕ) (ts : List Shot) → F ≤ 1024 → AllInField F ts → SmallShots ts
small-shots F [] h a = tt
small-shots F (t ∷ ts) h a = (
  record { first_small = omega (arith, a.0.x_in); second-small = omega (arith, a.0.y_in); third-small = omega (arith, a.0.z_in) },
  small-shots F ts h a.1,
)

small-settings : {job : Job} → Valid job → SmallFields (setting_fields job)
small-settings v = record { first_small = omega (arith, v.field_most); second-small = omega (arith, v.field_most, v.edge_most); third-small = omega (arith, v.grid_most) }

-- (a)
pub read-written : (job : Job) (places : ℕ) → Valid job → shot_count job.coords ≤ places → file_in places (file_of job) ≡ file job
read-written job places v r =
    file-read job places
    (small-settings v)
    (small-shots job.field (shots job) v.field_most v.inside)
    (threes-whole job.coords v.threes)
    v.few
    r

-- (b)
pub written_read : (s : List ℕ) (places : ℕ) (job : Job) → Bytes s → file_in places s ≡ file job → file_of job ≡ s
written_read s places job b e = file-same s places e b

pub same_bytes : (s t : List ℕ) (places room : ℕ) (job : Job) → Bytes s → Bytes t → file_in places s ≡ file job → file_in room t ≡ file job → s ≡ t
same_bytes s t places room job b c e k = sym (written_read s places job b e) ∙ written_read t room job c k

-- (c)
read-shortest : (s : List ℕ) (places : ℕ) (job : Job) → file_in places s ≡ file job → T (shortest s)
read-shortest s places job e = truth (shortest s) (file-shortest s places e)

written-shortest : (job : Job) → Valid job → T (shortest (file_of job))
written-shortest job v = read-shortest (file_of job) (shot_count job.coords) job (read-written job (shot_count job.coords) v (omega arith))

-- ---- of the calls
wrote-file : {job : Job} {before after : List ℕ} {n : ℕ} → AcceptedList job before n after → take n after ≡ file_of job
wrote-file {job} {before} {after} {n} a = ap (take n) a.leaves ∙ take_at (file_of job) (drop (length (file_of job)) before) n (sym a.long)

-- (a) where `write` answers that it wrote n bytes, `read` of these n bytes, with places enough, answers the settings and the number of
-- shots, and stores the coordinates; the other places keep their values
pub read-what-write-wrote : {job : Job} {n : ℕ} {before written lent after : List ℕ} {w : WriteAnswer} {r : ReadAnswer}
    → WriteCall job before w written → w ≡ Ok n
    → ReadCall (take n written) lent r after → shot_count job.coords ≤ shot_count lent
    → (r ≡ Ok (record { field = job.field; edge = job.edge; grid = job.grid; shots = shot_count job.coords })) × (read_numbers r ≡ 0 ∷ 0 ∷ job.field ∷ job.edge ∷ job.grid ∷ shot_count job.coords ∷ []) × (after ≡ in_front job.coords lent)
unfolding read_values
read-what-write-wrote {job} {n} {before} {written} {lent} wrote e read room =
    (read.answer ∙ ap read_answer is, read.numbers ∙ ap read_values is, read.coordinates ∙ ap (λ (k : File). read_coords k lent) is)
  where
    a : AcceptedList job before n written
    a = accepted-list wrote e

    is : file_in (shot_count lent) (take n written) ≡ file job
    is = ap (file_in (shot_count lent)) (wrote-file a) ∙ read-written job (shot_count lent) a.valid room

-- (b) where `read` accepts a file, and the list is valid, `write` of what was read, with room enough, answers the file's length and writes
-- the file's bytes; the other places keep their values
pub write-what-read-read : {list : Stored} {s lent coords before after : List ℕ} {r : ReadAnswer} {w : WriteAnswer}
    → ReadCall s lent r coords → r ≡ Ok list → Bytes s
    → WriteCall (job_of list.field list.edge list.grid (first_shots list.shots coords)) before w after → Valid (job_of list.field list.edge list.grid (first_shots list.shots coords)) → length s ≤ length before
    → (w ≡ Ok (length s)) × (written_numbers w ≡ 0 ∷ 0 ∷ length s ∷ []) × (after ≡ in_front s before)
unfolding written_numbers
write-what-read-read {list} {s} {lent} {coords} {before} {after} read e b wrote v room =
    (wrote.answer ∙ sym d.answer, wrote.numbers ∙ sym d.numbers, wrote.file ∙ sym d.file)
  where
    same : file_of (job_of list.field list.edge list.grid (first_shots list.shots coords)) ≡ s
    same = written_read s (shot_count lent) (job_of list.field list.edge list.grid (first_shots list.shots coords)) b (accepted-file read e).is

    d : WriteCall (job_of list.field list.edge list.grid (first_shots list.shots coords)) before (Ok (length s)) (in_front s before)
    d = write_done (job_of list.field list.edge list.grid (first_shots list.shots coords)) before (sym ((accepted-valid (job_of list.field list.edge list.grid (first_shots list.shots coords))).1 v)) (ap length (sym same)) room (ap (λ (k : List ℕ). in_front k before) (sym same))

-- (c) where `write` answers that it wrote n bytes, they are in the shortest form
pub write-wrote-shortest : {job : Job} {n : ℕ} {before after : List ℕ} {w : WriteAnswer} → WriteCall job before w after → w ≡ Ok n → T (shortest (take n after))
write-wrote-shortest {job} {n} wrote e =
    let a = accepted-list wrote e in
    subst (λ (s : List ℕ). T (shortest s)) (sym (wrote-file a)) (written-shortest job a.valid)

-- and where `read` accepts a file, it is in its shortest form
pub read-read-shortest : {list : Stored} {s lent after : List ℕ} {r : ReadAnswer} → ReadCall s lent r after → r ≡ Ok list → T (shortest s)
read-read-shortest {list} {s} {lent} {after} read e = read-shortest s (shot_count lent) (job_of list.field list.edge list.grid (first_shots list.shots after)) (accepted-file read e).is
