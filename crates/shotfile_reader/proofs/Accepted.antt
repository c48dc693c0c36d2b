-- What an answer of `read` says, by the call's contract: the file that was read and where its list is stored. It is said of any call that
-- answers and stores what a file says (`FileRead`), so that it serves files of another form too. Assumes nothing.
use mathlib.Core.Path.{◌≡◌, refl, sym, ap, ◌∙◌}
use mathlib.Core.List.{List}
use Prim.Native.Nat.{ℕ, ◌≤◌}
use native.Mathlib.Omega.{arith}
use lib.ListN.{length, drop, length-append, length-drop}
use lib.Seq.{take_at}
use Rattle.buffer.specs.Wrote.{in_front}
use Rattle.refusals.specs.declared.Refusal.{Refusal}
use Rattle.job.specs.Job.{job_of, shot_count, place_of, first_shots}
use Rattle.shotfile_reader.specs.Calls.{ReadAnswer}
use Rattle.std.specs.Prelude.{Ok, Err}
use Rattle.job.specs.declared.Stored.{Stored}
use Rattle.shotfile_reader.specs.Files.{File, file, refused, file_in}
use Rattle.shotfile_reader.specs.Calls.{read_answer, read_coords, ReadCall}
use Rattle.shotfile_reader.proofs.Coords.{places-fit}
use Rattle.shotfile_reader.proofs.ShotsRead.{reads_whole, reads-room}
use Rattle.shotfile_reader.proofs.FileParts.{file-parts}

-- the coordinates of an accepted file are whole shots, and each has its place
abbrev pub Fits : ℕ → File → Type 0
Fits places (file job) = (length job.coords ≡ place_of (shot_count job.coords)) × (shot_count job.coords ≤ places)
Fits places (refused r) = Unit {0}

file-fits : (places : ℕ) (s : List ℕ) → Fits places (file_in places s)
file-fits places s = go (file_in places s) refl
  where
    go : (k : File) → file_in places s ≡ k → Fits places k
    go (file job) q = let rest = (file-parts s places q).rest in (reads_whole rest, reads-room rest)
    go (refused r) q = tt

-- what a call that reads a file of any form answers and stores, where k is what the file says
pub record FileRead (k : File) (before : List ℕ) (r : ReadAnswer) (after : List ℕ) : Type 0 where
  pub answer : r ≡ read_answer k
  pub coordinates : after ≡ read_coords k before
  pub fits : Fits (shot_count before) k

-- a file that is accepted, and its list in the coordinate slice
pub record ListStored (k : File) (before : List ℕ) (F E G n : ℕ) (after : List ℕ) : Type 0 where
  pub is : k ≡ file (job_of F E G (first_shots n after))
  pub room : n ≤ shot_count before
  pub same_length : length after ≡ length before

pub stored-list : (k : File) {before after : List ℕ} {r : ReadAnswer} → FileRead k before r after → {list : Stored} → r ≡ Ok list → ListStored k before list.field list.edge list.grid list.shots after
stored-list (refused p) c {list} e = let u : ◌≡◌ {A = ReadAnswer} (Err p) (Ok list) = sym c.answer ∙ e in let z : ◌≡◌ {A = ℕ} 0 1 = cc in absurd (omega arith)
stored-list (file job) {before} {after} c {list} e =
    let coords = job.coords in
    let stored : Stored = record { field = job.field; edge = job.edge; grid = job.grid; shots = shot_count coords } in
    let u : ◌≡◌ {A = ReadAnswer} (Ok stored) (Ok list) = sym c.answer ∙ e in
    let same : ◌≡◌ {A = Stored} stored list = cc in
    let p₁ : job.field ≡ list.field = ap (λ (t : Stored). t.field) same in
    let p₂ : job.edge ≡ list.edge = ap (λ (t : Stored). t.edge) same in
    let p₃ : job.grid ≡ list.grid = ap (λ (t : Stored). t.grid) same in
    let m : shot_count coords ≡ list.shots = ap (λ (t : Stored). t.shots) same in
    let (whole, room) = c.fits in
    let is : after ≡ in_front coords before = c.coordinates in
    let fits : length coords ≤ length before = places-fit coords before whole room in
    let first : first_shots list.shots after ≡ coords = ap (first_shots list.shots) is ∙ take_at coords (drop (length coords) before) (place_of list.shots) (whole ∙ rw m) in
    record {
      is = rw (first, ← p₁, ← p₂, ← p₃);
      room = omega (arith, m, room);
      same_length = ap length is ∙ (length-append coords (drop (length coords) before) ∙ omega (arith, length-drop (length coords) before));
    }

-- a file that is refused stores nothing
pub stored-none : (k : File) {before after : List ℕ} {r : ReadAnswer} → FileRead k before r after → {q : Refusal} → r ≡ Err q → (k ≡ refused q) × (after ≡ before)
stored-none (file job) c {q} e = let u : ◌≡◌ {A = ReadAnswer} (Ok (record { field = job.field; edge = job.edge; grid = job.grid; shots = shot_count job.coords })) (Err q) = sym c.answer ∙ e in let z : ◌≡◌ {A = ℕ} 0 1 = cc in absurd (omega arith)
stored-none (refused p) c {q} e =
    let u : ◌≡◌ {A = ReadAnswer} (Err p) (Err q) = sym c.answer ∙ e in
    let same : p ≡ q = cc in
    (ap refused same, c.coordinates)

-- a file that `read` accepts
abbrev pub AcceptedFile : (s before : List ℕ) (F E G n : ℕ) (after : List ℕ) → Type 0
AcceptedFile s before F E G n after = ListStored (file_in (shot_count before) s) before F E G n after

module _ {s before after : List ℕ} {r : ReadAnswer} (c : ReadCall s before r after) where
  pub file-read : FileRead (file_in (shot_count before) s) before r after
  file-read = record { answer = c.answer; coordinates = c.coordinates; fits = file-fits (shot_count before) s }

  pub accepted-file : {list : Stored} → r ≡ Ok list → AcceptedFile s before list.field list.edge list.grid list.shots after
  accepted-file e = stored-list (file_in (shot_count before) s) file-read e

  pub refused-file : {q : Refusal} → r ≡ Err q → (file_in (shot_count before) s ≡ refused q) × (after ≡ before)
  refused-file e = stored-none (file_in (shot_count before) s) file-read e
