-- The records of a list's shots, one by one: how long they are and how they are written. Assumes nothing.
use mathlib.Core.Path.{◌≡◌, refl, sym, ap, ◌∙◌}
use mathlib.Core.List.{List, [], ◌∷◌, ◌++◌}
use Prim.Native.Nat.{ℕ, ◌+◌, ◌*◌, ◌≤◌, ◌<◌}
use native.Mathlib.Omega.{arith}
use lib.ListN.{length, drop, length-append}
use Rattle.lattice.specs.Shots.{Shot}
use Rattle.refusals.specs.declared.Refusal.{Refusal}
use Rattle.refusals.specs.declared.Refusal.TheVariants.{ShortFile}
use Rattle.std.specs.Prelude.{Ok, Err}
use Rattle.job.specs.Job.{Job, shots, shots_of, shot_count, place_of}
use Rattle.refusals.specs.Tests.{first_of}
use Rattle.job.specs.Checking.{tests, checked}
use Rattle.refusals.proofs.FirstOf.{first-stopped}
use Rattle.refusals.specs.Deciding.{Decides}
use Rattle.refusals.proofs.OneMore.{too_short}
use Rattle.job.proofs.Conditions.{job-decides, accepted-valid}
use Rattle.refusals.proofs.Deciding.{decides-more}
use Rattle.job.proofs.Shots.{shots-count, shots-from, shots-end}
use Rattle.shotfile_records.specs.declared.Fields.{Fields}
use Rattle.shotfile_writer.specs.Calls.{long_file, write_tests, written_numbers, write_answer, write_values, write_bytes, WriteCall}
use Rattle.shotfile_writer.specs.Conditions.{WriteAccepts, WriteRefuses}
use Rattle.shotfile_records.specs.Records.{header_absent, first_absent, record_of}
use Rattle.shotfile_records.specs.Numbers.{setting_fields, shot_fields}
use Rattle.shotfile_writer.specs.Files.{coords_at, shot_records, file_of}
use Rattle.buffer.specs.Wrote.{Wrote, in_front}
use Rattle.buffer.proofs.WroteLaws.{wrote_as, wrote_then}
use Rattle.buffer.proofs.Underway.{wrote-front}
use Rattle.shotfile_records.proofs.Putting.{record-most}

-- a record has at most seven bytes
records-most : (last : Fields) (ts : List Shot) → length (shot_records last ts) ≤ 7 * length ts
unfolding shot_records
records-most last [] = omega arith
records-most last (t ∷ ts) =
    let f : Fields = shot_fields t in
    omega (arith, records-most f ts, record-most last f, length-append (record_of last f) (shot_records f ts))

-- ---- the records from shot i on
module _ (E : ℕ) (coords : List ℕ) (i : ℕ) (last : Fields) where
  abbrev pub records_from : List ℕ
  records_from = shot_records last (shots_of E (drop (place_of i) coords))

module _ (E : ℕ) (coords : List ℕ) (i : ℕ) (last : Fields) where
  -- the record of shot i, and then from the next shot on
  pub records-on : i < shot_count coords → {f : Fields} → f ≡ coords_at coords i → records_from E coords i last ≡ record_of last f ++ records_from E coords (i + 1) f
  unfolding shot_records
  records-on h e = ap (shot_records last) (shots-from E coords i h) ∙ rw e

  pub records-end : shot_count coords ≤ i → records_from E coords i last ≡ []
  unfolding shot_records
  records-end h = ap (shot_records last) (shots-end E coords i h)

module _ (job : Job) where
  open job use {edge as E, coords}

  -- a file is its header and the records from shot 0 on
  module _ {absent last : Fields} (a : absent ≡ header_absent) (l : last ≡ first_absent) where
    pub file-parts : file_of job ≡ record_of absent (setting_fields job) ++ records_from E coords 0 last
    unfolding file_of
    file-parts = rw (a, l)

    parts-length : length (file_of job) ≡ length (record_of absent (setting_fields job)) + length (records_from E coords 0 last)
    parts-length = ap length file-parts ∙ length-append (record_of absent (setting_fields job)) (records_from E coords 0 last)

    pub header-room : (w : List ℕ) → length (file_of job) ≤ length w → 0 + length (record_of absent (setting_fields job)) ≤ length w
    header-room w h = omega (arith, parts-length)

    -- the header, and then the records
    module _ {w w' : List ℕ} {at : ℕ} (t : Wrote w w' 0 at (record_of absent (setting_fields job))) where
      pub shots-room : length (file_of job) ≤ length w → length w' ≡ length w → at + length (records_from E coords 0 last) ≤ length w'
      shots-room h k = omega (arith, t.next, parts-length)

      pub all-written : {w'' : List ℕ} {r : ℕ} → Wrote w' w'' at r (records_from E coords 0 last) → w'' ≡ in_front (file_of job) w
      all-written u = wrote-front (wrote_as (sym file-parts) (wrote_then t u))

  -- the longest file
  pub file-most : shot_count coords ≤ 4096 → length (file_of job) ≤ 28679
  file-most h =
      omega (arith, parts-length refl refl, record-most header_absent (setting_fields job), records-most first_absent (shots job), shots-count E coords)

-- ---- counting the bytes
-- the bytes so far, and those from shot i on
pub record Measured (E : ℕ) (coords : List ℕ) (last : Fields) (i total whole : ℕ) : Type 0 where
  pub is : total + length (records_from E coords i last) ≡ whole

pub measured-none : (job : Job) {absent last : Fields} {k : ℕ} → absent ≡ header_absent → last ≡ first_absent → k ≡ length (record_of absent (setting_fields job))
    → Measured job.edge job.coords last 0 k (length (file_of job))
measured-none job a l e = record { is = omega (arith, e, parts-length job a l) }

module _ {E : ℕ} {coords : List ℕ} {last : Fields} {i total whole : ℕ} (m : Measured E coords last i total whole) where
  pub measured-more : i < shot_count coords → {f : Fields} {k : ℕ} → f ≡ coords_at coords i → k ≡ length (record_of last f) → Measured E coords f (i + 1) (total + k) whole
  measured-more h {f} {k} e q =
      record { is = omega (arith, m.is, ap length (records-on E coords i last h e), length-append (record_of last f) (records_from E coords (i + 1) f), q) }

  pub measured-all : shot_count coords ≤ i → total ≡ whole
  measured-all h = omega (arith, m.is, ap length (records-end E coords i last h))

-- ---- what `write` answers and leaves
module _ (job : Job) where
  open job use {coords}

  pub few-shots : Ok tt ≡ checked job → shot_count coords ≤ 4096
  few-shots a = ((accepted-valid job).0 (sym a)).few

  module _ (room : ℕ) where
    tests-stopped : {r : Refusal} → Err r ≡ checked job → Err r ≡ first_of (write_tests job room)
    unfolding write_tests
    tests-stopped h = sym (first-stopped (long_file job room ∷ []) (tests job) (sym h))

    tests-short : Ok tt ≡ checked job → {n : ℕ} → n ≡ length (file_of job) → room < n → Err (ShortFile n) ≡ first_of (write_tests job room)
    unfolding write_tests
    tests-short a e l = ap (λ (n : ℕ). Err (ShortFile n)) e ∙ sym (too_short (tests job) room (length (file_of job)) (ShortFile (length (file_of job))) (sym a) (omega arith))

    -- the list is accepted if and only if it is valid and the file fits
    pub write-decides : Decides (write_tests job room) (WriteAccepts job room) (WriteRefuses job room)
    unfolding write_tests
    write-decides = decides-more (job-decides job) room (length (file_of job)) (ShortFile (length (file_of job)))

module _ (job : Job) (before : List ℕ) where
  says-refused : {r : Refusal} → Err r ≡ first_of (write_tests job (length before)) → WriteCall job before (Err r) before
  unfolding write_answer written_numbers write_values write_bytes
  says-refused h = record { answer = simp (sym h); numbers = simp (sym h); file = simp (sym h) }

  pub write-refused : {r : Refusal} → Err r ≡ checked job → WriteCall job before (Err r) before
  write-refused h = says-refused (tests-stopped job (length before) h)

  pub write-short : Ok tt ≡ checked job → {n : ℕ} → n ≡ length (file_of job) → length before < n → WriteCall job before (Err (ShortFile n)) before
  write-short a e l = says-refused (tests-short job (length before) a e l)

  says-written : Ok tt ≡ first_of (write_tests job (length before)) → WriteCall job before (Ok (length (file_of job))) (in_front (file_of job) before)
  unfolding write_answer written_numbers write_values write_bytes
  says-written h = record { answer = simp (sym h); numbers = simp (sym h); file = simp (sym h) }

  pub write_done : Ok tt ≡ checked job → {n : ℕ} → n ≡ length (file_of job) → n ≤ length before → {after : List ℕ} → after ≡ in_front (file_of job) before
      → WriteCall job before (Ok n) after
  write_done a e l w =
      rw (e, w)
      (says-written (sym ((write-decides job (length before)).accepted.1 ((accepted-valid job).0 (sym a), omega (arith, e)))))
