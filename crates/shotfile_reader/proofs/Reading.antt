-- A file from its parts: the header, the shots that were counted, and the coordinates that were stored. Assumes nothing.
use mathlib.Core.Path.{◌≡◌, refl, sym, ap, ◌∙◌}
use mathlib.Core.List.{List}
use Prim.Native.Nat.{ℕ, ◌≤◌}
use native.Mathlib.Omega.{arith}
use Rattle.buffer.specs.Wrote.{in_front}
use Rattle.refusals.specs.declared.Refusal.{Refusal}
use Rattle.job.specs.Job.{shot_count}
use Rattle.shotfile_records.specs.declared.Fields.{Fields}
use Rattle.shotfile_records.specs.declared.Record.{Record}
use Rattle.std.specs.Prelude.{Ok, Err}
use Rattle.shotfile_reader.specs.declared.Cursor.{Cursor}
use Rattle.shotfile_records.specs.Records.{header_absent, first_absent, record_at}
use Rattle.shotfile_reader.specs.Files.{Rest, coordinates, faulty, shots_from, File, file, refused, with_settings, file_in, next_shots}
use Rattle.shotfile_reader.proofs.ShotsRead.{reads, reads-room, reads-next}
use Rattle.shotfile_reader.specs.Calls.{count_of, read_answer, read_numbers, read_values, read_coords, ReadCall}

module _ (s : List ℕ) where
  -- what a count of the shots says
  pub record Count (places : ℕ) (c : Cursor) (n : ℕ) : Type 0 where
    pub coords : List ℕ
    pub rest : shots_from 4096 places s c ≡ coordinates coords
    pub count : n ≡ shot_count coords
    pub next : next_shots n s c ≡ coords
    pub room : n ≤ places

  pub counted : (places : ℕ) (c : Cursor) {n : ℕ} → Ok n ≡ count_of (shots_from 4096 places s c) → Count places c n
  counted places c {n} e = go (shots_from 4096 places s c) refl e
    where
      go : (r : Rest) → shots_from 4096 places s c ≡ r → Ok n ≡ count_of r → Count places c n
      go (coordinates coords) q e =
          let f = reads s 4096 places c q in
          let m : n ≡ shot_count coords = cc in
          record { coords = coords; rest = q; count = m; next = rw m (reads-next f); room = omega (arith, m, reads-room f) }
      go (faulty r) q e = let z : ◌≡◌ {A = ℕ} 0 1 = cc in absurd (omega arith)

  uncounted : (places : ℕ) (c : Cursor) {r : Refusal} → Err r ≡ count_of (shots_from 4096 places s c) → shots_from 4096 places s c ≡ faulty r
  uncounted places c {r} e = go (shots_from 4096 places s c) refl e
    where
      go : (k : Rest) → shots_from 4096 places s c ≡ k → Err r ≡ count_of k → shots_from 4096 places s c ≡ faulty r
      go (coordinates coords) q e = let z : ◌≡◌ {A = ℕ} 0 1 = cc in absurd (omega arith)
      go (faulty k) q e = let m : k ≡ r = cc in q ∙ ap faulty m

-- the numbers of an answer are those of the file
pub answer-numbers : (k : File) → read_numbers (read_answer k) ≡ read_values k
unfolding read_numbers read_values
answer-numbers (file job) = refl
answer-numbers (refused r) = refl

-- ---- what `read` answers and leaves
module _ (s before : List ℕ) where
  -- by what the file says
  says : {k : File} → file_in (shot_count before) s ≡ k → ReadCall s before (read_answer k) (read_coords k before)
  says {k} e = record {
    answer = sym (ap read_answer e);
    numbers = answer-numbers k ∙ sym (ap read_values e);
    coordinates = sym (ap (λ (f : File). read_coords f before) e);
  }

  module _ {absent : Fields} (a : absent ≡ header_absent) where
    pub read-headless : {r : Refusal} → Err r ≡ record_at s 0 absent → ReadCall s before (Err r) before
    unfolding file_in
    read-headless {r} h = let is : file_in (shot_count before) s ≡ refused r = rw (← a, ← h) in says is

    module _ {taken : Record} (h : Ok taken ≡ record_at s 0 absent) {p : Fields} (q : p ≡ first_absent) {places : ℕ} (m : places ≡ shot_count before) where
      headed : {k : Rest} → shots_from 4096 places s (record { at = taken.end; last = p }) ≡ k → file_in (shot_count before) s ≡ with_settings taken.fields k
      unfolding file_in
      headed e = rw (← a, ← h, ← q, ← m, e)

      pub read-uncounted : {r : Refusal} → Err r ≡ count_of (shots_from 4096 places s (record { at = taken.end; last = p })) → ReadCall s before (Err r) before
      read-uncounted {r} e = says (headed (uncounted s places (record { at = taken.end; last = p }) e))

      pub read-stored : {n : ℕ} {after : List ℕ} → Ok n ≡ count_of (shots_from 4096 places s (record { at = taken.end; last = p }))
          → after ≡ in_front (next_shots n s (record { at = taken.end; last = p })) before
          → ReadCall s before (Ok (record { field = taken.fields.first; edge = taken.fields.second; grid = taken.fields.third; shots = n })) after
      read-stored {n} {after} e w =
          let k = counted s places (record { at = taken.end; last = p }) e in
          let same : after ≡ in_front k.coords before = w ∙ ap (λ (l : List ℕ). in_front l before) k.next in
          rw (k.count, same) (says (headed k.rest))
