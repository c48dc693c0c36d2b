-- A file that was read, taken apart: its header and its shots. Assumes nothing.
use mathlib.Core.Path.{◌≡◌, refl, sym, subst, ap, ap₂, ◌∙◌}
use mathlib.Core.List.{List}
use Prim.Native.Nat.{ℕ}
use native.Mathlib.Omega.{arith}
use Rattle.refusals.specs.declared.Refusal.{Refusal}
use Rattle.job.specs.Job.{Job, job_of}
use Rattle.shotfile_records.specs.declared.Fields.{Fields}
use Rattle.shotfile_reader.specs.Files.{Taken}
use Rattle.shotfile_records.specs.declared.Record.{Record}
use Rattle.std.specs.Prelude.{Ok, Err}
use Rattle.shotfile_records.specs.Numbers.{setting_fields}
use Rattle.shotfile_records.specs.Records.{header_absent, record_at}
use Rattle.shotfile_reader.specs.Files.{Rest, coordinates, faulty, shots_from, file, refused, with_settings, first_shot, on_header, file_in}
use Rattle.shotfile_reader.proofs.ShotsRead.{Reads, reads, reads_same}

pub record FileParts (s : List ℕ) (places : ℕ) (job : Job) : Type 0 where
  pub end : ℕ
  pub header : record_at s 0 header_absent ≡ Ok (record { fields = setting_fields job; end = end })
  pub rest : Reads s 4096 places (first_shot end) job.coords

pub file-parts : (s : List ℕ) (places : ℕ) {job : Job} → file_in places s ≡ file job → FileParts s places job
unfolding file_in
file-parts s places {job} e = header (record_at s 0 header_absent) refl e
  where
    apart : {P : Type 0} {r : Refusal} → refused r ≡ file job → P
    apart e = let z : ◌≡◌ {A = ℕ} 0 1 = cc in absurd (omega arith)

    rest : (f : Fields) (end : ℕ) → record_at s 0 header_absent ≡ Ok (record { fields = f; end = end }) → (k : Rest) → shots_from 4096 places s (first_shot end) ≡ k → with_settings f k ≡ file job → FileParts s places job
    rest f end h (faulty r) q e = apart e
    rest f end h (coordinates coords) q e =
        let same : job_of f.first f.second f.third coords ≡ job = cc in
        record {
          end = end;
          header = h ∙ ap (λ (j : Job). Ok (record { fields = setting_fields j; end = end })) same;
          rest = reads s 4096 places (first_shot end) (q ∙ ap (λ (j : Job). coordinates j.coords) same);
        }

    header : (t : Taken) → record_at s 0 header_absent ≡ t → on_header t (λ end. shots_from 4096 places s (first_shot end)) ≡ file job → FileParts s places job
    header (Err r) h e = apart e
    header (Ok taken) h e = rest taken.fields taken.end h (shots_from 4096 places s (first_shot taken.end)) refl e

-- however many places there are, a file that is read says one list
pub one_list : (s : List ℕ) (places room : ℕ) {one two : Job} → file_in places s ≡ file one → file_in room s ≡ file two → one ≡ two
one_list s places room {one} {two} e k =
    let p = file-parts s places e in
    let q = file-parts s room k in
    let same : ◌≡◌ {A = Taken} (Ok (record { fields = setting_fields one; end = p.end })) (Ok (record { fields = setting_fields two; end = q.end })) = sym p.header ∙ q.header in
    let same-record : ◌≡◌ {A = Record} (record { fields = setting_fields one; end = p.end }) (record { fields = setting_fields two; end = q.end }) = cc in
    let same-settings : setting_fields one ≡ setting_fields two = ap (λ (t : Record). t.fields) same-record in
    let same_end : p.end ≡ q.end = ap (λ (t : Record). t.end) same-record in
    let same-coords : one.coords ≡ two.coords = reads_same p.rest (subst (λ (end : ℕ). Reads s 4096 room (first_shot end) two.coords) (sym same_end) q.rest) in
    ap₂ (λ (f : Fields) (coords : List ℕ). job_of f.first f.second f.third coords) same-settings same-coords
