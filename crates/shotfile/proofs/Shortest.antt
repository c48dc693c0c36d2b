-- A file that is read is in its shortest form, and is what its list is written as. Assumes nothing.
use mathlib.Core.Path.{◌≡◌, refl, sym, ap, ◌∙◌}
use mathlib.Core.Bool.{Bool, true, ◌&&◌}
use mathlib.Core.List.{List, [], ◌++◌}
use Prim.Native.Nat.{ℕ, zero, suc, ◌≤◌}
use lib.ListN.{length, drop, drop_of_length-le, get_or-eq_default}
use Rattle.ground.specs.Numbers.{Bytes}
use Rattle.job.specs.Job.{Job, shots_of}
use Rattle.shotfile_records.specs.declared.Fields.{Fields}
use Rattle.std.specs.Prelude.{Ok, Some}
use Rattle.shotfile_reader.specs.declared.Cursor.{Cursor}
use Rattle.shotfile_records.specs.Records.{header_absent, needless, tight, record_at, record_of}
use Rattle.shotfile_records.specs.Numbers.{setting_fields, shot_numbers}
use Rattle.shotfile_reader.specs.Files.{Step, step_at, file, file_in, on_shot}
use Rattle.shotfile_writer.specs.Files.{shot_records, file_of}
use Rattle.shotfile.specs.Shortest.{tight_from, tight_rest, shortest}
use Rattle.shotfile_reader.proofs.Coords.{shots-none, shots-more}
use Rattle.shotfile_reader.proofs.Steps.{step_end, step-on}
use Rattle.shotfile_reader.proofs.ShotsRead.{Reads, done, shot}
use Rattle.shotfile_reader.proofs.FileParts.{file-parts}
use Rattle.shotfile_records.proofs.Parts.{parts}
use Rattle.shotfile.proofs.WriteBack.{record_same}

-- ---- no field of it is needless
-- past the end no field stands
end-tight : (s : List ℕ) (at : ℕ) (absent : Fields) → length s ≤ at → tight s at absent ≡ true
unfolding tight needless
end-tight s at absent h = rw (get_or-eq_default s 0 h)

reads-tight : {s : List ℕ} {left places : ℕ} {c : Cursor} {coords : List ℕ} → Reads s left places c coords → (n : ℕ) → tight_from n s c ≡ true
unfolding tight_from
reads-tight r zero = refl
reads-tight {s} {left} {places} {c} (done h) (suc n) = rw (end-tight s c.at c.last h, ← step_end s c h)
reads-tight {s} {left} {places} {c} (shot {f = f} {end = end} i q r) (suc n) =
    let step : step_at s c ≡ Ok (Some (record { at = end; last = f })) = sym (step-on s c i (Ok (record { fields = f; end = end })) (sym q)) in
    ap (λ (b : Bool). b && on_shot (step_at s c) true (tight_from n s)) (parts s c.at c.last q).is-tight
    ∙ (ap (λ (k : Step). on_shot k true (tight_from n s)) step ∙ reads-tight r n)

pub file-shortest : (s : List ℕ) (places : ℕ) {job : Job} → file_in places s ≡ file job → shortest s ≡ true
unfolding shortest
file-shortest s places e =
    let q = file-parts s places e in
    ap (λ (b : Bool). b && tight_rest s (record_at s 0 header_absent)) (parts s 0 header_absent q.header).is-tight
    ∙ (ap (tight_rest s) q.header ∙ reads-tight q.rest (length s))

-- ---- it is what its list is written as
module _ (e : ℕ) where
  -- the records of the shots that were read, one after the other
  records-none : (p : Fields) → shot_records p (shots_of e []) ≡ []
  unfolding shot_records
  records-none p = ap (shot_records p) (shots-none e)

  records-more : (p f : Fields) (coords : List ℕ) → shot_records p (shots_of e (shot_numbers f ++ coords)) ≡ record_of p f ++ shot_records f (shots_of e coords)
  unfolding shot_records
  records-more p f coords = ap (shot_records p) (shots-more e f coords)

  shots-same : {s : List ℕ} {left places : ℕ} {c : Cursor} {coords : List ℕ} → Reads s left places c coords → Bytes s → drop c.at s ≡ shot_records c.last (shots_of e coords)
  shots-same {s} {left} {places} {c} (done h) b = drop_of_length-le s h ∙ sym (records-none c.last)
  shots-same {s} {left} {places} {c} (shot {f = f} {end = end} {coords = coords} i q r) b =
      record_same s c.at c.last f end (parts s c.at c.last q) b
      ∙ (ap (λ (k : List ℕ). record_of c.last f ++ k) (shots-same r b) ∙ sym (records-more c.last f coords))

pub file-same : (s : List ℕ) (places : ℕ) {job : Job} → file_in places s ≡ file job → Bytes s → file_of job ≡ s
unfolding file_of
file-same s places {job} e b =
    let f : Fields = setting_fields job in
    let q = file-parts s places e in
    sym
    (record_same s 0 header_absent f q.end (parts s 0 header_absent q.header) b
    ∙ ap (λ (k : List ℕ). record_of header_absent f ++ k) (shots-same job.edge q.rest b))
