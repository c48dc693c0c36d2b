-- The text of a file, by what reading its header answers.
use mathlib.Core.Path.{◌≡◌, sym, ap, ◌∙◌}
use mathlib.Core.List.{List, ◌++◌}
use Prim.Native.Nat.{ℕ, ◌<◌}
use native.Mathlib.Decide.{dec_lt}
use native.Mathlib.Omega.{arith}
use lib.ListN.{length, get_or}
use Rattle.refusals.specs.declared.Refusal.{Refusal}
use Rattle.refusals.specs.declared.Refusal.TheVariants.{CutShort}
use Rattle.shotfile_records.specs.declared.Fields.{Fields}
use Rattle.shotfile_reader.specs.Files.{Taken}
use Rattle.shotfile_records.specs.declared.Record.{Record}
use Rattle.std.specs.Prelude.{Ok, Err}
use Rattle.shotfile_records.specs.Records.{header_absent, first_absent, record_at}
use Rattle.shotfile_reader.specs.Files.{file_in}
use Rattle.shotfile_reader.specs.Calls.{read_coords}
use Rattle.shotfile_records.proofs.Taking.{no-map}
use Rattle.shotfile_lines.specs.Lines.{settings, refused_line}
use Rattle.shotfile_shots.specs.ShotLines.{shot_lines}
use Rattle.shotfile_verdict.specs.Verdicts.{verdict}
use Rattle.shotfile_text.specs.Text.{records_text, plain_text}

module _ (places : ℕ) (s : List ℕ) {absent : Fields} (a : absent ≡ header_absent) where
  as-header : {t : Taken} → t ≡ record_at s 0 absent → records_text places s t ≡ plain_text places s
  unfolding plain_text
  as-header e = ap (records_text places s) (e ∙ ap (record_at s 0) a)

  pub text-whole : {last : Fields} {taken : Record} → Ok taken ≡ record_at s 0 absent → last ≡ first_absent
      → settings (get_or s 0 0) taken.fields ++ (shot_lines 4096 0 s (record { at = taken.end; last = last }) ++ verdict (file_in places s)) ≡ plain_text places s
  text-whole {last} {taken} e p =
      ap (λ (q : Fields). settings (get_or s 0 0) taken.fields ++ (shot_lines 4096 0 s (record { at = taken.end; last = q }) ++ verdict (file_in places s))) p
      ∙ as-header e

  pub text-refused : {r : Refusal} → Err r ≡ record_at s 0 absent → refused_line r ≡ plain_text places s
  text-refused e = as-header e

  -- a header that is refused leaves the coordinates
  pub headless-coords : {r : Refusal} → Err r ≡ record_at s 0 absent → (before : List ℕ) → before ≡ read_coords (file_in places s) before
  unfolding file_in
  headless-coords e before = rw (← a, ← e)

-- a header has a map
pub has-map : (s : List ℕ) (absent : Fields) {taken : Record} → Ok taken ≡ record_at s 0 absent → 0 < length s
has-map s absent {taken} e = go (dec_lt 0 (length s))
  where
    go : Dec (0 < length s) → 0 < length s
    go (yes h) = h
    go (no h) =
        let d : ◌≡◌ {A = Taken} (Ok taken) (Err (CutShort 0)) = e ∙ sym (no-map s 0 absent (omega arith)) in
        let z : ◌≡◌ {A = ℕ} 0 1 = cc in
        absurd (omega arith)
