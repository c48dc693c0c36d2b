-- The text of a file whose list is accepted, read as a typed list, says that list: (a) its settings and the number of its shots, (b) their
-- coordinates; and (c) the file of that list is the same file. Assumes nothing.
use mathlib.Core.Path.{◌≡◌, refl, sym, ap, ◌∙◌}
use mathlib.Core.List.{List, [], ◌++◌, append_assoc, append-nil}
use Prim.Native.Nat.{ℕ, zero, suc, ◌+◌, ◌/◌, ◌%◌, ◌≤◌, ◌<◌}
use native.Mathlib.Omega.{arith}
use lib.ListN.{length, get_or}
use borrow.Author.Tests.{le-ltb}
use Rattle.ground.specs.Numbers.{Bytes}
use Rattle.job.specs.Job.{Job, job_of, shots, shots_of, shot_count, Valid}
use Rattle.job.specs.Checking.{checked}
use Rattle.job.proofs.Conditions.{accepted-valid}
use Rattle.text_parts.specs.Text.{text}
use Rattle.text_same.specs.Same.{same}
use Rattle.shotfile_records.specs.declared.Fields.{Fields}
use Rattle.shotfile_reader.specs.declared.Cursor.{Cursor}
use Rattle.shotfile_records.specs.Records.{record_at}
use Rattle.shotfile_records.specs.Numbers.{setting_fields, shot_numbers}
use Rattle.shotfile_reader.specs.Files.{File, file, first_shot, file_in}
use Rattle.shotfile_writer.specs.Files.{file_of}
use Rattle.shotfile_reader.proofs.Coords.{count_none, count-more}
use Rattle.shotfile_reader.proofs.Steps.{step_end, step-on}
use Rattle.shotfile_reader.proofs.ShotsRead.{Reads, done, shot, reads-room}
use Rattle.shotfile_reader.proofs.FileParts.{file-parts}
use Rattle.shotfile.proofs.ReadBack.{SmallShots, small-more}
use Rattle.shotfile.proofs.RoundTrip.{small-shots, written_read}
use Rattle.shotfile_lines.specs.Lines.{setting_line, settings, shot_line}
use Rattle.shotfile_shots.specs.ShotLines.{shot_lines}
use Rattle.shotfile_verdict.specs.Verdicts.{list_verdict, verdict}
use Rattle.shotfile_text.specs.Text.{records_text, plain_text}
use Rattle.typed_line.specs.declared.entry.Entry.{Entry}
use Rattle.typed_draft.specs.declared.Draft.{Draft}
use Rattle.std.specs.Prelude.{Some, Result, Ok}
use Rattle.typed_line.specs.declared.entry.Mistake.{Mistake}
use Rattle.job.specs.declared.Stored.{Stored}
use Rattle.typed_list.specs.declared.MistakeAt.{MistakeAt}
use Rattle.typed_line.specs.Words.{before, lines_from, lines_of, words_from}
use Rattle.typed_line.specs.Entries.{command_of, entry_of}
use Rattle.typed_draft.specs.Drafts.{nothing_yet, settings_of, then}
use Rattle.typed_list.specs.Lists.{listed, typed_from, typed_list, coords_of, shots_in}
use Rattle.typed_draft.proofs.DraftLaws.{field-once, edge-once, grid-once, shots-room, then-setting, then-shot}
use Rattle.typed_list.proofs.Listing.{typed-goes, typed-start, shots-cons}
use Rattle.typed_line.proofs.Printed.{freely}
use Rattle.typed_again.proofs.Lines.{Line, Plain, plain, setting-line, shot-line}
use Rattle.refusals.specs.Refusals.{Checked}

-- a text says a list after the lines above, and these are the coordinates of its shots
pub record Back (places : ℕ) (d : Draft) (line : ℕ) (t : List ℕ) (typed : Result Stored MistakeAt) (coords : List ℕ) : Type 0 where
  pub list : typed_from places d line (lines_of t) ≡ typed
  pub shots : shots_in (lines_of t) ≡ coords

module _ {places : ℕ} (d : Draft) (line : ℕ) where
  -- one line more in front
  back-line : {d' : Draft} {t rest : List ℕ} {entry : Entry} {typed : Result Stored MistakeAt} {coords : List ℕ}
      → Line t rest entry → Ok d' ≡ then places d (Ok entry) → Back places d' (line + 1) rest typed coords → Back places d line t typed (coords_of (Ok entry) ++ coords)
  back-line {d'} {t} {rest} {entry} {typed} {coords} l g b =
      record {
        list = typed-goes places d line l.first (sym l.says) g ∙ b.list;
        shots = ap shots_in l.first ∙ (shots-cons l.line (lines_of rest) ∙ (ap (λ (e : Result Entry Mistake). coords_of e ++ shots_in (lines_of rest)) l.says ∙ ap (λ (k : List ℕ). coords_of (Ok entry) ++ k) b.shots));
      }

  -- no line
  back_end : Back places d line [] (listed d) []
  unfolding before lines_from words_from entry_of then typed_from shots_in
  back_end = record { list = refl; shots = refl }

back_as : {places : ℕ} {d : Draft} {line : ℕ} {t t' : List ℕ} {typed typed' : Result Stored MistakeAt} {coords : List ℕ} → t ≡ t' → typed ≡ typed' → Back places d line t typed coords → Back places d line t' typed' coords
back_as {places} {d} {line} {t} {t'} {typed} {typed'} {coords} e f b = record { list = ap (λ (k : List ℕ). typed_from places d line (lines_of k)) (sym e) ∙ (b.list ∙ f); shots = ap (λ (k : List ℕ). shots_in (lines_of k)) (sym e) ∙ b.shots }

-- ---- the shots
-- k shots more
abbrev more : Draft → ℕ → Draft
more d k = record d { shots = d.shots + k }

module _ (s : List ℕ) where
  pub lines_end : (left n : ℕ) (c : Cursor) → length s ≤ c.at → shot_lines left n s c ≡ []
  unfolding shot_lines
  lines_end zero n c h = rw (le-ltb c.at (length s) h)
  lines_end (suc left) n c h = rw (sym (step_end s c h))

  pub lines-shot : (left n : ℕ) (c : Cursor) {f : Fields} {end : ℕ} → c.at < length s → record_at s c.at c.last ≡ Ok (record { fields = f; end = end })
      → shot_lines (suc left) n s c ≡ shot_line f n c.at ++ shot_lines left (n + 1) s (record { at = end; last = f })
  unfolding shot_lines
  lines-shot left n c {f} {end} h e = rw (sym (step-on s c h (Ok (record { fields = f; end = end })) (sym e)))

  back-shots : (e : ℕ) {allowed room : ℕ} {c : Cursor} {coords : List ℕ} → Reads s allowed room c coords → SmallShots (shots_of e coords) → (places left n line : ℕ) (d : Draft)
      → shot_count coords ≤ left
      → d.shots + shot_count coords ≤ 4096
      → d.shots + shot_count coords ≤ places
      → Back places d line (shot_lines left n s c) (listed (more d (shot_count coords))) coords
  back-shots e {allowed} {room} {c} (done h) small places left n line d l m r =
      let k : d.shots ≡ d.shots + shot_count [] = omega (arith, count_none) in
      back_as (sym (lines_end left n c h)) (ap (λ (n : ℕ). listed (record d { shots = n })) k) (back_end d line)
  back-shots e (shot {f = f} {coords = coords} h q r') small places zero n line d l m r = absurd (omega (arith, count-more f coords))
  back-shots e {allowed} {room} {c} (shot {f = f} {end = end} {coords = coords} h q r') small places (suc left) n line d l m r =
      let (here, later) = small-more e f coords small in
      let more-shots = count-more f coords in
      let k : d.shots + 1 + shot_count coords ≡ d.shots + shot_count (shot_numbers f ++ coords) = omega (arith, more-shots) in
      back_as (sym (lines-shot left n c h q)) (ap (λ (n : ℕ). listed (record d { shots = n })) k)
      (back-line d line
      (shot-line f.first f.second f.third n c.at (omega (arith, here.first_small)) (omega (arith, here.second-small)) (omega (arith, here.third-small)) (shot_lines left (n + 1) s (record { at = end; last = f })))
      (shots-room places d (omega (arith, more-shots)) (omega (arith, more-shots)) ∙ then-shot places d refl)
      (back-shots e r' later places left (n + 1) (line + 1) (more d 1) (omega (arith, more-shots)) (omega (arith, more-shots)) (omega (arith, more-shots))))

-- ---- the settings
field_plain : Plain (text "field")
unfolding freely
field_plain = plain (text "field") refl refl refl (omega arith)

edge-plain : Plain (text "edge")
unfolding freely
edge-plain = plain (text "edge") refl refl refl (omega arith)

grid-plain : Plain (text "grid")
unfolding freely
grid-plain = plain (text "grid") refl refl refl (omega arith)

-- all three given
abbrev set : Fields → Draft
set f = record { field = Some f.first; edge = Some f.second; grid = Some f.third; shots = 0 }

back-settings : (m : ℕ) (f : Fields) {places : ℕ} {rest : List ℕ} {typed : Result Stored MistakeAt} {coords : List ℕ} → f.first ≤ 65535 → f.second ≤ 65535 → f.third ≤ 65535
    → Back places (set f) 4 rest typed coords
    → Back places nothing_yet 1 (settings m f ++ rest) typed coords
unfolding settings nothing_yet same command_of
back-settings m f {places} {rest} {typed} {coords} hf he hg b =
    back_as (sym parts) refl
    (back-line nothing_yet 1 (setting-line field_plain refl f.first hf (m % 2) (setting_line (text "edge ") f.second (m / 2 % 2) ++ (setting_line (text "grid ") f.third (m / 4) ++ rest))) (field-once nothing_yet f.first refl refl ∙ then-setting places nothing_yet refl)
    (back-line one 2 (setting-line edge-plain refl f.second he (m / 2 % 2) (setting_line (text "grid ") f.third (m / 4) ++ rest)) (edge-once one f.second refl refl ∙ then-setting places one refl)
    (back-line two 3 (setting-line grid-plain refl f.third hg (m / 4) rest) (grid-once two f.third refl refl ∙ then-setting places two refl) b)))
  where
    one : Draft
    one = record { field = Some f.first; edge = nothing_yet.edge; grid = nothing_yet.grid; shots = 0 }

    two : Draft
    two = record { field = Some f.first; edge = Some f.second; grid = nothing_yet.grid; shots = 0 }

    parts : (setting_line (text "field ") f.first (m % 2) ++ (setting_line (text "edge ") f.second (m / 2 % 2) ++ setting_line (text "grid ") f.third (m / 4))) ++ rest
        ≡ setting_line (text "field ") f.first (m % 2) ++ (setting_line (text "edge ") f.second (m / 2 % 2) ++ (setting_line (text "grid ") f.third (m / 4) ++ rest))
    parts = simp append_assoc

-- ---- the file
module _ (s : List ℕ) (places : ℕ) (job : Job) (e : file_in places s ≡ file job) (a : checked job ≡ Ok tt) where
  open job use {field as F, edge as E, grid as G, coords}

  valid : Valid job
  valid = (accepted-valid job).0 a

  pub file-text : plain_text places s ≡ settings (get_or s 0 0) (setting_fields job) ++ shot_lines 4096 0 s (first_shot (file-parts s places e).end)
  unfolding plain_text
  file-text =
      ap (records_text places s) (file-parts s places e).header
      ∙ ap (λ (k : List ℕ). settings (get_or s 0 0) (setting_fields job) ++ k)
      (ap (λ (k : File). shot_lines 4096 0 s (first_shot (file-parts s places e).end) ++ verdict k) e
      ∙ (ap (λ (k : Checked). shot_lines 4096 0 s (first_shot (file-parts s places e).end) ++ list_verdict k) a
      ∙ append-nil (shot_lines 4096 0 s (first_shot (file-parts s places e).end))))

  back : Back places nothing_yet 1 (plain_text places s) (Ok (record { field = F; edge = E; grid = G; shots = shot_count coords })) coords
  unfolding settings_of
  back =
      let p = file-parts s places e in
      let v = valid in
      let n : 0 + shot_count coords ≡ shot_count coords = omega arith in
      back_as (sym file-text) (ap (λ (n : ℕ). Ok (record { field = F; edge = E; grid = G; shots = n })) n)
      (back-settings (get_or s 0 0) (setting_fields job) (omega (arith, v.field_most)) (omega (arith, v.field_most, v.edge_most)) (omega (arith, v.grid_most))
      (back-shots s E p.rest (small-shots F (shots job) v.field_most v.inside) places 4096 0 4 (set (setting_fields job)) (omega (arith, v.few)) (omega (arith, v.few)) (omega (arith, reads-room p.rest))))

  -- (a) the settings and the number of shots
  pub retyped-list : typed_list places (plain_text places s) ≡ Ok (record { field = F; edge = E; grid = G; shots = shot_count coords })
  retyped-list = sym (typed-start places (plain_text places s) refl) ∙ back.list

  -- (b) the coordinates
  pub retyped-shots : shots_in (lines_of (plain_text places s)) ≡ coords
  retyped-shots = back.shots

  -- (c) the file that is written for the typed list is that file, byte for byte
  pub rewritten : Bytes s → file_of (job_of F E G (shots_in (lines_of (plain_text places s)))) ≡ s
  rewritten b = ap (λ c. file_of (job_of F E G c)) retyped-shots ∙ written_read s places job b e
