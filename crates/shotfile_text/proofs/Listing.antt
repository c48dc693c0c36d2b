-- What the text of a file shows, in words of what reading the file gives (`file_in` of `shotfile_reader`): the settings of a file that reads, one
-- line for each of its shots with the shot's coordinates, in order and numbered from 0, and the refusal of its list, if there is one;
-- of a file that does not read, some lines and then its refusal. Assumes nothing.
use mathlib.Core.Path.{◌≡◌, refl, sym, ap, ◌∙◌, subst}
use mathlib.Core.Bool.{Bool, true, false, cond}
use mathlib.Core.List.{List, [], ◌++◌, append_assoc, append-nil}
use Prim.Native.Nat.{ℕ, zero, suc, ◌+◌, ◌≤◌}
use native.Mathlib.Omega.{arith}
use lib.Dec.{ltb}
use lib.ListN.{length, get_or}
use Rattle.job.specs.Job.{Job}
use Rattle.refusals.specs.declared.Refusal.{Refusal}
use Rattle.refusals.specs.declared.Refusal.TheVariants.{TooManyShots}
use Rattle.job.specs.Checking.{checked}
use Rattle.shotfile_records.specs.declared.Fields.{Fields}
use Rattle.std.specs.Prelude.{None, Ok, Err}
use Rattle.shotfile_reader.specs.declared.Cursor.{Cursor}
use Rattle.shotfile_records.specs.Records.{header_absent, record_at}
use Rattle.shotfile_records.specs.Numbers.{setting_fields, shot_numbers}
use Rattle.shotfile_reader.specs.Files.{Taken, step_of, step_at, Rest, coordinates, faulty, with_shot, on_step, shots_from, File, file, refused, first_shot, with_settings, on_header, file_in}
use Rattle.shotfile_lines.specs.Lines.{settings, shot_line, refused_line}
use Rattle.shotfile_shots.specs.ShotLines.{step_line, shot_lines}
use Rattle.shotfile_verdict.specs.Verdicts.{list_verdict, verdict}
use Rattle.shotfile_text.specs.Text.{records_text, plain_text}

-- lines show coordinates: a line for each shot, whose numbers it says, the first of them shot n
pub data Shows : ℕ → List ℕ → List ℕ → Type 0 where
  none : {n : ℕ} → Shows n [] []
  more : {n : ℕ} {coords lines : List ℕ} (f : Fields) (at : ℕ) → Shows (n + 1) coords lines → Shows n (shot_numbers f ++ coords) (shot_line f n at ++ lines)

-- lines show some shots, and then the refusal of a record
record Breaks (n : ℕ) (r : Refusal) (lines : List ℕ) : Type 0 where
  pub coords : List ℕ
  pub whole : List ℕ
  pub shown : Shows n coords whole
  pub is : lines ≡ whole ++ refused_line r

-- ---- from a cursor on
abbrev ShowsRest : ℕ → Rest → List ℕ → Type 0
ShowsRest n (coordinates coords) lines = Shows n coords lines
ShowsRest n (faulty r) lines = Breaks n r lines

breaks-here : (n : ℕ) (r : Refusal) → Breaks n r (refused_line r)
breaks-here n r = record { coords = []; whole = []; shown = none; is = refl }

rest_more : (n at : ℕ) (f : Fields) (rest : Rest) (lines : List ℕ) → ShowsRest (n + 1) rest lines → ShowsRest n (with_shot f rest) (shot_line f n at ++ lines)
rest_more n at f (coordinates coords) lines h = more f at h
rest_more n at f (faulty r) lines h =
    record {
      coords = shot_numbers f ++ h.coords;
      whole = shot_line f n at ++ h.whole;
      shown = more f at h.shown;
      is = ap (λ (x : List ℕ). shot_line f n at ++ x) h.is ∙ sym (append_assoc (shot_line f n at) h.whole (refused_line r));
    }

shows-rest : (left n places : ℕ) (s : List ℕ) (c : Cursor) → left ≤ places → ShowsRest n (shots_from left places s c) (shot_lines left n s c)
unfolding shots_from shot_lines step_at
shows-rest zero n places s c h = go (ltb c.at (length s))
  where
    go : (b : Bool) → ShowsRest n (cond b (faulty (TooManyShots c.at)) (coordinates [])) (cond b (refused_line (TooManyShots c.at)) [])
    go true = breaks-here n (TooManyShots c.at)
    go false = none
shows-rest (suc left) n zero s c h = absurd (omega arith)
shows-rest (suc left) n (suc places) s c h = go (ltb c.at (length s)) (record_at s c.at c.last) (λ after. shows-rest left (n + 1) places s after (omega arith))
  where
    go : (b : Bool) (t : Taken) → ((after : Cursor) → ShowsRest (n + 1) (shots_from left places s after) (shot_lines left (n + 1) s after))
        → ShowsRest n (on_step (cond b (step_of t) (Ok None)) (shots_from left places s)) (step_line n c.at (cond b (step_of t) (Ok None)) (shot_lines left (n + 1) s))
    go false t k = none
    go true (Err r) k = breaks-here n r
    go true (Ok taken) k =
        let after : Cursor = record { at = taken.end; last = taken.fields } in
        rest_more n c.at taken.fields (shots_from left places s after) (shot_lines left (n + 1) s after) (k after)

-- ---- the whole text
-- the text of a file that reads: the settings, the shots, and the refusal of the list, if there is one
pub record TextOfFile (s : List ℕ) (job : Job) (text : List ℕ) : Type 0 where
  pub lines : List ℕ
  pub shown : Shows 0 job.coords lines
  pub is : text ≡ settings (get_or s 0 0) (setting_fields job) ++ (lines ++ list_verdict (checked job))

-- the text of a file that does not read ends with its refusal
pub record TextOfRefused (r : Refusal) (text : List ℕ) : Type 0 where
  pub lines : List ℕ
  pub is : text ≡ lines ++ refused_line r

abbrev TextShows : List ℕ → File → List ℕ → Type 0
TextShows s (file job) text = TextOfFile s job text
TextShows s (refused r) text = TextOfRefused r text

-- the settings and lines that show the records after the header, and the verdict on the file k that they make
with-verdict : (s : List ℕ) (f : Fields) (rest : Rest) (lines : List ℕ) {k : File} → ShowsRest 0 rest lines → k ≡ with_settings f rest
    → TextShows s (with_settings f rest) (settings (get_or s 0 0) f ++ (lines ++ verdict k))
with-verdict s f (coordinates coords) lines h e = record { lines = lines; shown = h; is = ap (λ (x : File). settings (get_or s 0 0) f ++ (lines ++ verdict x)) e }
with-verdict s f (faulty r) lines h e =
    record {
      lines = settings (get_or s 0 0) f ++ h.whole;
      is = ap (λ (x : File). settings (get_or s 0 0) f ++ (lines ++ verdict x)) e
          ∙ (ap (λ (x : List ℕ). settings (get_or s 0 0) f ++ (x ++ [])) h.is ∙ simp (append_assoc, append-nil));
    }

text-shows : (places : ℕ) (s : List ℕ) → 4096 ≤ places → TextShows s (file_in places s) (plain_text places s)
unfolding file_in plain_text
text-shows places s h = header (record_at s 0 header_absent) refl
  where
    rest : ℕ → Rest
    rest end = shots_from 4096 places s (first_shot end)

    header : (t : Taken) → record_at s 0 header_absent ≡ t → TextShows s (on_header t rest) (records_text places s t)
    header (Ok taken) e =
        with-verdict s taken.fields (rest taken.end) (shot_lines 4096 0 s (first_shot taken.end)) (shows-rest 4096 0 places s (first_shot taken.end) (omega arith)) (ap (λ (t : Taken). on_header t rest) e)
    header (Err r) e = record { lines = []; is = refl }

pub text-of-file : (places : ℕ) (s : List ℕ) {job : Job} → 4096 ≤ places → file_in places s ≡ file job → TextOfFile s job (plain_text places s)
text-of-file places s h e = subst (λ (k : File). TextShows s k (plain_text places s)) e (text-shows places s h)

pub text-of-refused : (places : ℕ) (s : List ℕ) {r : Refusal} → 4096 ≤ places → file_in places s ≡ refused r → TextOfRefused r (plain_text places s)
text-of-refused places s h e = subst (λ (k : File). TextShows s k (plain_text places s)) e (text-shows places s h)
