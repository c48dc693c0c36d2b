-- The text of a file that is refused, or whose list is, read as a typed list, is a mistake: its last line begins with `refused`. Assumes nothing.
use mathlib.Core.Path.{◌≡◌, refl, sym, ap, subst, ◌∙◌}
use mathlib.Core.Bool.{Bool, true, false, cond}
use mathlib.Core.List.{List, [], ◌∷◌, ◌++◌, append_assoc, append-nil}
use Prim.Native.Nat.{ℕ, zero, suc, ◌+◌, ◌/◌, ◌%◌, ◌≤◌}
use native.Mathlib.Omega.{arith}
use lib.Dec.{ltb}
use lib.ListN.{length, get_or}
use Rattle.job.specs.Job.{Job}
use Rattle.refusals.specs.declared.Refusal.{Refusal}
use Rattle.refusals.specs.declared.Refusal.TheVariants.{TooManyShots}
use Rattle.job.specs.Checking.{checked}
use Rattle.refusals.specs.Refusals.{notice_of, number_of, detail_of}
use Rattle.text_parts.specs.Text.{text}
use Rattle.text_parts.specs.Decimal.{decimal}
use Rattle.text_same.specs.Same.{same}
use Rattle.shotfile_records.specs.declared.Fields.{Fields}
use Rattle.shotfile_reader.specs.declared.Cursor.{Cursor}
use Rattle.shotfile_records.specs.Records.{header_absent, record_at}
use Rattle.shotfile_records.specs.Numbers.{setting_fields}
use Rattle.shotfile_reader.specs.Files.{Taken, Step, Rest, coordinates, faulty, with_shot, on_step, step_at, shots_from, file, refused, with_settings, on_header, first_shot, file_in}
use Rattle.shotfile_reader.proofs.FileParts.{file-parts}
use Rattle.shotfile_lines.specs.Lines.{labelled, note, setting_line, settings, shot_line, place_text, refused_line}
use Rattle.shotfile_shots.specs.ShotLines.{step_line, shot_lines}
use Rattle.shotfile_verdict.specs.Verdicts.{list_verdict, verdict}
use Rattle.shotfile_text.specs.Text.{records_text, plain_text}
use Rattle.text_wording.specs.Sentences.{sentence}
use Rattle.typed_line.specs.declared.entry.Mistake.{Mistake}
use Rattle.typed_line.specs.declared.entry.Mistake.TheVariants.{UnknownWord}
use Rattle.typed_draft.specs.declared.Draft.{Draft}
use Rattle.job.specs.declared.Stored.{Stored}
use Rattle.typed_list.specs.declared.MistakeAt.{MistakeAt}
use Rattle.std.specs.Prelude.{Result, Ok, Err, Some, None}
use Rattle.typed_line.specs.Words.{before, newline, lines_from, lines_of, words_from}
use Rattle.typed_line.specs.Entries.{command_of, commanded, entry_of, line_entry}
use Rattle.typed_draft.specs.Drafts.{nothing_yet, then}
use Rattle.typed_list.specs.Lists.{mistaken, on_next, typed_from, typed_list}
use Rattle.typed_line.proofs.Cutting.{lines_cut}
use Rattle.typed_draft.proofs.DraftLaws.{then-wrong}

-- ---- a wrong line among lines
pub record Mistakes (t : Result Stored MistakeAt) : Type 0 where
  pub line : ℕ
  pub mistake : Mistake
  pub is : t ≡ mistaken line mistake

data Has : List (List ℕ) → Type 0 where
  here : {l : List ℕ} {lines : List (List ℕ)} {m : Mistake} → line_entry l ≡ Err m → Has (l ∷ lines)
  there : {l : List ℕ} {lines : List (List ℕ)} → Has lines → Has (l ∷ lines)

stops : (places : ℕ) (d : Draft) (line : ℕ) {lines : List (List ℕ)} → Has lines → Mistakes (typed_from places d line lines)
unfolding typed_from
stops places d line (here {l = l} {lines = lines} {m = m} e) = record { line = line; mistake = m; is = ap (λ (n : Result Draft Mistake). on_next n line (λ d'. typed_from places d' (suc line) lines)) (sym (then-wrong places d e)) }
stops places d line (there {l = l} {lines = lines} h) = go (then places d (line_entry l)) (λ d'. stops places d' (suc line) h)
  where
    go : (n : Result Draft Mistake) → ((d' : Draft) → Mistakes (typed_from places d' (suc line) lines)) → Mistakes (on_next n line (λ d'. typed_from places d' (suc line) lines))
    go (Ok d') k = k d'
    go (Err m) k = record { line = line; mistake = m; is = refl }

-- what follows a newline keeps its lines
after-from : (line t rest : List ℕ) → Has (lines_of rest) → Has (lines_from line (t ++ (10 ∷ rest)))
unfolding lines_from
after-from line [] rest h = there h
after-from line (b ∷ t) rest h = go (newline b) (after-from [] t rest h) (after-from (line ++ (b ∷ [])) t rest h)
  where
    go : (k : Bool) → Has (lines_from [] (t ++ (10 ∷ rest))) → Has (lines_from (line ++ (b ∷ [])) (t ++ (10 ∷ rest))) → Has (cond k (line ∷ lines_from [] (t ++ (10 ∷ rest))) (lines_from (line ++ (b ∷ [])) (t ++ (10 ∷ rest))))
    go true x y = there x
    go false x y = y

after : (t u rest : List ℕ) → Has (lines_of rest) → u ++ (10 ∷ rest) ≡ t → Has (lines_of t)
after t u rest h e = subst (λ (k : List ℕ). Has (lines_of k)) e (after-from [] u rest h)

-- ---- the line of a refusal
refused-has : (t : List ℕ) → Has (lines_of (text "refused " ++ t))
unfolding before words_from same command_of commanded entry_of
refused-has t = subst Has (sym (lines_cut [] (text "refused " ++ t))) (here {m = UnknownWord} refl)

refusal-has : (r : Refusal) (rest : List ℕ) → Has (lines_of (refused_line r ++ rest))
unfolding refused_line
refusal-has r rest =
    let words : List ℕ = place_text (notice_of r).met (detail_of r) ++ (text ": " ++ (sentence r ++ text "\n")) in
    subst (λ (k : List ℕ). Has (lines_of k)) (parts (text "refused ") (decimal (number_of r)) words) (refused-has (decimal (number_of r) ++ (words ++ rest)))
  where
    parts : (a b c : List ℕ) → a ++ (b ++ (c ++ rest)) ≡ ((a ++ b) ++ c) ++ rest
    parts a b c = simp append_assoc

-- ---- settings and shots in front
settings-keep : (m : ℕ) (f : Fields) (rest : List ℕ) → Has (lines_of rest) → Has (lines_of (settings m f ++ rest))
unfolding settings setting_line
settings-keep m f rest h =
    let a : List ℕ = setting_line (text "field ") f.first (m % 2) in
    let b : List ℕ = setting_line (text "edge ") f.second (m / 2 % 2) in
    let c : List ℕ = labelled (text "grid ") f.third in
    after (settings m f ++ rest) (a ++ (b ++ (c ++ note (m / 4)))) rest h (parts a b c (note (m / 4)) (text "\n"))
  where
    parts : (a b c d e : List ℕ) → (a ++ (b ++ (c ++ d))) ++ (e ++ rest) ≡ (a ++ (b ++ (c ++ (d ++ e)))) ++ rest
    parts a b c d e = simp append_assoc

shot-keep : (f : Fields) (n at : ℕ) (rest : List ℕ) → Has (lines_of rest) → Has (lines_of (shot_line f n at ++ rest))
unfolding shot_line
shot-keep f n at rest h =
    let a : List ℕ = labelled (text "shot ") f.first in
    let b : List ℕ = labelled (text " ") f.second in
    let c : List ℕ = labelled (text " ") f.third in
    let d : List ℕ = labelled (text " # number ") n in
    let e : List ℕ = labelled (text ", byte ") at in
    after (shot_line f n at ++ rest) (a ++ (b ++ (c ++ (d ++ e)))) rest h (parts a b c d e (text "\n"))
  where
    parts : (a b c d e g : List ℕ) → (a ++ (b ++ (c ++ (d ++ e)))) ++ (g ++ rest) ≡ (a ++ (b ++ (c ++ (d ++ (e ++ g))))) ++ rest
    parts a b c d e g = simp append_assoc

regroup : (a b c : List ℕ) → a ++ (b ++ c) ≡ (a ++ b) ++ c
regroup a b c = sym (append_assoc a b c)

module _ (s : List ℕ) where
  -- lines of shots keep a wrong line after them
  shots-keep : (left n : ℕ) (c : Cursor) (rest : List ℕ) → Has (lines_of rest) → Has (lines_of (shot_lines left n s c ++ rest))
  unfolding shot_lines
  shots-keep zero n c rest h = go (ltb c.at (length s))
    where
      go : (b : Bool) → Has (lines_of (cond b (refused_line (TooManyShots c.at)) [] ++ rest))
      go true = refusal-has (TooManyShots c.at) rest
      go false = h
  shots-keep (suc left) n c rest h = go (step_at s c) (λ c'. shots-keep left (n + 1) c' rest h)
    where
      go : (t : Step) → ((c' : Cursor) → Has (lines_of (shot_lines left (n + 1) s c' ++ rest))) → Has (lines_of (step_line n c.at t (shot_lines left (n + 1) s) ++ rest))
      go (Ok (Some c')) k = subst (λ (t : List ℕ). Has (lines_of t)) (regroup (shot_line c'.last n c.at) (shot_lines left (n + 1) s c') rest) (shot-keep c'.last n c.at (shot_lines left (n + 1) s c' ++ rest) (k c'))
      go (Err r) k = refusal-has r rest
      go (Ok None) k = h

  -- a faulty record gives one, where the places do not run out before the shots that are allowed
  shots-has : (left places n : ℕ) (c : Cursor) {r : Refusal} (rest : List ℕ) → left ≤ places → shots_from left places s c ≡ faulty r → Has (lines_of (shot_lines left n s c ++ rest))
  unfolding shot_lines shots_from
  shots-has zero places n c {r} rest p e = go (ltb c.at (length s)) e
    where
      go : (b : Bool) → cond b (faulty (TooManyShots c.at)) (coordinates []) ≡ faulty r → Has (lines_of (cond b (refused_line (TooManyShots c.at)) [] ++ rest))
      go true e = refusal-has (TooManyShots c.at) rest
      go false e = let z : ◌≡◌ {A = ℕ} 0 1 = cc in absurd (omega arith)
  shots-has (suc left) zero n c {r} rest p e = absurd (omega arith)
  shots-has (suc left) (suc places) n c {r} rest p e = go (step_at s c) (λ c' e'. shots-has left places (n + 1) c' rest (omega arith) e') e
    where
      next : (f : Fields) (k : Rest) → with_shot f k ≡ faulty r → k ≡ faulty r
      next f (coordinates coords) e = let z : ◌≡◌ {A = ℕ} 0 1 = cc in absurd (omega arith)
      next f (faulty q) e = e

      go : (t : Step) → ((c' : Cursor) → shots_from left places s c' ≡ faulty r → Has (lines_of (shot_lines left (n + 1) s c' ++ rest)))
          → on_step t (shots_from left places s) ≡ faulty r
          → Has (lines_of (step_line n c.at t (shot_lines left (n + 1) s) ++ rest))
      go (Ok (Some c')) k e = subst (λ (t : List ℕ). Has (lines_of t)) (regroup (shot_line c'.last n c.at) (shot_lines left (n + 1) s c') rest) (shot-keep c'.last n c.at (shot_lines left (n + 1) s c' ++ rest) (k c' (next c'.last (shots_from left places s c') e)))
      go (Err r') k e = refusal-has r' rest
      go (Ok None) k e = let z : ◌≡◌ {A = ℕ} 0 1 = cc in absurd (omega arith)

  -- ---- the text
  file-has : (places : ℕ) {r : Refusal} → 4096 ≤ places → file_in places s ≡ refused r → Has (lines_of (plain_text places s))
  unfolding plain_text file_in
  file-has places {r} p e = go (record_at s 0 header_absent) e
    where
      rest : (f : Fields) (k : Rest) → with_settings f k ≡ refused r → k ≡ faulty r
      rest f (coordinates coords) e = let z : ◌≡◌ {A = ℕ} 0 1 = cc in absurd (omega arith)
      rest f (faulty q) e = let m : q ≡ r = cc in ap faulty m

      go : (t : Taken) → on_header t (λ end. shots_from 4096 places s (first_shot end)) ≡ refused r → Has (lines_of (records_text places s t))
      go (Ok k) e = settings-keep (get_or s 0 0) k.fields (shot_lines 4096 0 s (first_shot k.end) ++ verdict (file_in places s)) (shots-has 4096 places 0 (first_shot k.end) (verdict (file_in places s)) (omega arith) (rest k.fields (shots_from 4096 places s (first_shot k.end)) e))
      go (Err q) e = subst (λ (t : List ℕ). Has (lines_of t)) (append-nil (refused_line q)) (refusal-has q [])

  list-has : (places : ℕ) (job : Job) {r : Refusal} → file_in places s ≡ file job → checked job ≡ Err r → Has (lines_of (plain_text places s))
  unfolding plain_text
  list-has places job {r} e a =
      let p = file-parts s places e in
      let v : verdict (file_in places s) ≡ refused_line r = ap verdict e ∙ ap list_verdict a in
      subst (λ (t : Taken). Has (lines_of (records_text places s t))) (sym p.header)
      (settings-keep (get_or s 0 0) (setting_fields job) (shot_lines 4096 0 s (first_shot p.end) ++ verdict (file_in places s))
      (shots-keep 4096 0 (first_shot p.end) (verdict (file_in places s)) (subst (λ (t : List ℕ). Has (lines_of t)) (append-nil (refused_line r) ∙ sym v) (refusal-has r []))))

  mistakes : (room : ℕ) (t : List ℕ) → Has (lines_of t) → Mistakes (typed_list room t)
  unfolding typed_list
  mistakes room t h = stops room nothing_yet 1 h

  -- (a) of a file that is refused
  pub refused-mistakes : (places room : ℕ) {r : Refusal} → 4096 ≤ places → file_in places s ≡ refused r → Mistakes (typed_list room (plain_text places s))
  refused-mistakes places room p e = mistakes room (plain_text places s) (file-has places p e)

  -- (b) of a file whose list is refused
  pub turned-mistakes : (places room : ℕ) (job : Job) {r : Refusal} → file_in places s ≡ file job → checked job ≡ Err r → Mistakes (typed_list room (plain_text places s))
  turned-mistakes places room job e a = mistakes room (plain_text places s) (list-has places job e a)
