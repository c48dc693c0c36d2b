-- What a text says: a list with its settings, or its first mistake.
use Rattle.std.specs.Prelude.{List, [], ◌∷◌, ◌++◌, ℕ, suc, Result, Ok, Err}
use Rattle.std.specs.Fmt.{decimal}
use Rattle.buffer.specs.Wrote.{in_front}
use Rattle.job.specs.declared.Stored.{Stored}
use Rattle.job.specs.Job.{shot_count, numbers_of}
use Rattle.typed_line.specs.declared.entry.Mistake.{Mistake}
use Rattle.typed_line.specs.declared.entry.Entry.{Entry}
use Rattle.typed_line.specs.declared.entry.Entry.TheVariants.{Nothing, Setting as Settled, Shot}
use Rattle.typed_draft.specs.Drafts.{nothing_yet, settings_of, then}
use Rattle.typed_draft.specs.declared.Draft.{Draft}
use Rattle.typed_list.specs.declared.MistakeAt.{MistakeAt}
use Rattle.typed_line.specs.Words.{lines_of}
use Rattle.typed_line.specs.Entries.{line_entry, sentence}
use Rattle.text_parts.specs.Text.{text}

-- ---- the text
-- the list of all lines
abbrev pub stored : Draft → Stored
stored d = record { field = (settings_of d).first; edge = (settings_of d).second; grid = (settings_of d).third; shots = d.shots }

abbrev pub listed : Draft → Result Stored MistakeAt
listed d = Ok (stored d)

abbrev pub mistaken : ℕ → Mistake → Result Stored MistakeAt
mistaken line m = Err (record { line = line; mistake = m })

abbrev pub on_next : Result Draft Mistake → ℕ → (Draft → Result Stored MistakeAt) → Result Stored MistakeAt
on_next (Ok d) line more = more d
on_next (Err m) line more = mistaken line m

-- the lines from a number on, after those above; the first mistake decides
unfoldable pub typed_from : ℕ → Draft → ℕ → List (List ℕ) → Result Stored MistakeAt
typed_from places d line [] = listed d
typed_from places d line (l ∷ lines) = on_next (then places d (line_entry l)) line (λ d'. typed_from places d' (suc line) lines)

-- lines are counted from 1; so many shots have a place
unfoldable pub typed_list : ℕ → List ℕ → Result Stored MistakeAt
typed_list places text = typed_from places nothing_yet 1 (lines_of text)

-- a mistake in words
abbrev pub mistake_text : MistakeAt → List ℕ
mistake_text at = text "line " ++ (decimal at.line ++ (text ": " ++ sentence at.mistake))

-- ---- the coordinates
abbrev pub coords_of : Result Entry Mistake → List ℕ
coords_of (Ok Nothing) = []
coords_of (Ok (Settled s n)) = []
coords_of (Ok (Shot x y z)) = numbers_of x y z
coords_of (Err m) = []

-- the coordinates of the shots of these lines
unfoldable pub shots_in : List (List ℕ) → List ℕ
shots_in [] = []
shots_in (l ∷ lines) = coords_of (line_entry l) ++ shots_in lines

-- the first places are the coordinates of the shots, and the others keep their values, as all do after a mistake
unfoldable pub coords_left : Result Stored MistakeAt → List ℕ → List ℕ → List ℕ
coords_left (Ok list) text before = in_front (shots_in (lines_of text)) before
coords_left (Err m) text before = before

-- the coordinate slice after a text
abbrev pub typed_coords : List ℕ → List ℕ → List ℕ
typed_coords text before = coords_left (typed_list (shot_count before) text) text before
