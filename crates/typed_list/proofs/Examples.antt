-- Examples of what a text says, by computation: settings and shots, with comments and blanks, and mistakes.
use mathlib.Core.Path.{◌≡◌, refl}
use mathlib.Core.List.{◌++◌}
use Prim.Native.String.{String}
use Rattle.job.specs.Job.{numbers_of}
use Rattle.shotfile_records.specs.Records.{header_absent}
use Rattle.text_parts.specs.Text.{text}
use Rattle.text_parts.specs.Decimal.{value_from}
use Rattle.text_same.specs.Same.{same}
use Rattle.typed_line.specs.declared.entry.Mistake.TheVariants.{UnknownWord, TooFewWords, TooManyWords, NoNumber, LargeNumber, SettingTwice, NoPlace}
use Rattle.job.specs.declared.Stored.{Stored}
use Rattle.typed_list.specs.declared.MistakeAt.{MistakeAt}
use Rattle.std.specs.Prelude.{ℕ, Result, Ok}
use Rattle.typed_line.specs.Words.{before, lines_from, lines_of, words_from}
use Rattle.typed_line.specs.Entries.{digits_only, word_number, command_of, setting_of, shot_of, commanded, entry_of}
use Rattle.typed_draft.specs.Drafts.{nothing_yet, settings_of, settled, shot_more, then}
use Rattle.typed_list.specs.Lists.{mistaken, typed_from, typed_list, shots_in}

-- with places for two shots
abbrev says : String → Result Stored MistakeAt → Type 0
says t answer = typed_list 2 (text t) ≡ answer

abbrev list : ℕ → ℕ → ℕ → ℕ → Result Stored MistakeAt
list field edge grid shots = Ok (record { field = field; edge = edge; grid = grid; shots = shots })

pub examples :
    says "" (list 1024 16 16 0)
    × says "\n\n" (list 1024 16 16 0)
    × says "# nothing but a comment" (list 1024 16 16 0)
    × says "field 8\nedge 2\ngrid 16 # default\nshot 0 0 0 # number 0, byte 5\nshot 1 1 1 # number 1, byte 6\n" (list 8 2 16 2)
    × says "shot 1 1 1\n  field  0008#no blank before the comment" (list 8 16 16 1)
    × says "grid 8" (list 1024 16 8 0)
    × says "field 65535" (list 65535 16 16 0)
    × says "field 65536" (mistaken 1 LargeNumber)
    × says "field 8\nrefused 5 at byte 8" (mistaken 2 UnknownWord)
    × says "fields 8" (mistaken 1 UnknownWord)
    × says "\n\nfield" (mistaken 3 TooFewWords)
    × says "field 8 8" (mistaken 1 TooManyWords)
    × says "shot 1 2" (mistaken 1 TooFewWords)
    × says "shot 1 2 3 4" (mistaken 1 TooManyWords)
    × says "shot 1 -2 3" (mistaken 1 NoNumber)
    × says "edge 2\nedge 2" (mistaken 2 SettingTwice)
    × says "shot 1 1 1\nshot 1 1 1\nshot 1 1 1" (mistaken 3 NoPlace)
    × (shots_in (lines_of (text "shot 1 2 3\nedge 2\nshot 4 5 6 # the second")) ≡ numbers_of 1 2 3 ++ numbers_of 4 5 6)
unfolding header_absent before lines_from words_from digits_only value_from word_number same command_of setting_of shot_of commanded entry_of nothing_yet settings_of settled shot_more then typed_from typed_list shots_in
examples = (refl, refl, refl, refl, refl, refl, refl, refl, refl, refl, refl, refl, refl, refl, refl, refl, refl, refl)
