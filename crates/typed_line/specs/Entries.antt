-- What a line says: a setting, a shot, nothing, or a mistake.
use Rattle.std.specs.Prelude.{Bool, true, cond, ◌&&◌, List, [], ◌∷◌, ℕ, leb, Result, Ok, Err}
use Rattle.text_parts.specs.Text.{text}
use Rattle.text_parts.specs.Decimal.{value_from}
use Rattle.text_same.specs.Same.{same}
use Rattle.typed_line.specs.declared.entry.Setting.{Setting}
use Rattle.typed_line.specs.declared.entry.Setting.TheVariants.{Field, Edge, Grid}
use Rattle.typed_line.specs.declared.entry.Command.{Command}
use Rattle.typed_line.specs.declared.entry.Command.TheVariants.{Set, Shoot}
use Rattle.typed_line.specs.declared.entry.NumberError.{NumberError}
use Rattle.typed_line.specs.declared.entry.NumberError.TheVariants.{NoDigit, TooLarge}
use Rattle.typed_line.specs.declared.entry.Mistake.{Mistake}
use Rattle.typed_line.specs.declared.entry.Mistake.TheVariants.{UnknownWord, TooFewWords, TooManyWords, NoNumber, LargeNumber, SettingTwice, TooManyShots, NoPlace}
use Rattle.typed_line.specs.declared.entry.Entry.{Entry}
use Rattle.typed_line.specs.declared.entry.Entry.TheVariants.{Nothing, Setting as Settled, Shot}
use Rattle.typed_line.specs.Words.{uncommented, words_of}

-- ---- numbers
-- a decimal digit, `0` to `9`
abbrev pub digit : ℕ → Bool
digit b = leb 48 b && leb b 57

unfoldable pub digits_only : List ℕ → Bool
digits_only [] = true
digits_only (b ∷ s) = digit b && digits_only s

-- a number is decimal digits only, and at most 65,535; zeros may lead
unfoldable pub word_number : List ℕ → Result ℕ NumberError
word_number word = cond (digits_only word) (cond (leb (value_from 0 word) 65535) (Ok (value_from 0 word)) (Err TooLarge)) (Err NoDigit)

-- ---- the first word
-- `field`, `edge` and `grid` give a setting, `shot` adds a shot
unfoldable pub command_of : List ℕ → Result Command Mistake
command_of word =
    cond (same word (text "field")) (Ok (Set Field))
    (cond (same word (text "edge")) (Ok (Set Edge))
    (cond (same word (text "grid")) (Ok (Set Grid))
    (cond (same word (text "shot")) (Ok Shoot) (Err UnknownWord))))

-- ---- the line
-- the mistake of a line that has such a word in the place of a number
abbrev pub mistake_of : NumberError → Mistake
mistake_of NoDigit = NoNumber
mistake_of TooLarge = LargeNumber

-- what a number makes of a line, or the mistake that it is
abbrev pub on_number : Result ℕ NumberError → (ℕ → Result Entry Mistake) → Result Entry Mistake
on_number (Ok n) make = make n
on_number (Err e) make = Err (mistake_of e)

-- a setting has one number
unfoldable pub setting_of : Setting → List (List ℕ) → Result Entry Mistake
setting_of s [] = Err TooFewWords
setting_of s (n ∷ []) = on_number (word_number n) (λ a. Ok (Settled s a))
setting_of s (n ∷ m ∷ words) = Err TooManyWords

-- a shot has three numbers
unfoldable pub shot_of : List (List ℕ) → Result Entry Mistake
shot_of [] = Err TooFewWords
shot_of (x ∷ []) = Err TooFewWords
shot_of (x ∷ y ∷ []) = Err TooFewWords
shot_of (x ∷ y ∷ z ∷ []) = on_number (word_number x) (λ a. on_number (word_number y) (λ b. on_number (word_number z) (λ c. Ok (Shot a b c))))
shot_of (x ∷ y ∷ z ∷ w ∷ words) = Err TooManyWords

unfoldable pub commanded : Result Command Mistake → List (List ℕ) → Result Entry Mistake
commanded (Ok (Set s)) words = setting_of s words
commanded (Ok Shoot) words = shot_of words
commanded (Err m) words = Err m

-- a line without words says nothing
unfoldable pub entry_of : List (List ℕ) → Result Entry Mistake
entry_of [] = Ok Nothing
entry_of (word ∷ words) = commanded (command_of word) words

-- what a line says
abbrev pub line_entry : List ℕ → Result Entry Mistake
line_entry line = entry_of (words_of (uncommented line))

-- ---- the mistakes
-- a mistake in words
abbrev pub sentence : Mistake → List ℕ
sentence UnknownWord = text "the first word is not field, edge, grid or shot"
sentence TooFewWords = text "too few words; field, edge and grid have one number, shot has three"
sentence TooManyWords = text "too many words; field, edge and grid have one number, shot has three"
sentence NoNumber = text "a number is not of decimal digits only"
sentence LargeNumber = text "a number is above 65,535"
sentence SettingTwice = text "a line above gives this setting"
sentence TooManyShots = text "there are more than 4,096 shots"
sentence NoPlace = text "there is no place for this shot"
