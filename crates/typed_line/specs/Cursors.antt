-- What the reading of a line goes by: its next word, and what stands behind it.
use Rattle.std.specs.Prelude.{◌≡◌, List, [], ◌∷◌, ℕ, Option, MatchOption, Result, Ok, Err, MatchResult}
use Rattle.std.specs.Borrow.{Bor}
use Rattle.typed_line.specs.declared.entry.Mistake.{Mistake}
use Rattle.typed_line.specs.declared.entry.Mistake.TheVariants.{TooFewWords, TooManyWords}
use Rattle.typed_line.specs.Words.{words_of}

-- the first word of a line and the words behind it, or that there is none
abbrev pub NextWord : List ℕ → Option (Bor (List ℕ) × Bor (List ℕ)) → Type 0
NextWord line r = MatchOption r (words_of line ≡ []) (λ w. words_of line ≡ w.0.now ∷ words_of w.1.now)

-- the same where a word has to be there
abbrev pub OneWord : List ℕ → Result (Bor (List ℕ) × Bor (List ℕ)) Mistake → Type 0
OneWord line r = MatchResult r (λ w. words_of line ≡ w.0.now ∷ words_of w.1.now) (λ m. (words_of line ≡ []) × (m ≡ TooFewWords))

-- the word of a line that has to have just one
abbrev pub only_word : List (List ℕ) → Result (List ℕ) Mistake
only_word [] = Err TooFewWords
only_word (word ∷ []) = Ok word
only_word (word ∷ more ∷ words) = Err TooManyWords

abbrev pub OnlyWord : List ℕ → Result (Bor (List ℕ)) Mistake → Type 0
OnlyWord line r = MatchResult r (λ w. only_word (words_of line) ≡ Ok w.now) (λ m. only_word (words_of line) ≡ Err m)
