-- How a text is cut: into lines, without their comments, and into words. A text is a list of bytes, ASCII codes.
use Rattle.std.specs.Prelude.{Bool, not, cond, ◌||◌, List, [], ◌∷◌, ◌++◌, ℕ, ◌-◌, eqb, length, take, drop}

-- the bytes before the first that passes the test
unfoldable pub before : (ℕ → Bool) → List ℕ → List ℕ
before p [] = []
before p (b ∷ s) = cond (p b) [] (b ∷ before p s)

-- a line ends with a newline, which the last may lack
abbrev pub newline : ℕ → Bool
newline b = eqb b 10

-- a comment begins with `#`
abbrev pub hash : ℕ → Bool
hash b = eqb b 35

-- words are separated by spaces, tabs and carriage returns
abbrev pub blank : ℕ → Bool
blank b = eqb b 32 || (eqb b 9 || eqb b 13)

-- a byte of a word
abbrev pub inked : ℕ → Bool
inked b = not (blank b)

-- what is left of a line past the blanks in front of its first word
abbrev pub past_blanks : List ℕ → List ℕ
past_blanks line = drop (length (before inked line)) line

-- the lines of a text, where `line` is what stands before it in its first line. What follows the last newline is a line too:
-- it has no words where the text ends with that newline
unfoldable pub lines_from : List ℕ → List ℕ → List (List ℕ)
lines_from line [] = line ∷ []
lines_from line (b ∷ s) = cond (newline b) (line ∷ lines_from [] s) (lines_from (line ++ (b ∷ [])) s)

abbrev pub lines_of : List ℕ → List (List ℕ)
lines_of text = lines_from [] text

-- a line without its comment
abbrev pub uncommented : List ℕ → List ℕ
uncommented line = before hash line

-- a word that has ended, and the words after it; where two blanks meet there is no word between them
abbrev pub ended : List ℕ → List (List ℕ) → List (List ℕ)
ended [] words = words
ended (b ∷ word) words = (b ∷ word) ∷ words

-- the words of a line, where `word` is what stands before it of its first word
unfoldable pub words_from : List ℕ → List ℕ → List (List ℕ)
words_from word [] = ended word []
words_from word (b ∷ s) = cond (blank b) (ended word (words_from [] s)) (words_from (word ++ (b ∷ [])) s)

abbrev pub words_of : List ℕ → List (List ℕ)
words_of line = words_from [] line

-- the bytes from one place up to another
abbrev pub part : List ℕ → ℕ → ℕ → List ℕ
part s start end = take (end - start) (drop start s)
