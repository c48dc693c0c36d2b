-- The line of a refusal: docs/SCOPE.md, the end of 'Jobs with known totals'.
use Rattle.std.specs.Prelude.{List, [], ◌∷◌, ◌++◌, ℕ}
use Rattle.refusals.specs.declared.Refusal.{Refusal}
use Rattle.refusals.specs.Refusals.{number_of, detail_of}
use Rattle.text_parts.specs.Text.{text}
use Rattle.text_parts.specs.Decimal.{decimal}

abbrev pub refused_word : List ℕ
refused_word = text "refused"

-- `refused`, the number and the detail, split by spaces, on one line
unfoldable pub refusal_line : ℕ → ℕ → List ℕ
refusal_line number detail = refused_word ++ (32 ∷ (decimal number ++ (32 ∷ (decimal detail ++ (10 ∷ [])))))

-- that of a refusal
abbrev pub refusal_text : Refusal → List ℕ
refusal_text r = refusal_line (number_of r) (detail_of r)
