-- The lines of a quote: docs/SCOPE.md, the end of 'Jobs with known totals'.
use Rattle.std.specs.Prelude.{List, ◌++◌, ℕ}
use Rattle.text_parts.specs.Text.{text}
use Rattle.text_parts.specs.Decimal.{line}
use Rattle.lattice_sums.specs.declared.sums.Totals.{Totals}

-- the names
abbrev pub volume_word : List ℕ
volume_word = text "volume"

abbrev pub area_word : List ℕ
area_word = text "area"

abbrev pub edge_word : List ℕ
edge_word = text "edge"

abbrev pub inner_word : List ℕ
inner_word = text "inner"

abbrev pub corners_word : List ℕ
corners_word = text "corners"

-- one name and decimal value a line
unfoldable pub quote_lines : Totals → List ℕ
quote_lines t =
    line volume_word t.volume ++ (line area_word t.area ++ (line edge_word t.edge ++ (line inner_word t.inner ++ line corners_word t.corners)))
