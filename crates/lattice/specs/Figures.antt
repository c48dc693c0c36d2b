-- The figures of a solid: docs/SCOPE.md, 'Cells and totals' and 'Corner points'.
-- A figure is an index, with its count of cells and its term: a law of figures is said once over the index, and one more figure is one
-- constructor with its clauses. Counts are signed, so that a figure may be negative.
use Rattle.std.specs.Prelude.{ℕ, ℤ, pos}
use Rattle.lattice.specs.Cells.{Cells, volume, area, edge_length, inner_length}
use Rattle.lattice.specs.Pattern.{Term, volume_term, area_term, edge_term, inner_term}

pub data Figure : Type 0 where
  Volume Area EdgeLength InnerLength : Figure

-- its count of cells, in a field of side n
abbrev pub cell_count : Figure → ℕ → Cells → ℤ
cell_count Volume n s = pos (volume n s)
cell_count Area n s = pos (area n s)
cell_count EdgeLength n s = pos (edge_length n s)
cell_count InnerLength n s = pos (inner_length n s)

-- what a point of pattern p adds to its corner sum
abbrev pub term : Figure → Term
term Volume = volume_term
term Area = area_term
term EdgeLength = edge_term
term InnerLength = inner_term

-- no term of a point in a field of 1,024 is larger than 4 · 1,024³
abbrev pub largest_term : ℕ
largest_term = 4294967296
