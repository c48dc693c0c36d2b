-- Which shots reach a line of lattice points.
use Rattle.std.specs.Prelude.{Bool, ◌&&◌, List, ℕ, ◌+◌, leb}
use Rattle.job.specs.Job.{x_at, y_at, edge_at}

-- the e units from a hold the place x of the axis, ends included
abbrev pub reaches_place : ℕ → ℕ → ℕ → Bool
reaches_place e a x = leb a x && leb x (a + e)

-- the closed cube of shot number i reaches the line of points at (x, y), on those two axes
abbrev pub reaches_line : ℕ → List ℕ → ℕ → ℕ → ℕ → Bool
reaches_line E coords x y i = reaches_place (edge_at E coords i) (x_at coords i) x && reaches_place (edge_at E coords i) (y_at coords i) y
