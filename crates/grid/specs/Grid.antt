-- The uniform grid index as a function of a list: docs/SCOPE.md, 'The grid index'.
-- An axis of side F is cut into G intervals of width F / G; the grid cell (gx, gy, gz) has the number (gx * G + gy) * G + gz.
use Rattle.std.specs.Prelude.{◌≡◌, ℕ, ◌+◌, ◌-◌, ◌*◌, ◌/◌, ◌%◌, ◌≤◌, Bool, ◌&&◌, cond, List, [], ◌∷◌, ◌++◌, length, take, drop, nat_le, eqb, slice_index, slice_index_or}
use Rattle.ground.specs.Sums.{total, join}
use Rattle.ground.specs.Numbers.{bit, up_to, those}
use Rattle.lattice.specs.Shots.{Shot}
use Rattle.job.specs.Job.{Job, shot, shot_count, x_at, y_at, z_at, edge_at, Valid}
use Rattle.grid.specs.declared.intervals.Axis.{Axis}
use Rattle.grid.specs.declared.intervals.Axis.TheVariants.{X, Y, Z}

-- interval g of width s, with both its ends, shares a point with the e units from c, with both their ends
unfoldable pub meets : ℕ → ℕ → ℕ → ℕ → Bool
meets s g c e = nat_le (g * s) (c + e) && nat_le c ((g + 1) * s)

-- the closed box of a grid cell shares a point with the closed cube of a shot
abbrev pub touches : ℕ → ℕ → ℕ → ℕ → Shot → Bool
touches s gx gy gz t = meets s gx t.x t.edge && (meets s gy t.y t.edge && meets s gz t.z t.edge)

-- the same by the number of the grid cell
abbrev pub touches_cell : ℕ → ℕ → ℕ → Shot → Bool
touches_cell F G cell t = touches (F / G) (cell / G / G) (cell / G % G) (cell % G) t

-- the shots that pass a test, by their numbers, rising
abbrev pub shots_that : (Shot → Bool) → Job → List ℕ
shots_that f job = those (λ i. f (shot job i)) (up_to (shot_count job.coords))

-- the axis of a number: 0 is x, 1 is y, and any other is z
abbrev pub axis_of : ℕ → Axis
axis_of n = cond (eqb n 0) X (cond (eqb n 1) Y Z)

-- the coordinate of shot number i on an axis
abbrev pub on_axis : Axis → List ℕ → ℕ → ℕ
on_axis X coords i = x_at coords i
on_axis Y coords i = y_at coords i
on_axis Z coords i = z_at coords i

-- shot number i meets interval g of an axis
abbrev pub meets_on : Axis → ℕ → ℕ → ℕ → List ℕ → ℕ → Bool
meets_on axis s g E coords i = meets s g (on_axis axis coords i) (edge_at E coords i)

-- how many grid cells there are
abbrev pub grid_cells : Job → ℕ
grid_cells job = job.grid * job.grid * job.grid

-- the run of a grid cell: the shots that belong to it
unfoldable pub run_of : Job → ℕ → List ℕ
run_of job cell = shots_that (touches_cell job.field job.grid cell) job

-- where the first n runs of a series start, counted from the first run entry
unfoldable pub starts : (ℕ → List ℕ) → ℕ → List ℕ
starts run n = join n λ cell. length (join cell run) ∷ []

-- the starting places of the runs, the last being the number of pairs; then the runs
unfoldable pub index_of : Job → List ℕ
index_of job = starts (run_of job) (grid_cells job + 1) ++ join (grid_cells job) (run_of job)

-- pairs of a grid cell and a shot that belongs to it
unfoldable pub pairs : Job → ℕ
pairs job = total (grid_cells job) λ cell. total (shot_count job.coords) λ i. bit (touches_cell job.field job.grid cell (shot job i))

-- the entries that the index needs
unfoldable pub need : Job → ℕ
need job = grid_cells job + 1 + pairs job

-- how many of the G intervals of width s a span meets
abbrev pub span_of : ℕ → ℕ → ℕ → ℕ → ℕ
span_of G s c e = total G λ g. bit (meets s g c e)

-- how many grid cells shot number i belongs to
abbrev pub pairs_of : Job → ℕ → ℕ
pairs_of job i = total (grid_cells job) λ cell. bit (touches_cell job.field job.grid cell (shot job i))

-- the shots that touch slab gx: those that belong to some grid cell (gx, gy, gz)
abbrev pub touches_slab : ℕ → ℕ → Shot → Bool
touches_slab s gx t = meets s gx t.x t.edge

unfoldable pub slab_of : Job → ℕ → List ℕ
slab_of job gx = shots_that (touches_slab (job.field / job.grid) gx) job

-- the shots that touch row number line = gx * G + gy: those that belong to some grid cell (gx, gy, gz)
unfoldable pub row_of : Job → ℕ → List ℕ
row_of job line = shots_that (λ t. meets (job.field / job.grid) (line / job.grid) t.x t.edge && meets (job.field / job.grid) (line % job.grid) t.y t.edge) job

-- the number of the grid cell that holds the unit cell (i, j, k)
abbrev pub holding : ℕ → ℕ → ℕ → ℕ → ℕ → ℕ
holding F G i j k = (i / (F / G) * G + j / (F / G)) * G + k / (F / G)

-- a valid list whose index stands in the work slice, which has anything after it
pub record Holds (job : Job) (work : List ℕ) : Type 0 where
  pub valid : Valid job
  pub rest : List ℕ
  pub is : work ≡ index_of job ++ rest

-- the runs of the grid cells from first on and before last, as they stand in a slice that begins with the starting places of this many cells
unfoldable pub between : List ℕ → ℕ → ℕ → ℕ → List ℕ
between work cells first last = take (cells + 1 + slice_index work last - (cells + 1 + slice_index work first)) (drop (cells + 1 + slice_index work first) work)

-- these starting places are in the slice, in order, and so are the runs between them
pub record Starts (work : List ℕ) (cells first last : ℕ) : Type 0 where
  pub rising : first ≤ last
  pub known : last ≤ cells
  pub order : slice_index_or work first 0 ≤ slice_index work last
  pub within : cells + 1 + slice_index work last ≤ length work
