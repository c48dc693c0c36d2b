-- One turn of each loop: a column of a line, a line of a plane.
use mathlib.Core.Path.{◌≡◌, ◌∙◌, ap}
use mathlib.Core.List.{List}
use Prim.Native.Nat.{ℕ, ◌+◌, ◌-◌, ◌*◌, ◌<◌, ◌≤◌}
use native.Mathlib.Omega.{arith}
use lib.Bits.{bit_or}
use lib.ListN.{length, get_or}
use Rattle.lattice.specs.Cells.{line_points, plane_points, field_points}
use Rattle.ground.specs.Sums.{join}
use Rattle.lattice_sums.specs.CornerSums.{Room, RoomFor}
use Rattle.sweep_words.specs.Words.{Lowest, WithoutLowest}
use Rattle.sweep_image.specs.Images.{columns, word_at, rows}
use Rattle.sweep_names.specs.Names.{Tells}
use Rattle.sweep_tally.specs.Found.{Found, found}
use Rattle.sweep_columns.specs.Columns.{column_at, Inside}
use Rattle.sweep_columns.proofs.Takes.{room-left}
use Rattle.sweep_columns.proofs.Visits.{Names, Visited, next-in, visit-to, visit-more}
use Rattle.sweep_points.specs.Points.{Layers, PlaneFound, line_at}
use Rattle.sweep_points.proofs.PlaneLaws.{inside, plane-is, takes-columns, takes-lines}
use Rattle.sweep_points.proofs.LineLaws.{names-columns}

-- ---- a column
module _ (n x y : ℕ) (hn : n ≤ 1024) (hy : y ≤ n) {l u names : List ℕ} (a : Layers n x l u) (t : Tells n l u names) {m j : ℕ} {f g : Found}
    (d : Visited (columns n) (bit_or (get_or names y 0) (get_or names (y + 1) 0)) (column_at x y l u) m f g) (k : Lowest m j) where
  columns-named : Names (columns n) (bit_or (get_or names y 0) (get_or names (y + 1) 0)) (column_at x y l u)
  columns-named = names-columns n x y t (omega arith)

  column-in : j < columns n
  column-in = next-in columns-named d k

  pub column-few : j ≤ 16
  column-few = omega (arith, column-in)

  pub column-held : ((j + 1) * rows ≤ length l) × ((j + 1) * rows ≤ length u)
  column-held = (omega (arith, column-in, a.shown.lower.size), omega (arith, column-in, a.shown.upper.size))

  pub column-inside : Inside j (word_at l j y) (word_at l j (y + 1)) (word_at u j y) (word_at u j (y + 1))
  column-inside = inside n x a.shown y j (omega arith) column-in hn

  pub column-room : x ≤ 1024 → RoomFor (line_points 1024) f.sums → RoomFor (line_points 1024 - 63 * j) g.sums
  column-room hx r =
      room-left f (join j (column_at x y l u)) (field_points 1024 - (line_points 1024 - 63 * j)) (visit-to columns-named d k)
      (takes-columns n x hn hx a y hy j (omega (arith, column-in))) r (omega (arith, column-few))

  pub column-next : {r : ℕ} {h : Found} → WithoutLowest m r → h ≡ found g (column_at x y l u j)
      → Visited (columns n) (bit_or (get_or names y 0) (get_or names (y + 1) 0)) (column_at x y l u) r f h
  column-next v e = visit-more columns-named d k v e

-- ---- a line
module _ (n x : ℕ) (hn : n ≤ 1024) (hx : x ≤ n) {l u : List ℕ} (a : Layers n x l u) (f : Found) {g : Found} where
  pub line-room : (y : ℕ) → y ≤ n → RoomFor (plane_points 1024) f.sums → g ≡ found f (join y (line_at n x l u))
      → RoomFor (line_points 1024) g.sums
  line-room y h r e =
      room-left f (join y (line_at n x l u)) (field_points 1024 - line_points 1024) e
      (takes-lines n x hn (omega arith) a y (omega arith)) r (omega arith)

  pub plane-found : {k : ℕ} → Room f.sums k → g ≡ found f (join (n + 1) (line_at n x l u)) → PlaneFound n x l u f g
  plane-found r e = record {
    is = λ s d. e ∙ ap (found f) (plane-is n x d hn);
    room = room-left f (join (n + 1) (line_at n x l u)) (f.sums.corners + plane_points 1024) e
        (takes-lines n x hn (omega arith) a (n + 1) (omega arith)) own (omega arith);
  }
    where
      own : Room f.sums f.sums.corners
      own = record { sum_within = r.sum_within; few = omega arith }
