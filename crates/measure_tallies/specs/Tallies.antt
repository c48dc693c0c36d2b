-- What a lattice point counts: the cell, the three unit squares and the three unit edges above it, and itself if it is a corner.
use Rattle.std.specs.Prelude.{true, not, ℕ, ◌+◌, ◌≤◌, eqb}
use Rattle.ground.specs.Numbers.{bit}
use Rattle.lattice.specs.Cells.{square, OfFour, edge, inner_edge}
use Rattle.lattice.specs.Pattern.{Pattern, corner}
use Rattle.lattice_sums.specs.declared.sums.Totals.{Totals}

-- what the three unit edges above a point count
abbrev pub edges_above : OfFour → Pattern → ℕ
edges_above count p = count (λ b c. p true b c) + count (λ a c. p a true c) + count (λ a b. p a b true)

-- what a point of pattern p counts
unfoldable pub at_pattern : Pattern → Totals
at_pattern p = record {
  volume = bit (p true true true);
  area = square (λ a. p a true true) + square (λ b. p true b true) + square (λ c. p true true c);
  edge = edges_above edge p;
  inner = edges_above inner_edge p;
  corners = bit (corner p);
}

-- a unit square by the bits of its two cells
abbrev pub differs : ℕ → ℕ → ℕ
differs low high = bit (not (eqb low high))

abbrev pub nothing : Totals
nothing = record { volume = 0; area = 0; edge = 0; inner = 0; corners = 0 }

unfoldable pub plus : Totals → Totals → Totals
plus t u = record {
  volume = t.volume + u.volume;
  area = t.area + u.area;
  edge = t.edge + u.edge;
  inner = t.inner + u.inner;
  corners = t.corners + u.corners;
}

-- no figure is above k
pub record AtMost (k : ℕ) (t : Totals) : Type 0 where
  pub volume_in : t.volume ≤ k
  pub area_in : t.area ≤ k
  pub edge_in : t.edge ≤ k
  pub inner_in : t.inner ≤ k
  pub corners_in : t.corners ≤ k

-- the most that a figure may be before a point is added: 2⁶². What is left up to 2⁶⁴ is more than a point counts
abbrev pub before_point : ℕ
before_point = 4611686018427387904
