-- Two cubes of edge 2 that overlap in one cell, and a cube twice: what each shot is credited with, by computing it.
use mathlib.Core.Path.{◌≡◌, refl}
use mathlib.Core.List.{[], ◌∷◌}
use Rattle.ground.specs.Sums.{total, join}
use Rattle.lattice.specs.Cells.{volume}
use Rattle.ground.specs.Numbers.{up_to}
use Rattle.grid_cover.specs.Cover.{shot_covers, first, first_covering, lowest_covering}
use Rattle.crediting.specs.Credits.{credit_of, credits_of}

overlap : credits_of 8 2 (0 ∷ 0 ∷ 0 ∷ 1 ∷ 1 ∷ 1 ∷ []) ≡ 8 ∷ 7 ∷ []
unfolding credits_of credit_of volume total join lowest_covering first_covering first shot_covers up_to
overlap = refl

twice : credits_of 8 2 (1 ∷ 1 ∷ 1 ∷ 1 ∷ 1 ∷ 1 ∷ []) ≡ 8 ∷ 0 ∷ []
unfolding credits_of credit_of volume total join lowest_covering first_covering first shot_covers up_to
twice = refl
