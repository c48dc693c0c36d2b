-- The eight jobs marked P in docs/SCOPE.md, 'Jobs with known totals'.
use Rattle.std.specs.Prelude.{List, [], ◌∷◌, ℕ}
use Rattle.lattice.specs.Figures.{Figure, Volume, Area, EdgeLength, InnerLength}
use Rattle.lattice.specs.Shots.{Shot}

-- a job in a field of side 8 with the totals that the table states
pub record KnownJob : Type 0 where
  pub shots : List Shot
  pub volume : ℕ
  pub area : ℕ
  pub edge : ℕ
  pub inner : ℕ
  pub corners : ℕ

-- the figure that the table states
abbrev pub stated : Figure → KnownJob → ℕ
stated Volume j = j.volume
stated Area j = j.area
stated EdgeLength j = j.edge
stated InnerLength j = j.inner

abbrev pub cube : ℕ → ℕ → ℕ → ℕ → Shot
cube e a b c = record { x = a; y = b; z = c; edge = e }

-- the 26 cells about (1, 1, 1)
abbrev pub shell : List Shot
shell =
    cube 1 0 0 0 ∷ cube 1 0 0 1 ∷ cube 1 0 0 2 ∷ cube 1 0 1 0 ∷ cube 1 0 1 1 ∷ cube 1 0 1 2 ∷ cube 1 0 2 0 ∷ cube 1 0 2 1 ∷ cube 1 0 2 2
    ∷ cube 1 1 0 0 ∷ cube 1 1 0 1 ∷ cube 1 1 0 2 ∷ cube 1 1 1 0 ∷ cube 1 1 1 2 ∷ cube 1 1 2 0 ∷ cube 1 1 2 1 ∷ cube 1 1 2 2
    ∷ cube 1 2 0 0 ∷ cube 1 2 0 1 ∷ cube 1 2 0 2 ∷ cube 1 2 1 0 ∷ cube 1 2 1 1 ∷ cube 1 2 1 2 ∷ cube 1 2 2 0 ∷ cube 1 2 2 1 ∷ cube 1 2 2 2 ∷ []

unfoldable pub known_jobs : List KnownJob
known_jobs =
    record { shots = []; volume = 0; area = 0; edge = 0; inner = 0; corners = 0 }
    ∷ record { shots = cube 2 1 1 1 ∷ []; volume = 8; area = 24; edge = 24; inner = 0; corners = 8 }
    ∷ record { shots = cube 2 1 1 1 ∷ cube 2 1 1 1 ∷ []; volume = 8; area = 24; edge = 24; inner = 0; corners = 8 }
    ∷ record { shots = cube 2 0 0 0 ∷ cube 2 2 0 0 ∷ []; volume = 16; area = 40; edge = 32; inner = 0; corners = 8 }
    ∷ record { shots = cube 2 0 0 0 ∷ cube 2 2 2 0 ∷ []; volume = 16; area = 48; edge = 48; inner = 0; corners = 14 }
    ∷ record { shots = cube 2 0 0 0 ∷ cube 2 2 2 2 ∷ []; volume = 16; area = 48; edge = 48; inner = 0; corners = 15 }
    ∷ record { shots = cube 2 0 0 0 ∷ cube 2 1 1 1 ∷ []; volume = 15; area = 42; edge = 42; inner = 6; corners = 20 }
    ∷ record { shots = shell; volume = 26; area = 60; edge = 36; inner = 12; corners = 16 }
    ∷ []
