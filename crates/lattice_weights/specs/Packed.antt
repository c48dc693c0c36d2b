-- The ten weights of every pattern, put into one table.
use Rattle.std.specs.Prelude.{◌≡◌, List, ℕ, ◌+◌, ◌*◌, ◌<◌, ℤ, pos, length, get_or}
use Rattle.lattice.specs.Pattern.{Pattern, of_byte, weights}
use Rattle.lattice_tables.specs.declared.Weight.{Weight}
use Rattle.lattice_tables.specs.declared.Weight.TheVariants.{W, Ax, Ay, Az, Ex, Ey, Ez, Ix, Iy, Iz}

-- weight j of the ten, counted from 0
abbrev pub weight : ℕ → Pattern → ℤ
weight j p = get_or (weights p) j (pos 0)

-- which of the ten a named weight is
abbrev pub place : Weight → ℕ
place W = 0
place Ax = 1
place Ay = 2
place Az = 3
place Ex = 4
place Ey = 5
place Ez = 6
place Ix = 7
place Iy = 8
place Iz = 9

-- a table of the first n weights: sixteen places a pattern, and weight j at place j of them
pub record FirstWeights (n : ℕ) (t : List ℤ) : Type 0 where
  pub long : length t ≡ 4096
  pub entry : (p j : ℕ) → p < 256 → j < n → get_or t (16 * p + j) (pos 0) ≡ weight j (of_byte p)

-- a table of all ten
abbrev pub Packed : List ℤ → Type 0
Packed = FirstWeights 10
