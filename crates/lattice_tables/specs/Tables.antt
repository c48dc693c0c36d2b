-- The ten weights by name, and a table of one of them.
use Rattle.std.specs.Prelude.{◌≡◌, List, ℕ, ◌<◌, ℤ, pos, length, get_or}
use Rattle.lattice.specs.Pattern.{Pattern, of_byte, w, ax, ay, az, ex, ey, ez, ix, iy, iz}
use Rattle.lattice_tables.specs.declared.Weight.{Weight}
use Rattle.lattice_tables.specs.declared.Weight.TheVariants.{W, Ax, Ay, Az, Ex, Ey, Ez, Ix, Iy, Iz}

-- a weight by its name
abbrev pub weight_of : Weight → Pattern → ℤ
weight_of W = w
weight_of Ax = ax
weight_of Ay = ay
weight_of Az = az
weight_of Ex = ex
weight_of Ey = ey
weight_of Ez = ez
weight_of Ix = ix
weight_of Iy = iy
weight_of Iz = iz

-- a table of one weight: its value at each of the 256 patterns
pub record Weighs (f : Pattern → ℤ) (t : List ℤ) : Type 0 where
  pub long : length t ≡ 256
  pub entry : (p : ℕ) → p < 256 → get_or t p (pos 0) ≡ f (of_byte p)
