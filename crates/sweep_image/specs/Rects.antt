-- Rectangles of cells: how many cells they have, which of them two share, and what is left of one around another in it.
use Rattle.std.specs.Prelude.{Bool, ◌||◌, ℕ, ◌*◌, ◌-◌, min, max, leb}
use Rattle.sweep_image.specs.declared.Rect.{Rect}
use Rattle.sweep_image.specs.declared.Side.{Side}
use Rattle.sweep_image.specs.declared.Side.TheVariants.{Below, Above, Before, After}

-- a rectangle has no cell
abbrev pub empty_rect : Rect → Bool
empty_rect r = leb r.high r.low || leb r.to r.from

-- how many cells it has
abbrev pub size_of : Rect → ℕ
size_of r = (r.high - r.low) * (r.to - r.from)

-- the cells that two rectangles share
abbrev pub shared_rect : Rect → Rect → Rect
shared_rect r s =
    record { low = max r.low s.low; high = min r.high s.high; from = max r.from s.from; to = min r.to s.to }

-- what is left of r around c: below and above it on y; in its rows, before and after it on z
abbrev pub part_of : Rect → Rect → Side → Rect
part_of r c Below = record { low = r.low; high = c.low; from = r.from; to = r.to }
part_of r c Above = record { low = c.high; high = r.high; from = r.from; to = r.to }
part_of r c Before = record { low = c.low; high = c.high; from = r.from; to = c.from }
part_of r c After = record { low = c.low; high = c.high; from = c.to; to = r.to }
