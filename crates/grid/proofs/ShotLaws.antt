-- The lowest interval that a span meets, and the width of the intervals of a valid list.
use Rattle.std.proofs.Common.{◌≡◌, ℕ, zero, suc, ◌+◌, ◌-◌, ◌*◌, ◌/◌, ◌<◌, ◌≤◌, true, div-lt_iff_lt-mul, add-mul, mul-pos, one-mul, mul-zero, div-mul-le_self, arith, le-leb}
use native.Mathlib.Nat.{div-add-mod, lt-div-mul-add}
use Rattle.job.specs.Job.{Job, Valid}
use Rattle.grid.specs.Grid.{meets}

-- ---- the lowest interval that a span meets

module _ (s c e : ℕ) (h : 1 ≤ s) where
  pub lowest : ℕ
  lowest = (c - 1) / s

  pub lowest-meets : meets s lowest c e ≡ true
  unfolding meets lowest
  lowest-meets =
      rw (le-leb ((c - 1) / s * s) (c + e) (omega (arith, div-mul-le_self (c - 1) s)), le-leb c (((c - 1) / s + 1) * s) (omega (arith, lt-div-mul-add {a = c - 1} {b = s} h, add-mul ((c - 1) / s) 1 s, one-mul s)))

  pub lowest-below : (G : ℕ) → 1 ≤ G → c + e ≤ G * s → lowest < G
  unfolding lowest
  lowest-below G l k = (div-lt_iff_lt-mul {k = s} {x = c - 1} {y = G} h).1 (omega (arith, mul-pos {m = G} {n = s} l h))

-- ---- a valid list

module _ {job : Job} (v : Valid job) where
  open job use {field as F, grid as G}

  pub width-times : G * (F / G) ≡ F
  width-times = omega (arith, div-add-mod F G, v.grid_divides)

  pub width-least : 1 ≤ F / G
  width-least = one (F / G) width-times
    where
      one : (q : ℕ) → G * q ≡ F → 1 ≤ q
      one zero e = absurd (omega (arith, mul-zero G, v.field_least))
      one (suc q) e = omega arith
