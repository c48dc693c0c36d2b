-- How large the terms of a point are: in a field of 1,024 no term is larger than 2³².
use Prim.Native.Nat.{ℕ, ◌*◌, ◌≤◌}
use native.Mathlib.Nat.{mul-le-mul, le_trans, le_of_eq}
use native.Mathlib.Omega.{arith}
use lib.IntN.{ℤ, pos, nat_abs, ◌+ℤ◌, ◌*ℤ◌}
use Rattle.lattice.specs.Pattern.{Pattern, w, ax, ay, az, ex, ey, ez, ix, iy, iz}
use Rattle.lattice.specs.Figures.{Figure, Volume, Area, EdgeLength, InnerLength, term, largest_term}
use Rattle.ground.proofs.Integers.{nat_abs-add, nat_abs_mul}
use Rattle.lattice.proofs.PatternLaws.{weight-small}

-- ---- products
pub two-small : (x y : ℕ) → x ≤ 1024 → y ≤ 1024 → x * y ≤ 1048576
two-small x y hx hy = mul-le-mul hx hy

pub three-small : (x y z : ℕ) → x ≤ 1024 → y ≤ 1024 → z ≤ 1024 → x * y * z ≤ 1073741824
three-small x y z hx hy hz = mul-le-mul (two-small x y hx hy) hz

pub scaled_small : (a b n : ℕ) (v : ℤ) → n ≤ a → nat_abs v ≤ b → nat_abs (pos n *ℤ v) ≤ a * b
scaled_small a b n v hn hv = le_trans (le_of_eq (nat_abs_mul (pos n) v)) (mul-le-mul hn hv)

-- l · u + m · v + n · w, where all are small
module _ (l m n : ℕ) (u v w : ℤ) (hl : l ≤ 1048576) (hm : m ≤ 1048576) (hn : n ≤ 1048576) (hu : nat_abs u ≤ 2) (hv : nat_abs v ≤ 2) (hw : nat_abs w ≤ 2) where
  pub sum-of-two : nat_abs (pos l *ℤ u +ℤ pos m *ℤ v) ≤ 4194304
  sum-of-two = omega (arith, nat_abs-add (pos l *ℤ u) (pos m *ℤ v), scaled_small 1048576 2 l u hl hu, scaled_small 1048576 2 m v hm hv)

  pub sum-of-three : nat_abs (pos l *ℤ u +ℤ pos m *ℤ v +ℤ pos n *ℤ w) ≤ largest_term
  sum-of-three = omega (arith, nat_abs-add (pos l *ℤ u +ℤ pos m *ℤ v) (pos n *ℤ w), sum-of-two, scaled_small 1048576 2 n w hn hw)

-- ---- the terms of a point
pub term-small : (f : Figure) (x y z : ℕ) (p : Pattern) → x ≤ 1024 → y ≤ 1024 → z ≤ 1024 → nat_abs (term f x y z p) ≤ largest_term
term-small Volume x y z p hx hy hz = scaled_small 1073741824 4 (x * y * z) (w p) (three-small x y z hx hy hz) (weight-small 0 p)
term-small Area x y z p hx hy hz =
    sum-of-three (y * z) (x * z) (x * y) (ax p) (ay p) (az p) (two-small y z hy hz) (two-small x z hx hz) (two-small x y hx hy) (weight-small 1 p) (weight-small 2 p) (weight-small 3 p)
term-small EdgeLength x y z p hx hy hz = sum-of-three x y z (ex p) (ey p) (ez p) (omega arith) (omega arith) (omega arith) (weight-small 4 p) (weight-small 5 p) (weight-small 6 p)
term-small InnerLength x y z p hx hy hz =
    sum-of-three x y z (ix p) (iy p) (iz p) (omega arith) (omega arith) (omega arith)
    (omega (arith, weight-small 7 p)) (omega (arith, weight-small 8 p)) (omega (arith, weight-small 9 p))
