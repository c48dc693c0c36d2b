-- Numbers of two digits: a * n + b with b < n.
use mathlib.Core.Path.{◌≡◌, ◌∙◌}
use Prim.Native.Nat.{ℕ, ◌+◌, ◌*◌, ◌/◌, ◌%◌, ◌<◌}
use native.Mathlib.Nat.{mul-le-mul_right, add-mul, one-mul, add-zero, mul-add-div_right, mul-add-mod_self_right, mod-eq_of_lt, div-eq_of_lt}
use native.Mathlib.Omega.{arith}

module _ (n a b : ℕ) (h : b < n) where
  pub digit-high : (a * n + b) / n ≡ a
  digit-high = mul-add-div_right (omega arith) a b ∙ (rw (div-eq_of_lt h) (add-zero a))

  pub digit_low : (a * n + b) % n ≡ b
  digit_low = mul-add-mod_self_right a n b ∙ mod-eq_of_lt h

  pub digits-below : (m : ℕ) → a < m → a * n + b < m * n
  digits-below m k = omega (arith, mul-le-mul_right {m = a + 1} {n = m} n (omega arith), add-mul a 1 n, one-mul n)
