-- Sizes of the numbers by which a grid cell is counted.
use Prim.Native.Nat.{ℕ, ◌+◌, ◌*◌, ◌/◌, ◌≤◌, ◌<◌}
use native.Mathlib.Nat.{mul-le-mul, div-le_self}
use native.Mathlib.Omega.{arith}
use mathlib.Core.Path.{◌≡◌, ◌∙◌, ap}

pub product-most : {a n : ℕ} → a ≤ 4294901760 → n < 65536 → a * n ≤ 281466386841600
product-most {a} {n} h k = omega (arith, mul-le-mul {n₁ = a} {m₁ = n} {n₂ = 4294901760} {m₂ = 65535} h (omega arith))

pub slab-most : {slab : ℕ} (n s i : ℕ) → slab ≡ 0 * n + i / s → i < 65536 → slab ≤ 65535
slab-most n s i e h = omega (arith, e, div-le_self i s)

pub number-most : {a n d : ℕ} (s : ℕ) → a ≤ 65535 → n < 65536 → d < 65536 → a * n + d / s ≤ 4294901760
number-most {a} {n} {d} s h k l = omega (arith, mul-le-mul {n₁ = a} {m₁ = n} {n₂ = 65535} {m₂ = 65535} h (omega arith), div-le_self d s)

-- slab, row and cell, one after the other
pub number_is : {slab row r : ℕ} (n s i j k : ℕ) → slab ≡ 0 * n + i / s → row ≡ slab * n + j / s → r ≡ row * n + k / s → r ≡ (i / s * n + j / s) * n + k / s
number_is n s i j k a b c = c ∙ ap (λ m. m * n + k / s) (b ∙ ap (λ m. m * n + j / s) (a ∙ zero))
  where
    zero : 0 * n + i / s ≡ i / s
    zero = omega arith
