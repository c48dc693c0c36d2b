-- Over 0, 1, .. n - 1: sums of natural numbers, sums of signed ones, and lists one after the other.
use Rattle.std.specs.Prelude.{List, [], ◌++◌, ℕ, zero, suc, ◌+◌, ℤ, pos, ◌+ℤ◌}

unfoldable pub total : ℕ → (ℕ → ℕ) → ℕ
total zero f = 0
total (suc n) f = total n f + f n

unfoldable pub sum : ℕ → (ℕ → ℤ) → ℤ
sum zero f = pos 0
sum (suc n) f = sum n f +ℤ f n

unfoldable pub join : {A : Type 0} → ℕ → (ℕ → List A) → List A
join zero f = []
join (suc n) f = join n f ++ f n
