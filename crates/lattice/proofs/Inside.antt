-- A solid that lies within a field has no cell past the field's sides; the points outside have the empty pattern, and are no corners.
use mathlib.Core.Path.{◌≡◌, refl, ◌∙◌, ap, fun_ext}
use mathlib.Core.Bool.{Bool, true, false}
use Prim.Native.Nat.{ℕ, zero, suc, ◌≤◌}
use native.Mathlib.Omega.{arith}
use lib.Dec.{T}
use Rattle.ground.proofs.Bools.{is_false}
use Rattle.lattice.specs.Cells.{Cells, Within, below, up}
use Rattle.lattice.specs.Pattern.{Pattern, around, corner}
use Rattle.lattice.specs.Axes.{x-axis}
use Rattle.lattice.proofs.PatternLaws.{still-no-corner}

abbrev pub empty : Pattern
empty a b c = false

up_le : (b : Bool) {n x : ℕ} → up b x ≤ n → x ≤ n
up_le false h = h
up_le true h = omega arith

module _ (n : ℕ) (s : Cells) (within : Within n s) where
  ends-inside : (x y z : ℕ) → T (below s x y z) → (x ≤ n) × (y ≤ n) × (z ≤ n)
  ends-inside zero y z t = absurd t
  ends-inside (suc i) zero z t = absurd t
  ends-inside (suc i) (suc j) zero t = absurd t
  ends-inside (suc i) (suc j) (suc k) t = within i j k t

  pub past : (x y z : ℕ) → ((x ≤ n) × (y ≤ n) × (z ≤ n) → ⊥) → below s x y z ≡ false
  past x y z h = is_false (below s x y z) (λ t. h (ends-inside x y z t))

  pub outside : (x y z : ℕ) → ((x ≤ n) × (y ≤ n) × (z ≤ n) → ⊥) → around s x y z ≡ empty
  outside x y z h = fun_ext λ a. fun_ext λ b. fun_ext λ c.
      past (up a x) (up b y) (up c z) (λ k. h (up_le a k.0, up_le b k.1, up_le c k.2))

  -- so no point outside the field weighs anything
  pub outside-no-corner : (x y z : ℕ) → ((x ≤ n) × (y ≤ n) × (z ≤ n) → ⊥) → corner (around s x y z) ≡ false
  outside-no-corner x y z h = ap corner (outside x y z h) ∙ still-no-corner x-axis empty (λ b c. refl)
