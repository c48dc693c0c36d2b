-- The eight cells about a lattice point and what they weigh: docs/SCOPE.md, 'Corner points'.
-- A Bool says below (false) or above (true) the point; a pattern takes one for each axis.
use Rattle.std.specs.Prelude.{Bool, true, false, not, ◌||◌, List, [], ◌∷◌, ℕ, ◌+◌, ◌*◌, ◌/◌, ◌%◌, ◌^◌, eqb, ℤ, pos, negsuc, ◌+ℤ◌, ◌-ℤ◌, ◌*ℤ◌}
use Rattle.ground.specs.Numbers.{bit}
use Rattle.lattice.specs.Cells.{Cells, below, up, OfTwo, OfFour, square, edge, inner_edge}

abbrev pub Pattern : Type 0
Pattern = Bool → Bool → Bool → Bool

-- the pattern of the point (x, y, z)
abbrev pub around : Cells → ℕ → ℕ → ℕ → Pattern
around s x y z a b c = below s (up a x) (up b y) (up c z)

-- the pattern as a byte: bit 4a + 2b + c is set if the cell there is covered
abbrev pub place : Bool → Bool → Bool → ℕ
place a b c = 4 * bit a + 2 * bit b + bit c

unfoldable pub byte : Pattern → ℕ
byte p = each λ a. each λ b. each λ c. 2 ^ place a b c * bit (p a b c)
  where
    each : (Bool → ℕ) → ℕ
    each f = f false + f true

unfoldable pub of_byte : ℕ → Pattern
of_byte n a b c = eqb (n / 2 ^ place a b c % 2) 1

-- + below and - above the point
abbrev pub sign : Bool → ℤ
sign false = pos 1
sign true = negsuc 0

abbrev pub both : (Bool → ℤ) → ℤ
both f = f false +ℤ f true

-- over covered cells, the product of three signs
unfoldable pub w : Pattern → ℤ
w p = both λ a. both λ b. both λ c. sign a *ℤ sign b *ℤ sign c *ℤ pos (bit (p a b c))

-- over the four unit squares at the point in the plane across an axis, what they count times the product of their signs on the other two
module _ (count : OfTwo) (p : Pattern) where
  abbrev pub across_x : ℤ
  across_x = both λ b. both λ c. sign b *ℤ sign c *ℤ pos (count (λ a. p a b c))

  abbrev pub across_y : ℤ
  across_y = both λ a. both λ c. sign a *ℤ sign c *ℤ pos (count (λ b. p a b c))

  abbrev pub across_z : ℤ
  across_z = both λ a. both λ b. sign a *ℤ sign b *ℤ pos (count (λ c. p a b c))

unfoldable pub ax : Pattern → ℤ
ax = across_x square

unfoldable pub ay : Pattern → ℤ
ay = across_y square

unfoldable pub az : Pattern → ℤ
az = across_z square

-- the count of the unit edge below the point on an axis, minus that of the one above
module _ (count : OfFour) (p : Pattern) where
  abbrev pub along_x : ℤ
  along_x = pos (count (λ b c. p false b c)) -ℤ pos (count (λ b c. p true b c))

  abbrev pub along_y : ℤ
  along_y = pos (count (λ a c. p a false c)) -ℤ pos (count (λ a c. p a true c))

  abbrev pub along_z : ℤ
  along_z = pos (count (λ a b. p a b false)) -ℤ pos (count (λ a b. p a b true))

unfoldable pub ex : Pattern → ℤ
ex = along_x edge

unfoldable pub ey : Pattern → ℤ
ey = along_y edge

unfoldable pub ez : Pattern → ℤ
ez = along_z edge

unfoldable pub ix : Pattern → ℤ
ix = along_x inner_edge

unfoldable pub iy : Pattern → ℤ
iy = along_y inner_edge

unfoldable pub iz : Pattern → ℤ
iz = along_z inner_edge

abbrev pub weights : Pattern → List ℤ
weights p = w p ∷ ax p ∷ ay p ∷ az p ∷ ex p ∷ ey p ∷ ez p ∷ ix p ∷ iy p ∷ iz p ∷ []

-- a corner point: some weight is not zero
abbrev pub is_zero : ℤ → Bool
is_zero (pos n) = eqb n 0
is_zero (negsuc n) = false

unfoldable pub some_nonzero : List ℤ → Bool
some_nonzero [] = false
some_nonzero (k ∷ ks) = not (is_zero k) || some_nonzero ks

unfoldable pub corner : Pattern → Bool
corner p = some_nonzero (weights p)

-- what a point of pattern p adds to the four corner sums
abbrev pub Term : Type 0
Term = ℕ → ℕ → ℕ → Pattern → ℤ

abbrev pub volume_term : Term
volume_term x y z p = pos (x * y * z) *ℤ w p

abbrev pub area_term : Term
area_term x y z p = pos (y * z) *ℤ ax p +ℤ pos (x * z) *ℤ ay p +ℤ pos (x * y) *ℤ az p

abbrev pub edge_term : Term
edge_term x y z p = pos x *ℤ ex p +ℤ pos y *ℤ ey p +ℤ pos z *ℤ ez p

abbrev pub inner_term : Term
inner_term x y z p = pos x *ℤ ix p +ℤ pos y *ℤ iy p +ℤ pos z *ℤ iz p
