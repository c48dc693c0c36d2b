-- Patterns and their bytes, the range of the weights, and which patterns are corners: those that change across every axis.
use mathlib.Core.Path.{◌≡◌, refl, ◌∙◌, ap, subst, fun_ext}
use mathlib.Core.Bool.{Bool, true, false, ◌&&◌, ◌||◌, not, and-false}
use mathlib.Core.List.{List, [], ◌∷◌}
use Prim.Native.Nat.{ℕ, zero, suc, zero-le, ◌<◌, ◌≤◌}
use lib.Dec.{T, eqb, eqb→eq, leb, leb→le}
use lib.IntN.{ℤ, pos, negsuc, nat_abs}
use lib.ListN.{get_or}
use Rattle.ground.specs.Sums.{total}
use Rattle.ground.specs.Numbers.{bit}
use Rattle.lattice.specs.Pattern.{Pattern, byte, of_byte, w, ax, ay, az, ex, ey, ez, ix, iy, iz, weights, is_zero, some_nonzero, corner}
use Rattle.lattice.specs.Axes.{Axis, x-axis, y-axis, z-axis}
use Rattle.ground.proofs.Bools.{same, same_at, same_refl, and_left, and_right}
use Rattle.ground.proofs.Cases.{each, each_at, each_below-at}
use Rattle.lattice.proofs.Cases.{each_pattern-at}

-- ---- the pattern byte
pub of_byte-byte : (p : Pattern) → of_byte (byte p) ≡ p
unfolding byte of_byte
of_byte-byte p = fun_ext λ a. fun_ext λ b. fun_ext λ c.
    same_at (of_byte (byte p) a b c) (p a b c)
    (each_at (λ c. same (of_byte (byte p) a b c) (p a b c))
    (each_at (λ b. each λ c. same (of_byte (byte p) a b c) (p a b c))
    (each_at (λ a. each λ b. each λ c. same (of_byte (byte p) a b c) (p a b c))
    (each_pattern-at (λ p. each λ a. each λ b. each λ c. same (of_byte (byte p) a b c) (p a b c)) tt p) a) b) c)

pub byte-of_byte : (n : ℕ) → n < 256 → byte (of_byte n) ≡ n
unfolding byte of_byte
byte-of_byte n h = eqb→eq (byte (of_byte n)) n (each_below-at (λ n. eqb (byte (of_byte n)) n) 256 tt n h)

-- ---- the range of the weights
-- w is within -4 and 4, the weights of area and edge length within -2 and 2, those of inner length within -1 and 1
abbrev pub largest : List ℕ
largest = 4 ∷ 2 ∷ 2 ∷ 2 ∷ 2 ∷ 2 ∷ 2 ∷ 1 ∷ 1 ∷ 1 ∷ []

abbrev in_range : List ℤ → List ℕ → Bool
in_range (k ∷ ks) (m ∷ ms) = leb (nat_abs k) m && in_range ks ms
in_range (k ∷ ks) [] = false
in_range [] ms = true

range_at : (ks : List ℤ) (ms : List ℕ) → T (in_range ks ms) → (i : ℕ) → nat_abs (get_or ks i (pos 0)) ≤ get_or ms i 0
range_at [] ms t i = zero-le
range_at (k ∷ ks) [] t i = absurd t
range_at (k ∷ ks) (m ∷ ms) t zero = leb→le (nat_abs k) m (and_left (leb (nat_abs k) m) (in_range ks ms) t)
range_at (k ∷ ks) (m ∷ ms) t (suc i) = range_at ks ms (and_right (leb (nat_abs k) m) (in_range ks ms) t) i

-- weight i of the ten, counted from 0
pub weight-small : (i : ℕ) (p : Pattern) → nat_abs (get_or (weights p) i (pos 0)) ≤ get_or largest i 0
unfolding w ax ay az ex ey ez ix iy iz
weight-small i p = range_at (weights p) largest (each_pattern-at (λ p. in_range (weights p) largest) tt p) i

-- ---- a point that is no corner weighs nothing
zero-at : (k : ℤ) (b : Bool) → (not (is_zero k) || b) ≡ false → k ≡ pos 0
zero-at (pos n) b e = ap pos (eqb→eq n 0 (go (eqb n 0) e))
  where
    go : (t : Bool) → (not t || b) ≡ false → T t
    go true e = tt
    go false e = subst T e tt
zero-at (negsuc n) b e = absurd (subst T e tt)

rest_at : (t b : Bool) → (not t || b) ≡ false → b ≡ false
rest_at true b e = e
rest_at false b e = absurd (subst T e tt)

none-nonzero : (ks : List ℤ) → some_nonzero ks ≡ false → (i : ℕ) → get_or ks i (pos 0) ≡ pos 0
unfolding some_nonzero
none-nonzero [] e i = refl
none-nonzero (k ∷ ks) e zero = zero-at k (some_nonzero ks) e
none-nonzero (k ∷ ks) e (suc i) = none-nonzero ks (rest_at (is_zero k) (some_nonzero ks) e) i

pub no-corner-zero : (p : Pattern) → corner p ≡ false → (i : ℕ) → get_or (weights p) i (pos 0) ≡ pos 0
unfolding corner
no-corner-zero p = none-nonzero (weights p)

-- ---- the corners are the patterns that change across every axis
-- the pattern with the axis first
abbrev turned : Axis → Pattern → Pattern
turned x-axis p a b c = p a b c
turned y-axis p a b c = p b a c
turned z-axis p a b c = p b c a

abbrev pub changes : Axis → Pattern → Bool
changes axis p = not (each λ b. each λ c. same (turned axis p false b c) (turned axis p true b c))

pub corner-changes : (p : Pattern) → corner p ≡ (changes x-axis p && (changes y-axis p && changes z-axis p))
unfolding corner some_nonzero w ax ay az ex ey ez ix iy iz
corner-changes p =
    same_at (corner p) (changes x-axis p && (changes y-axis p && changes z-axis p))
    (each_pattern-at (λ p. same (corner p) (changes x-axis p && (changes y-axis p && changes z-axis p))) tt p)

-- they are 218 of the 256
pub corner-many : total 256 (λ n. bit (corner (of_byte n))) ≡ 218
unfolding total of_byte corner some_nonzero w ax ay az ex ey ez ix iy iz
corner-many = refl

-- a pattern that does not change across one axis is no corner
abbrev pub Still : Axis → Pattern → Type 0
Still axis p = (b c : Bool) → turned axis p true b c ≡ turned axis p false b c

still-changes : (axis : Axis) (p : Pattern) → Still axis p → changes axis p ≡ false
still-changes axis p h = rw (same_refl (h false false), same_refl (h false true), same_refl (h true false), same_refl (h true true))

pub still-no-corner : (axis : Axis) (p : Pattern) → Still axis p → corner p ≡ false
still-no-corner x-axis p h = corner-changes p ∙ ap (λ b. b && (changes y-axis p && changes z-axis p)) (still-changes x-axis p h)
still-no-corner y-axis p h =
    corner-changes p ∙ ap (λ b. changes x-axis p && (b && changes z-axis p)) (still-changes y-axis p h) ∙ and-false (changes x-axis p)
still-no-corner z-axis p h =
    corner-changes p ∙ ap (λ b. changes x-axis p && (changes y-axis p && b)) (still-changes z-axis p h)
    ∙ ap (λ b. changes x-axis p && b) (and-false (changes y-axis p)) ∙ and-false (changes x-axis p)
