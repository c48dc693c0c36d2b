-- Over all lattice points of a field the weighted sums are the totals: volume, area by any count of two cells, length by any count of four.
use mathlib.Core.Path.{◌≡◌, refl, sym, ◌∙◌, ap, ap₂}
use mathlib.Core.Bool.{Bool, true, false}
use Prim.Native.Nat.{ℕ, suc, ◌+◌, ◌*◌}
use native.Mathlib.Nat.{one-mul, mul-one}
use lib.IntN.{ℤ, pos, ◌+ℤ◌, ◌-ℤ◌, ◌*ℤ◌}
use Rattle.ground.specs.Sums.{sum}
use Rattle.ground.specs.Numbers.{bit}
use Rattle.lattice.specs.Cells.{Cells, Within, below, up, volume, OfTwo, area_by, square, OfFour, length_by, edge, inner_edge}
use Rattle.lattice.specs.Pattern.{Pattern, around, sign, both, w, ax, ay, az, ex, ey, ez, ix, iy, iz, across_x, across_y, across_z, along_x, along_y, along_z, volume_term}
use Rattle.lattice.specs.Figures.{Figure, Volume, Area, EdgeLength, InnerLength, cell_count, term}
use Rattle.ground.proofs.Integers.{one-*ℤ, minus-one-*ℤ, *ℤ-dist, *ℤ-assoc}
use Rattle.ground.proofs.SumLaws.{sum-ext, sum-add}
use Rattle.lattice.proofs.ByParts.{scale, falls, countedℕ, by-parts-count, Vanishes}
use Rattle.lattice.proofs.Inside.{empty, outside}

-- the sum over the lattice points of a field
abbrev pub points : ℕ → (ℕ → ℕ → ℕ → ℤ) → ℤ
points n f = sum (suc n) λ x. sum (suc n) λ y. sum (suc n) λ z. f x y z

points-ext : (n : ℕ) {f g : ℕ → ℕ → ℕ → ℤ} → ((x y z : ℕ) → f x y z ≡ g x y z) → points n f ≡ points n g
points-ext n h = sum-ext (suc n) λ x. sum-ext (suc n) λ y. sum-ext (suc n) λ z. h x y z

points-add : (n : ℕ) (f g : ℕ → ℕ → ℕ → ℤ) → (points n λ x y z. f x y z +ℤ g x y z) ≡ points n f +ℤ points n g
points-add n f g =
    sum-ext (suc n) (λ x.
    sum-ext (suc n) (λ y. sum-add (suc n) (f x y) (g x y))
    ∙ sum-add (suc n) (λ y. sum (suc n) (f x y)) (λ y. sum (suc n) (g x y)))
    ∙ sum-add (suc n) (λ x. sum (suc n) λ y. sum (suc n) (f x y)) (λ x. sum (suc n) λ y. sum (suc n) (g x y))

-- three sums over points that are counts
points-three : (n : ℕ) (f g h : ℕ → ℕ → ℕ → ℤ) {a b c : ℕ} → points n f ≡ pos a → points n g ≡ pos b → points n h ≡ pos c
    → (points n λ x y z. f x y z +ℤ g x y z +ℤ h x y z) ≡ pos (a + b + c)
points-three n f g h p q r =
    points-add n (λ x y z. f x y z +ℤ g x y z) h
    ∙ ap₂ ◌+ℤ◌ (points-add n f g ∙ ap₂ ◌+ℤ◌ p q) r

-- the product of signs takes differences, below less above
abbrev pub signed : (Bool → ℤ) → ℤ
signed f = f false -ℤ f true

both-ext : {f g : Bool → ℤ} → ((a : Bool) → f a ≡ g a) → both f ≡ both g
both-ext h = ap₂ ◌+ℤ◌ (h false) (h true)

both-scale : (v : ℤ) (f : Bool → ℤ) → (both λ a. v *ℤ f a) ≡ v *ℤ both f
both-scale v f = sym (*ℤ-dist v (f false) (f true))

signs-one : (g : Bool → ℤ) → (both λ a. sign a *ℤ g a) ≡ signed g
signs-one g = ap₂ ◌+ℤ◌ (one-*ℤ (g false)) (minus-one-*ℤ (g true))

signs-two : (g : Bool → Bool → ℤ) → (both λ a. both λ b. sign a *ℤ sign b *ℤ g a b) ≡ (signed λ a. signed λ b. g a b)
signs-two g =
    both-ext (λ a.
    both-ext (λ b. *ℤ-assoc (sign a) (sign b) (g a b))
    ∙ both-scale (sign a) (λ b. sign b *ℤ g a b)
    ∙ ap (λ v. sign a *ℤ v) (signs-one (g a)))
    ∙ signs-one (λ a. signed (g a))

pub signs-three : (g : Bool → Bool → Bool → ℤ)
    → (both λ a. both λ b. both λ c. sign a *ℤ sign b *ℤ sign c *ℤ g a b c) ≡ (signed λ a. signed λ b. signed λ c. g a b c)
signs-three g =
    both-ext (λ a.
    both-ext (λ b.
    both-ext (λ c. regroup (sign a) (sign b) (sign c) (g a b c))
    ∙ both-scale (sign a) (λ c. sign b *ℤ sign c *ℤ g a b c))
    ∙ both-scale (sign a) (λ b. both λ c. sign b *ℤ sign c *ℤ g a b c)
    ∙ ap (λ v. sign a *ℤ v) (signs-two (g a)))
    ∙ signs-one (λ a. signed λ b. signed λ c. g a b c)
  where
    regroup : (a b c v : ℤ) → a *ℤ b *ℤ c *ℤ v ≡ a *ℤ (b *ℤ c *ℤ v)
    regroup a b c v = ap (λ t. t *ℤ v) (*ℤ-assoc a b c) ∙ *ℤ-assoc a (b *ℤ c) v

-- a point sum whose factor and weight are those of summation by parts with the modes a, b, c
by-modes : (a b c : Bool) (n : ℕ) (g : ℕ → ℕ → ℕ → ℕ) → Vanishes n (λ x y z. pos (g x y z)) → (factor : ℕ → ℕ → ℕ → ℕ) (weight : ℕ → ℕ → ℕ → ℤ)
    → ((x y z : ℕ) → factor x y z ≡ scale a x * scale b y * scale c z)
    → ((x y z : ℕ) → weight x y z ≡ falls a b c n (λ x y z. pos (g x y z)) x y z)
    → (points n λ x y z. pos (factor x y z) *ℤ weight x y z) ≡ pos (countedℕ a n λ x. countedℕ b n λ y. countedℕ c n λ z. g x y z)
by-modes a b c n g v factor weight p q = points-ext n (λ x y z. ap₂ (λ k m. pos k *ℤ m) (p x y z) (q x y z)) ∙ by-parts-count a b c n g v

module _ (n : ℕ) (s : Cells) (within : Within n s) where
  -- a count of the pattern that gives nothing at the empty pattern vanishes outside the field
  vanishes : (count : Pattern → ℕ) → count empty ≡ 0 → Vanishes n (λ x y z. pos (count (around s x y z)))
  vanishes count none x y z h = ap pos (ap count (outside n s within x y z h) ∙ none)

  volume-points : (points n λ x y z. volume_term x y z (around s x y z)) ≡ pos (volume n s)
  unfolding volume w
  volume-points =
      by-modes true true true n (λ x y z. bit (below s x y z)) (vanishes (λ p. bit (p false false false)) refl)
      (λ x y z. x * y * z) (λ x y z. w (around s x y z)) (λ x y z. refl) (λ x y z. signs-three (λ a b c. pos (bit (around s x y z a b c))))

  -- the area by any count that gives nothing where neither cell is covered
  area-points : (count : OfTwo) → count (λ a. false) ≡ 0
      → (points n λ x y z. pos (y * z) *ℤ across_x count (around s x y z) +ℤ pos (x * z) *ℤ across_y count (around s x y z) +ℤ pos (x * y) *ℤ across_z count (around s x y z))
      ≡ pos (area_by count n s)
  unfolding area_by
  area-points count none =
      points-three n (λ x y z. pos (y * z) *ℤ across_x count (around s x y z)) (λ x y z. pos (x * z) *ℤ across_y count (around s x y z)) (λ x y z. pos (x * y) *ℤ across_z count (around s x y z))
      (by-modes false true true n (λ x y z. count (λ a. below s (up a x) y z)) (vanishes (λ p. count (λ a. p a false false)) none)
      (λ x y z. y * z) (λ x y z. across_x count (around s x y z)) (λ x y z. sym (rw one-mul)) (λ x y z. signs-two (λ b c. pos (count (λ a. around s x y z a b c)))))
      (by-modes true false true n (λ x y z. count (λ b. below s x (up b y) z)) (vanishes (λ p. count (λ b. p false b false)) none)
      (λ x y z. x * z) (λ x y z. across_y count (around s x y z)) (λ x y z. sym (rw mul-one)) (λ x y z. signs-two (λ a c. pos (count (λ b. around s x y z a b c)))))
      (by-modes true true false n (λ x y z. count (λ c. below s x y (up c z))) (vanishes (λ p. count (λ c. p false false c)) none)
      (λ x y z. x * y) (λ x y z. across_z count (around s x y z)) (λ x y z. sym (rw mul-one)) (λ x y z. signs-two (λ a b. pos (count (λ c. around s x y z a b c)))))

  -- the length by any count that gives nothing where no cell is covered
  length-points : (count : OfFour) → count (λ a b. false) ≡ 0
      → (points n λ x y z. pos x *ℤ along_x count (around s x y z) +ℤ pos y *ℤ along_y count (around s x y z) +ℤ pos z *ℤ along_z count (around s x y z))
      ≡ pos (length_by count n s)
  unfolding length_by
  length-points count none =
      points-three n (λ x y z. pos x *ℤ along_x count (around s x y z)) (λ x y z. pos y *ℤ along_y count (around s x y z)) (λ x y z. pos z *ℤ along_z count (around s x y z))
      (by-modes true false false n (λ x y z. count (λ b c. below s x (up b y) (up c z))) (vanishes (λ p. count (λ b c. p false b c)) none)
      (λ x y z. x) (λ x y z. along_x count (around s x y z)) (λ x y z. sym (simp mul-one)) (λ x y z. refl))
      (by-modes false true false n (λ x y z. count (λ a c. below s (up a x) y (up c z))) (vanishes (λ p. count (λ a c. p a false c)) none)
      (λ x y z. y) (λ x y z. along_y count (around s x y z)) (λ x y z. sym (simp (one-mul, mul-one))) (λ x y z. refl))
      (by-modes false false true n (λ x y z. count (λ a b. below s (up a x) (up b y) z)) (vanishes (λ p. count (λ a b. p a b false)) none)
      (λ x y z. z) (λ x y z. along_z count (around s x y z)) (λ x y z. sym (simp one-mul)) (λ x y z. refl))

  -- over all points each figure is the sum of its terms
  pub figure-points : (f : Figure) → (points n λ x y z. term f x y z (around s x y z)) ≡ cell_count f n s
  unfolding ax ay az ex ey ez ix iy iz
  figure-points Volume = volume-points
  figure-points Area = area-points square refl
  figure-points EdgeLength = length-points edge refl
  figure-points InnerLength = length-points inner_edge refl
