-- Summation by parts on any of the three axes at once. Each axis has a mode: along (true) it, a point counts by its coordinate and the
-- function by its fall, and what is left counts the places 1 to n; across (false) it, every point from 0 to n counts once.
use mathlib.Core.Path.{◌≡◌, refl, ◌∙◌, ap, fun_ext}
use mathlib.Core.Bool.{Bool, true, false}
use Prim.Native.Nat.{ℕ, suc, ◌*◌, ◌≤◌}
use native.Mathlib.Omega.{arith}
use lib.IntN.{ℤ, pos, ◌-ℤ◌, ◌*ℤ◌, +ℤ_invr}
use Rattle.ground.specs.Sums.{total, sum}
use Rattle.ground.proofs.Integers.{*ℤ-dist, *ℤ-neg, *ℤ-assoc, one-*ℤ}
use Rattle.ground.proofs.SumLaws.{sum-ext, sum-sub, sum-scale, sum-total, fall, sum-by-parts}

abbrev pub scale : Bool → ℕ → ℕ
scale true x = x
scale false x = 1

abbrev pub fall_if : Bool → (ℕ → ℤ) → ℕ → ℤ
fall_if true f x = fall f x
fall_if false f x = f x

-- the sum over the points 0 to n, each by its scale
unfoldable pub scaled : Bool → ℕ → (ℕ → ℤ) → ℤ
scaled m n f = sum (suc n) (λ x. pos (scale m x) *ℤ f x)

-- what is counted on an axis: the unit intervals 1 to n along it, the points 0 to n across it
abbrev pub counted : Bool → ℕ → (ℕ → ℤ) → ℤ
counted true n f = sum n (λ i. f (suc i))
counted false n f = sum (suc n) f

abbrev pub countedℕ : Bool → ℕ → (ℕ → ℕ) → ℕ
countedℕ true n f = total n (λ i. f (suc i))
countedℕ false n f = total (suc n) f

counted-ext : (m : Bool) (n : ℕ) {f g : ℕ → ℤ} → ((i : ℕ) → f i ≡ g i) → counted m n f ≡ counted m n g
counted-ext m n h = ap (counted m n) (fun_ext h)

counted-total : (m : Bool) (n : ℕ) (f : ℕ → ℕ) → counted m n (λ i. pos (f i)) ≡ pos (countedℕ m n f)
counted-total true n f = sum-total n (λ i. f (suc i))
counted-total false n f = sum-total (suc n) f

-- an operator on functions that keeps differences
abbrev Keeps : (A : Type 0) → ((A → ℤ) → ℤ) → Type 0
Keeps A op = (f g : A → ℤ) → op (λ t. f t -ℤ g t) ≡ op f -ℤ op g

scaled-keeps : (m : Bool) (n : ℕ) → Keeps ℕ (scaled m n)
unfolding scaled
scaled-keeps m n f g =
    sum-ext (suc n) (λ x. simp (*ℤ-dist, *ℤ-neg))
    ∙ sum-sub (suc n) (λ x. pos (scale m x) *ℤ f x) (λ x. pos (scale m x) *ℤ g x)

both-keep : (p q : (ℕ → ℤ) → ℤ) → Keeps ℕ p → Keeps ℕ q → Keeps (ℕ × ℕ) (λ h. p λ y. q λ z. h (y, z))
both-keep p q kp kq f g =
    ap p (fun_ext λ y. kq (λ z. f (y, z)) (λ z. g (y, z))) ∙ kp (λ y. q λ z. f (y, z)) (λ y. q λ z. g (y, z))

keeps-zero : {A : Type 0} (op : (A → ℤ) → ℤ) → Keeps A op → (f : A → ℤ) → ((t : A) → f t ≡ pos 0) → op f ≡ pos 0
keeps-zero op keeps f h = ap op (fun_ext (λ t. simp h)) ∙ keeps f f ∙ +ℤ_invr (op f)

-- one axis, under such an operator
scaled-fall : (m : Bool) (n : ℕ) {A : Type 0} (op : (A → ℤ) → ℤ) → Keeps A op → (f : ℕ → A → ℤ) → ((t : A) → f (suc n) t ≡ pos 0)
    → scaled m n (λ x. op (λ t. fall_if m (λ i. f i t) x)) ≡ counted m n (λ x. op (f x))
unfolding scaled
scaled-fall true n op keeps f h =
    sum-ext (suc n) (λ x. ap (λ v. pos x *ℤ v) (keeps (f x) (f (suc x))))
    ∙ sum-by-parts n (λ x. op (f x)) (keeps-zero op keeps (f (suc n)) h)
scaled-fall false n op keeps f h = sum-ext (suc n) (λ x. one-*ℤ (op (f x)))

-- a function of the lattice points that vanishes outside the field
abbrev pub Vanishes : ℕ → (ℕ → ℕ → ℕ → ℤ) → Type 0
Vanishes n g = (x y z : ℕ) → ((x ≤ n) × (y ≤ n) × (z ≤ n) → ⊥) → g x y z ≡ pos 0

fall_if-zero : (m : Bool) (f : ℕ → ℤ) (x : ℕ) → ((i : ℕ) → f i ≡ pos 0) → fall_if m f x ≡ pos 0
fall_if-zero true f x h = simp h
fall_if-zero false f x h = h x

module _ (a b c : Bool) (n : ℕ) (g : ℕ → ℕ → ℕ → ℤ) where
  -- the falls of g on the axes whose mode is along
  abbrev pub falls : ℕ → ℕ → ℕ → ℤ
  falls x y z = fall_if a (λ x. fall_if b (λ y. fall_if c (g x y) z) y) x

  factors : (x y : ℕ) (f : ℕ → ℤ)
      → sum (suc n) (λ z. pos (scale a x * scale b y * scale c z) *ℤ f z) ≡ pos (scale a x) *ℤ (pos (scale b y) *ℤ scaled c n f)
  unfolding scaled
  factors x y f =
      sum-ext (suc n) (λ z. *ℤ-assoc (pos (scale a x * scale b y)) (pos (scale c z)) (f z) ∙ *ℤ-assoc (pos (scale a x)) (pos (scale b y)) (pos (scale c z) *ℤ f z))
      ∙ sum-scale (suc n) (pos (scale a x)) (λ z. pos (scale b y) *ℤ (pos (scale c z) *ℤ f z))
      ∙ ap (λ v. pos (scale a x) *ℤ v) (sum-scale (suc n) (pos (scale b y)) (λ z. pos (scale c z) *ℤ f z))

  nested : (sum (suc n) λ x. sum (suc n) λ y. sum (suc n) λ z. pos (scale a x * scale b y * scale c z) *ℤ falls x y z)
      ≡ (scaled a n λ x. scaled b n λ y. scaled c n λ z. falls x y z)
  unfolding scaled
  nested = sum-ext (suc n) λ x.
      sum-ext (suc n) (λ y. factors x y (falls x y))
      ∙ sum-scale (suc n) (pos (scale a x)) (λ y. pos (scale b y) *ℤ scaled c n (falls x y))

  pub by_parts : Vanishes n g
      → (sum (suc n) λ x. sum (suc n) λ y. sum (suc n) λ z. pos (scale a x * scale b y * scale c z) *ℤ falls x y z)
      ≡ (counted a n λ x. counted b n λ y. counted c n λ z. g x y z)
  by_parts v =
      nested
      ∙ scaled-fall a n (λ h. scaled b n λ y. scaled c n λ z. h (y, z)) (both-keep (scaled b n) (scaled c n) (scaled-keeps b n) (scaled-keeps c n))
      (λ x t. fall_if b (λ y. fall_if c (g x y) t.1) t.0)
      (λ t. fall_if-zero b (λ y. fall_if c (g (suc n) y) t.1) t.0 (λ y. fall_if-zero c (g (suc n) y) t.1 (λ z. v (suc n) y z (λ k. omega arith))))
      ∙ counted-ext a n (λ x.
      scaled-fall b n (scaled c n) (scaled-keeps c n) (λ y z. fall_if c (g x y) z) (λ z. fall_if-zero c (g x (suc n)) z (λ z. v x (suc n) z (λ k. omega arith)))
      ∙ counted-ext b n (λ y.
      scaled-fall c n (λ (h : Unit {0} → ℤ). h tt) (λ f g. refl) (λ z t. g x y z) (λ t. v x y (suc n) (λ k. omega arith))))

-- the same for counts
pub by-parts-count : (a b c : Bool) (n : ℕ) (g : ℕ → ℕ → ℕ → ℕ) → Vanishes n (λ x y z. pos (g x y z))
    → (sum (suc n) λ x. sum (suc n) λ y. sum (suc n) λ z. pos (scale a x * scale b y * scale c z) *ℤ falls a b c n (λ x y z. pos (g x y z)) x y z)
    ≡ pos (countedℕ a n λ x. countedℕ b n λ y. countedℕ c n λ z. g x y z)
by-parts-count a b c n g v =
    by_parts a b c n (λ x y z. pos (g x y z)) v
    ∙ counted-ext a n (λ x. counted-ext b n (λ y. counted-total c n (g x y)) ∙ counted-total b n (λ y. countedℕ c n (g x y)))
    ∙ counted-total a n (λ x. countedℕ b n λ y. countedℕ c n (g x y))
