-- The corners of a field are its corner points, each once, in rising order.
use mathlib.Core.Path.{◌≡◌, refl, sym, ◌∙◌, subst}
use mathlib.Core.Logic.{⊎_elim, inl, inr, ◌↔◌}
use mathlib.Core.Bool.{Bool, true, false, cond}
use mathlib.Core.List.Memᴰ
use mathlib.Core.List.{List, [], ◌∷◌, ◌++◌, Memᴰ}
use Prim.Native.Nat.{ℕ, zero, suc, ◌+◌, ◌-◌, ◌<◌}
use native.Mathlib.Nat.{zero-add, suc-add}
use native.Mathlib.Omega.{arith}
use Rattle.lattice.specs.Cells.{Cells}
use Rattle.lattice.specs.Pattern.{around, byte, corner}
use Rattle.ground.specs.Sums.{join}
use Rattle.lattice.specs.Listing.{Corner, here, corners, IsCorner, Precedes, All, Rising}

-- ---- properties of all corners of a list
pub all_map : (P Q : Corner → Type 0) → ((v : Corner) → P v → Q v) → (vs : List Corner) → All P vs → All Q vs
all_map P Q h [] a = tt
all_map P Q h (v ∷ vs) a = (h v a.0, all_map P Q h vs a.1)

module _ (P : Corner → Type 0) where
  all_append : (a b : List Corner) → All P a → All P b → All P (a ++ b)
  all_append [] b p q = q
  all_append (v ∷ a) b p q = (p.0, all_append a b p.1 q)

  all-at : {v : Corner} (vs : List Corner) → All P vs → Memᴰ v vs → P v
  all-at [] a m = absurd (Memᴰ.not-nil m)
  all-at (u ∷ vs) a m = ⊎_elim (λ e. subst P (sym e) a.0) (λ t. all-at vs a.1 t) (Memᴰ.cases_cons m)

  all_join : (n : ℕ) (f : ℕ → List Corner) → ((i : ℕ) → i < n → All P (f i)) → All P (join n f)
  unfolding join
  all_join zero f h = tt
  all_join (suc n) f h = all_append (join n f) (f n) (all_join n f (λ i l. h i (omega arith))) (h n (omega arith))

-- ---- rising order
rising-append : (a b : List Corner) → Rising a → Rising b → All (λ v. All (Precedes v) b) a → Rising (a ++ b)
rising-append [] b ra rb s = rb
rising-append (v ∷ a) b ra rb s = (all_append (Precedes v) a b ra.0 s.0, rising-append a b ra.1 rb s.1)

-- lists that rise, one after the other by a key, of corners alike in what comes before the key
rising-join : (Alike : Corner → Type 0) (key : Corner → ℕ)
    → ((v u : Corner) → Alike v → Alike u → key v < key u → Precedes v u)
    → (n : ℕ) (f : ℕ → List Corner) → ((i : ℕ) → All (λ v. Alike v × (key v ≡ i)) (f i)) → ((i : ℕ) → Rising (f i))
    → Rising (join n f)
unfolding join
rising-join Alike key before zero f at rise = tt
rising-join Alike key before (suc n) f at rise =
    rising-append (join n f) (f n) (rising-join Alike key before n f at rise) (rise n)
    (all_map Less (λ v. All (Precedes v) (f n)) (λ v a. all_map (λ u. Alike u × (key u ≡ n)) (Precedes v) (λ u b. before v u a.0 b.0 (omega (arith, a.1, b.1))) (f n) (at n)) (join n f)
    (all_join Less n f (λ i l. all_map (λ v. Alike v × (key v ≡ i)) Less (λ v a. (a.0, omega (arith, a.1))) (f i) (at i))))
  where
    Less : Corner → Type 0
    Less v = Alike v × (key v < n)

module _ (s : Cells) where
  abbrev listed : ℕ → ℕ → ℕ → Corner
  listed x y z = record { x = x; y = y; z = z; pattern = byte (around s x y z) }

  -- what holds of a point's record, if it is a corner, holds of all that is listed there; likewise of a line and of a plane
  module _ (P : Corner → Type 0) where
    all_here : (x y z : ℕ) → (corner (around s x y z) ≡ true → P (listed x y z)) → All P (here s x y z)
    unfolding here
    all_here x y z h = go (corner (around s x y z)) refl
      where
        go : (b : Bool) → corner (around s x y z) ≡ b → All P (cond b (listed x y z ∷ []) [])
        go true e = (h e, tt)
        go false e = tt

    all-line : (n x y : ℕ) → ((z : ℕ) → P (listed x y z)) → All P (join n (here s x y))
    all-line n x y h = all_join P n (here s x y) (λ z l. all_here x y z (λ e. h z))

    all-plane : (n x : ℕ) → ((y z : ℕ) → P (listed x y z)) → All P (join n λ y. join n (here s x y))
    all-plane n x h = all_join P n (λ y. join n (here s x y)) (λ y l. all-line n x y (h y))

  rising-here : (x y z : ℕ) → Rising (here s x y z)
  unfolding here
  rising-here x y z = go (corner (around s x y z))
    where
      go : (b : Bool) → Rising (cond b (listed x y z ∷ []) [])
      go true = (tt, tt)
      go false = tt

  pub corners-rising : (n : ℕ) → Rising (corners n s)
  unfolding corners
  corners-rising n =
      rising-join (λ v. Unit {0}) (λ v. v.x) (λ v u a b l. inl l) (suc n) (λ x. join (suc n) λ y. join (suc n) (here s x y))
      (λ x. all-plane (λ v. Unit {0} × (v.x ≡ x)) (suc n) x (λ y z. (tt, refl))) (λ x.
      rising-join (λ v. v.x ≡ x) (λ v. v.y) (λ v u a b l. inr (a ∙ sym b, inl l)) (suc n) (λ y. join (suc n) (here s x y))
      (λ y. all-line (λ v. (v.x ≡ x) × (v.y ≡ y)) (suc n) x y (λ z. (refl, refl))) (λ y.
      rising-join (λ v. (v.x ≡ x) × (v.y ≡ y)) (λ v. v.z) (λ v u a b l. inr (a.0 ∙ sym b.0, inr (a.1 ∙ sym b.1, l))) (suc n) (here s x y)
      (λ z. all_here (λ v. ((v.x ≡ x) × (v.y ≡ y)) × (v.z ≡ z)) x y z (λ e. ((refl, refl), refl))) (λ z. rising-here x y z)))

  -- ---- what is listed
  pub corners-are : (n : ℕ) → All (IsCorner n s) (corners n s)
  unfolding corners
  corners-are n =
      all_join (IsCorner n s) (suc n) (λ x. join (suc n) λ y. join (suc n) (here s x y)) (λ x lx.
      all_join (IsCorner n s) (suc n) (λ y. join (suc n) (here s x y)) (λ y ly.
      all_join (IsCorner n s) (suc n) (here s x y) (λ z lz.
      all_here (IsCorner n s) x y z (λ e. record { x_in = omega arith; y_in = omega arith; z_in = omega arith; weighs = e; pattern_is = refl }))))

member-join : {v : Corner} (k i : ℕ) (f : ℕ → List Corner) → Memᴰ v (f i) → Memᴰ v (join (k + suc i) f)
unfolding join
member-join zero i f m = rw zero-add (Memᴰ.append_right (join i f) m)
member-join (suc k) i f m = rw (suc-add k (suc i)) (Memᴰ.append_left (f (k + suc i)) (member-join k i f m))

member_below : {v : Corner} (n i : ℕ) (f : ℕ → List Corner) → i < n → Memᴰ v (f i) → Memᴰ v (join n f)
member_below {v} n i f l m = let e : n - suc i + suc i ≡ n = omega arith in subst (λ (k : ℕ). Memᴰ v (join k f)) e (member-join (n - suc i) i f m)

member-here : (s : Cells) (v : Corner) → corner (around s v.x v.y v.z) ≡ true → v.pattern ≡ byte (around s v.x v.y v.z) → Memᴰ v (here s v.x v.y v.z)
unfolding here
member-here s v e p = rw e (Memᴰ.head (λ i. record { x = v.x; y = v.y; z = v.z; pattern = p i }))

-- the corners of a field are the points of it whose weights are not all zero, with their patterns, and nothing else
pub corners-exactly : (n : ℕ) (s : Cells) (v : Corner) → Memᴰ v (corners n s) ↔ IsCorner n s v
unfolding corners
corners-exactly n s v = (
  (λ m. all-at (IsCorner n s) (corners n s) (corners-are s n) m),
  (λ c. member_below (suc n) v.x (λ x. join (suc n) λ y. join (suc n) (here s x y)) (omega (arith, c.x_in))
      (member_below (suc n) v.y (λ y. join (suc n) (here s v.x y)) (omega (arith, c.y_in))
      (member_below (suc n) v.z (here s v.x v.y) (omega (arith, c.z_in)) (member-here s v c.weighs c.pattern_is)))),
)
