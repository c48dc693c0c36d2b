-- Sums of figures: one point, line or plane more, and how large they can get.
use mathlib.Core.Path.{◌≡◌, refl, sym}
use Prim.Native.Nat.{ℕ, zero, suc, ◌+◌, ◌*◌, ◌≤◌, ◌<◌}
use native.Mathlib.Nat.{add_assoc, add-zero, add-suc, zero-mul, suc-mul}
use native.Mathlib.Numerals.{add-one}
use native.Mathlib.Omega.{arith}
use Rattle.lattice.specs.Cells.{Cells}
use Rattle.lattice.specs.Pattern.{Pattern, around}
use Rattle.lattice_sums.specs.declared.sums.Totals.{Totals}
use Rattle.measure_tallies.specs.Tallies.{at_pattern, nothing, plus, AtMost}
use Rattle.measure_cells.specs.Points.{sum_to, line_to, plane_to, field_to, before_line, before_plane}
use Rattle.measure_tallies.proofs.TallyLaws.{pattern-most}

plus_assoc : (t u v : Totals) → plus (plus t u) v ≡ plus t (plus u v)
unfolding plus
plus_assoc t u v = rw (
  add_assoc t.volume u.volume v.volume,
  add_assoc t.area u.area v.area,
  add_assoc t.edge u.edge v.edge,
  add_assoc t.inner u.inner v.inner,
  add_assoc t.corners u.corners v.corners,
)

plus-nothing : (t : Totals) → plus t nothing ≡ t
unfolding plus
plus-nothing t = rw (add-zero t.volume, add-zero t.area, add-zero t.edge, add-zero t.inner, add-zero t.corners)

sum-parts : (f : ℕ → Totals) (n k : ℕ) → sum_to (n + k) f ≡ plus (sum_to n f) (sum_to k λ i. f (n + i))
unfolding sum_to
sum-parts f n zero = rw (add-zero n) (sym (plus-nothing (sum_to n f)))
sum-parts f n (suc k) = rw (add-suc n k, sum-parts f n k) (plus_assoc (sum_to n f) (sum_to k λ i. f (n + i)) (f (n + k)))

pub sum-agree : (n : ℕ) (f g : ℕ → Totals) → ((i : ℕ) → i < n → f i ≡ g i) → sum_to n f ≡ sum_to n g
unfolding sum_to
sum-agree zero f g h = refl
sum-agree (suc n) f g h = rw (sum-agree n f g (λ i l. h i (omega arith)), h n (omega arith))

module _ (f : ℕ → Totals) (t₀ : Totals) where
  pub sums_none : t₀ ≡ plus t₀ (sum_to 0 f)
  unfolding plus sum_to
  sums_none = sym (plus-nothing t₀)

  pub sums-turn : (n : ℕ) {t t' : Totals} → t ≡ plus t₀ (sum_to n f) → t' ≡ plus t (f n) → t' ≡ plus t₀ (sum_to (n + 1) f)
  unfolding sum_to
  sums-turn n e e' = rw (e', e, add-one n) (plus_assoc t₀ (sum_to n f) (f n))

  -- k more at once
  pub sums-add : (n k : ℕ) {t t' : Totals} → t ≡ plus t₀ (sum_to n f) → t' ≡ plus t (sum_to k λ i. f (n + i)) → t' ≡ plus t₀ (sum_to (n + k) f)
  sums-add n k e e' = rw (e', e, sum-parts f n k) (plus_assoc t₀ (sum_to n f) (sum_to k λ i. f (n + i)))

-- sums from nothing
module _ (f : ℕ → Totals) where
  pub whole-none : nothing ≡ sum_to 0 f
  unfolding sum_to
  whole-none = refl

  pub whole-turn : (n : ℕ) {t t' : Totals} → t ≡ sum_to n f → t' ≡ plus t (f n) → t' ≡ sum_to (n + 1) f
  unfolding sum_to
  whole-turn n e e' = rw (e', e, add-one n)

-- ---- how large

sum-most : (k : ℕ) (f : ℕ → Totals) → ((i : ℕ) → AtMost k (f i)) → (n : ℕ) → AtMost (n * k) (sum_to n f)
unfolding sum_to plus
sum-most k f h zero =
    let none : 0 ≤ 0 * k = omega (arith, zero-mul k) in
    record { volume_in = none; area_in = none; edge_in = none; inner_in = none; corners_in = none }
sum-most k f h (suc n) =
    let b : AtMost (n * k) (sum_to n f) = sum-most k f h n in
    let c : AtMost k (f n) = h n in
    record {
      volume_in = omega (arith, suc-mul n k, b.volume_in, c.volume_in);
      area_in = omega (arith, suc-mul n k, b.area_in, c.area_in);
      edge_in = omega (arith, suc-mul n k, b.edge_in, c.edge_in);
      inner_in = omega (arith, suc-mul n k, b.inner_in, c.inner_in);
      corners_in = omega (arith, suc-mul n k, b.corners_in, c.corners_in);
    }

plus-most : (a b c : ℕ) (t u : Totals) → AtMost a t → AtMost b u → a + b ≤ c → AtMost c (plus t u)
unfolding plus
plus-most a b c t u h k l = record {
  volume_in = omega (arith, h.volume_in, k.volume_in);
  area_in = omega (arith, h.area_in, k.area_in);
  edge_in = omega (arith, h.edge_in, k.edge_in);
  inner_in = omega (arith, h.inner_in, k.inner_in);
  corners_in = omega (arith, h.corners_in, k.corners_in);
}

weaker : (a b : ℕ) (t : Totals) → a ≤ b → AtMost a t → AtMost b t
weaker a b t l h = record {
  volume_in = omega (arith, h.volume_in);
  area_in = omega (arith, h.area_in);
  edge_in = omega (arith, h.edge_in);
  inner_in = omega (arith, h.inner_in);
  corners_in = omega (arith, h.corners_in);
}

-- the sums stay small, in a field of at most 1,024
pub points-low : (f : ℕ → Pattern) (n : ℕ) → n ≤ 1025 → (a b : ℕ) → a + 6150 ≤ b → (t₀ : Totals) {t : Totals} → AtMost a t₀ → t ≡ plus t₀ (sum_to n λ i. at_pattern (f i)) → AtMost b t
points-low f n h a b l t₀ k e = rw e (plus-most a 6150 b t₀ (sum_to n λ i. at_pattern (f i)) k (points-most f n h) l)
  where
    points-most : (f : ℕ → Pattern) (n : ℕ) → n ≤ 1025 → AtMost 6150 (sum_to n λ i. at_pattern (f i))
    points-most f n h = weaker (n * 6) 6150 _ (omega arith) (sum-most 6 (λ i. at_pattern (f i)) (λ i. pattern-most (f i)) n)

module _ (s : Cells) where
  line-most : (n : ℕ) → n ≤ 1025 → (x y : ℕ) → AtMost 6150 (line_to s n x y)
  line-most n h x y = weaker (n * 6) 6150 _ (omega arith) (sum-most 6 (λ z. at_pattern (around s x y z)) (λ z. pattern-most (around s x y z)) n)

  plane-most : (n m : ℕ) → n ≤ 1025 → m ≤ 1025 → (x : ℕ) → AtMost 6303750 (plane_to s n m x)
  plane-most n m h k x = weaker (m * 6150) 6303750 _ (omega arith) (sum-most 6150 (λ y. line_to s n x y) (λ y. line-most n h x y) m)

  field_most : (n m l : ℕ) → n ≤ 1025 → m ≤ 1025 → l ≤ 1025 → AtMost 6461343750 (field_to s n m l)
  field_most n m l h k i = weaker (l * 6303750) 6461343750 _ (omega arith) (sum-most 6303750 (λ x. plane_to s n m x) (λ x. plane-most n m h k x) l)

  pub plane-low : (n m x : ℕ) → n ≤ 1025 → m ≤ 1025 → (t₀ : Totals) {t : Totals} → AtMost before_plane t₀ → t ≡ plus t₀ (plane_to s n m x) → AtMost before_line t
  plane-low n m x h i t₀ k e = rw e (plus-most before_plane 6303750 before_line t₀ (plane_to s n m x) k (plane-most n m h i x) (omega arith))

  pub field-low : (n m l : ℕ) → n ≤ 1025 → m ≤ 1025 → l ≤ 1025 → {t : Totals} → t ≡ field_to s n m l → AtMost before_plane t
  field-low n m l h i k e = rw e (weaker 6461343750 before_plane _ (omega arith) (field_most n m l h i k))
