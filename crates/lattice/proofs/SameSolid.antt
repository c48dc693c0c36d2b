-- Two listings are the same exactly if the two solids have the same cells, whatever their fields.
-- A solid is known by the weight w of each point, and a listing tells those weights; a wider field lists nothing more.
use mathlib.Core.Path.{◌≡◌, refl, sym, ◌∙◌, ap, subst, fun_ext}
use mathlib.Core.Bool.{false, cond}
use mathlib.Core.Logic.{◌↔◌}
use mathlib.Core.List.{[], ◌∷◌}
use Prim.Native.Nat.{ℕ, zero, suc, ◌+◌, ◌≤◌}
use native.Mathlib.Nat.{add_comm, add-suc}
use native.Mathlib.Omega.{arith}
use lib.Dec.{eqb}
use lib.IntN.{ℤ, pos}
use lib.ListN.{length, get_or}
use lib.Seq.{ext_get_or}
use Rattle.ground.specs.Sums.{join}
use Rattle.ground.proofs.Bits.{bit-known}
use Rattle.ground.specs.Numbers.{bit}
use Rattle.lattice.specs.Cells.{Cells, Within, below}
use Rattle.lattice.specs.Pattern.{around, byte, corner, w, Term}
use Rattle.lattice.specs.Listing.{here, corners, listing, bytes, read_back, corner_sum, SameBytes}
use Rattle.ground.proofs.SumLaws.{fall, known-by-falls, sum-ext, pick, cond-zero, sum-cond, sum-pick}
use Rattle.ground.proofs.JoinLaws.{join-ext, join-nil, join-end}
use Rattle.lattice.proofs.Inside.{outside-no-corner}
use Rattle.lattice.proofs.PatternLaws.{no-corner-zero}
use Rattle.lattice.proofs.PointSums.{signs-three}
use Rattle.lattice.proofs.ListingLaws.{read_back-bytes, corners-points}

-- ---- a solid is known by the weight w of each point
none-y : (s : Cells) (x z : ℕ) → below s x 0 z ≡ false
none-y s zero z = refl
none-y s (suc x) z = refl

none-z : (s : Cells) (x y : ℕ) → below s x y 0 ≡ false
none-z s zero y = refl
none-z s (suc x) zero = refl
none-z s (suc x) (suc y) = refl

-- the cell that ends at a point, and its falls on z; on y and z
count : Cells → ℕ → ℕ → ℕ → ℤ
count s x y z = pos (bit (below s x y z))

on-z : Cells → ℕ → ℕ → ℕ → ℤ
on-z s x y z = fall (count s x y) z

on-yz : Cells → ℕ → ℕ → ℕ → ℤ
on-yz s x y z = fall (λ y. on-z s x y z) y

w-falls : (s : Cells) (x y z : ℕ) → w (around s x y z) ≡ fall (λ x. on-yz s x y z) x
unfolding w count on-z on-yz
w-falls s x y z = signs-three (λ a b c. pos (bit (around s x y z a b c)))

solid-known : (s t : Cells) → ((x y z : ℕ) → w (around s x y z) ≡ w (around t x y z)) → (i j k : ℕ) → s i j k ≡ t i j k
unfolding count on-z on-yz
solid-known s t h i j k = bit-known (s i j k) (t i j k) (by-z (suc i) (suc j) (suc k))
  where
    by-x : (y z x : ℕ) → on-yz s x y z ≡ on-yz t x y z
    by-x y z = known-by-falls (λ x. on-yz s x y z) (λ x. on-yz t x y z) refl (λ x. sym (w-falls s x y z) ∙ h x y z ∙ w-falls t x y z)

    by-y : (x z y : ℕ) → on-z s x y z ≡ on-z t x y z
    by-y x z = known-by-falls (λ y. on-z s x y z) (λ y. on-z t x y z) (simp none-y) (λ y. by-x y z x)

    by-z : (x y z : ℕ) → count s x y z ≡ count t x y z
    by-z x y = known-by-falls (count s x y) (count t x y) (simp none-z) (λ z. by-y x z y)

-- ---- a wider field lists nothing more
-- a point that is no corner is not listed
pub here-none : (s : Cells) (x y z : ℕ) → corner (around s x y z) ≡ false → here s x y z ≡ []
unfolding here
here-none s x y z e = ap (λ b. cond b (record { x = x; y = y; z = z; pattern = byte (around s x y z) } ∷ []) []) e

module _ (n : ℕ) (s : Cells) (within : Within n s) where
  here-outside : (x y z : ℕ) → ((x ≤ n) × (y ≤ n) × (z ≤ n) → ⊥) → here s x y z ≡ []
  here-outside x y z h = here-none s x y z (outside-no-corner n s within x y z h)

  wider : (k : ℕ) → corners (k + n) s ≡ corners n s
  unfolding corners
  wider k = rw (← add-suc k n)
      (join-end (suc n) k (λ x. join (k + suc n) λ y. join (k + suc n) (here s x y)) (λ x h. join-nil (k + suc n) λ y. join-nil (k + suc n) λ z. here-outside x y z (λ o. omega arith))
      ∙ join-ext (suc n) λ x. join-end (suc n) k (λ y. join (k + suc n) (here s x y)) (λ y h. join-nil (k + suc n) λ z. here-outside x y z (λ o. omega arith))
      ∙ join-ext (suc n) λ y. join-end (suc n) k (here s x y) (λ z h. here-outside x y z (λ o. omega arith)))

pub same-corners : (n m : ℕ) (s t : Cells) → Within n s → Within m t → ((i j k : ℕ) → s i j k ≡ t i j k) → corners n s ≡ corners m t
same-corners n m s t hs ht e = ap (corners n) path ∙ sym (wider n t (subst (Within n) path hs) m) ∙ ap (λ k. corners k t) (add_comm m n) ∙ wider m t ht n
  where
    path : s ≡ t
    path = fun_ext λ i. fun_ext λ j. fun_ext λ k. e i j k

-- ---- a listing tells the weight w of each point
module _ (x₀ y₀ z₀ : ℕ) where
  weight-there : Term
  weight-there x y z p = pick x₀ x (pick y₀ y (pick z₀ z (w p)))

  told : (n : ℕ) (s : Cells) → Within n s → corner_sum weight-there (corners n s) ≡ w (around s x₀ y₀ z₀)
  unfolding weight-there
  told n s within =
      corners-points n s weight-there (λ x y z p e. cond-zero (eqb x₀ x) (cond-zero (eqb y₀ y) (cond-zero (eqb z₀ z) (no-corner-zero p e 0))))
      ∙ sum-ext (suc n) (λ x. sum-ext (suc n) (λ y. sum-cond (eqb x₀ x) (suc n) (λ z. pick y₀ y (pick z₀ z (at x y z)))
      ∙ ap (pick x₀ x) (sum-cond (eqb y₀ y) (suc n) (λ z. pick z₀ z (at x y z)) ∙ ap (pick y₀ y) (sum-pick (suc n) z₀ (at x y) (λ z h. none x y z (λ o. omega arith)))))
      ∙ sum-cond (eqb x₀ x) (suc n) (λ y. pick y₀ y (at x y z₀)) ∙ ap (pick x₀ x) (sum-pick (suc n) y₀ (λ y. at x y z₀) (λ y h. none x y z₀ (λ o. omega arith))))
      ∙ sum-pick (suc n) x₀ (λ x. at x y₀ z₀) (λ x h. none x y₀ z₀ (λ o. omega arith))
    where
      at : ℕ → ℕ → ℕ → ℤ
      at x y z = w (around s x y z)

      none : (x y z : ℕ) → ((x ≤ n) × (y ≤ n) × (z ≤ n) → ⊥) → at x y z ≡ pos 0
      none x y z h = no-corner-zero (around s x y z) (outside-no-corner n s within x y z h) 0

same-solid : (n m : ℕ) (s t : Cells) → Within n s → Within m t → corners n s ≡ corners m t → (i j k : ℕ) → s i j k ≡ t i j k
same-solid n m s t hs ht e = solid-known s t λ x y z.
    sym (told x y z n s hs) ∙ ap (corner_sum (weight-there x y z)) e ∙ told x y z m t ht

-- ---- the listings
pub listing-same : (n m : ℕ) (s t : Cells) → Within n s → Within m t → SameBytes (listing n s) (listing m t) ↔ ((i j k : ℕ) → s i j k ≡ t i j k)
listing-same n m s t hs ht = (
  (λ h. same-solid n m s t hs ht (sym (read_back-bytes (corners n s)) ∙ ap read_back (ext_get_or 0 (listing n s) (listing m t) h.many h.agree) ∙ read_back-bytes (corners m t))),
  (λ e. let p : listing n s ≡ listing m t = ap bytes (same-corners n m s t hs ht e) in record { many = ap length p; agree = λ i h. ap (λ l. get_or l i 0) p }),
)
