-- The corner sums: no term of a field of 1,024 is larger than 2³², so that the sums over all its points fit 64 bits.
use mathlib.Core.Path.{◌≡◌, refl, sym, ◌∙◌, ap, ap₂, fun_ext}
use mathlib.Core.List.{List, [], ◌∷◌, ◌++◌}
use Prim.Native.Nat.{ℕ, ◌+◌, ◌-◌, ◌*◌, ◌≤◌}
use native.Mathlib.Omega.{arith}
use lib.IntN.{ℤ, pos, nat_abs, ◌+ℤ◌, ◌*ℤ◌, +ℤ_idr}
use lib.ListN.{length, length-append}
use Rattle.lattice.specs.Cells.{Cells, Within, field_points}
use Rattle.lattice.specs.Pattern.{Pattern, of_byte, Term, volume_term, area_term, edge_term, inner_term}
use Rattle.lattice.specs.Figures.{Figure, Volume, Area, EdgeLength, InnerLength, cell_count, term, largest_term}
use Rattle.lattice.specs.Listing.{Corner, corners, term_at, over, corner_sum}
use Rattle.lattice_sums.specs.CornerSums.{sum_in, value, sums_by, sums_of, added, Room, RoomFor, Whole, totals_of}
use Rattle.lattice_sums.specs.declared.sums.Totals.{Totals}
use Rattle.lattice_sums.specs.declared.sums.CornerSums.{CornerSums}
use Rattle.ground.proofs.Integers.{nat_abs-add}
use Rattle.lattice.proofs.TermBounds.{scaled_small, term-small}
use Rattle.lattice.proofs.ListingLaws.{over-append}
use Rattle.lattice.proofs.Agreement.{corner-sums, count-is}
use Rattle.lattice_tables.specs.Tables.{weight_of}
use Rattle.lattice_tables.specs.declared.Weight.{Weight}
use Rattle.lattice_weights.proofs.PackedLaws.{weight_of-within}
use native.Mathlib.Nat.{le_refl}

-- ---- a weight, so many times
pub weighed-small : (n : ℕ) (k : Weight) (p : Pattern) {r : ℤ} → r ≡ pos n *ℤ weight_of k p → nat_abs r ≤ n * 4
weighed-small n k p e = rw e (scaled_small n 4 n (weight_of k p) (le_refl n) (weight_of-within k p))

-- ---- one corner more
-- a sum of n terms with one more
sum_room : (n : ℕ) (s t : ℤ) → nat_abs s ≤ n * largest_term → nat_abs t ≤ largest_term → nat_abs (s +ℤ t) ≤ (n + 1) * largest_term
sum_room n s t hs ht = omega (arith, nat_abs-add s t, hs, ht)

pub sum_bound : (f : Figure) (t : CornerSums) → RoomFor 1 t → nat_abs (sum_in f t) ≤ (field_points 1024 - 1) * largest_term
sum_bound f t r = omega (arith, r.sum_within f, r.few)

-- ---- sums by figure
pub sum_by : (f : Figure) (g : Figure → ℤ) (n : ℕ) → sum_in f (sums_by g n) ≡ g f
sum_by Volume g n = refl
sum_by Area g n = refl
sum_by EdgeLength g n = refl
sum_by InnerLength g n = refl

pub added-is : (t : CornerSums) (v : Corner) {a b c d : ℤ} → a ≡ t.volume +ℤ term_at volume_term v → b ≡ t.area +ℤ term_at area_term v
    → c ≡ t.edge +ℤ term_at edge_term v → d ≡ t.inner +ℤ term_at inner_term v
    → record { volume = a; area = b; edge = c; inner = d; corners = t.corners + 1 } ≡ added t v
unfolding added
added-is t v ea eb ec ed = rw (ea, eb, ec, ed)

pub added-room : (t : CornerSums) (v : Corner) → v.x ≤ 1024 → v.y ≤ 1024 → v.z ≤ 1024 → (n : ℕ) → Room t n → Room (added t v) (n + 1)
unfolding added
added-room t v hx hy hz n r = record {
  sum_within = λ f. rw (sum_by f)
      (sum_room t.corners (sum_in f t) (term_at (term f) v) (r.sum_within f) (term-small f v.x v.y v.z (of_byte v.pattern) hx hy hz));
  few = omega (arith, r.few);
}

pub no_room : Room (sums_of []) 0
unfolding sums_of corner_sum over
no_room = record { sum_within = λ f. rw (sum_by f) (omega arith); few = omega arith }

pub room-more : (t : CornerSums) (n m : ℕ) → n ≤ m → Room t n → Room t m
room-more t n m h r = record { sum_within = r.sum_within; few = omega (arith, r.few) }

-- the sums of a list, corner after corner
sum_more : (term : Term) (vs : List Corner) (v : Corner) → corner_sum term (vs ++ (v ∷ [])) ≡ corner_sum term vs +ℤ term_at term v
unfolding corner_sum over
sum_more term vs v = over-append (term_at term) vs (v ∷ []) ∙ ap (λ k. over (term_at term) vs +ℤ k) (+ℤ_idr (term_at term v))

pub sums-more : (vs : List Corner) (v : Corner) → added (sums_of vs) v ≡ sums_of (vs ++ (v ∷ []))
unfolding added sums_of
sums-more vs v =
    ap₂ sums_by
    (fun_ext λ f. ap (λ k. k +ℤ term_at (term f) v) (sum_by f (λ f. corner_sum (term f) vs) (length vs)) ∙ sym (sum_more (term f) vs v))
    (sym (length-append vs (v ∷ [])))

-- ---- the totals that sums come to
value-counts : (f : Figure) (n : ℕ) (s : Cells) → value f (totals_of n s) ≡ cell_count f n s
unfolding totals_of
value-counts Volume n s = refl
value-counts Area n s = refl
value-counts EdgeLength n s = refl
value-counts InnerLength n s = refl

-- the corner sums of a solid come to its totals by counting
pub sums-whole : (n : ℕ) (s : Cells) → Within n s → Whole (sums_of (corners n s)) (totals_of n s)
unfolding sums_of totals_of
sums-whole n s within = record {
  figure_is = λ f. sum_by f (λ f. corner_sum (term f) (corners n s)) (length (corners n s)) ∙ corner-sums n s within f ∙ sym (value-counts f n s);
  corners_is = count-is n s within;
}

-- totals are known by the values of their figures and their corner count
totals-known : {r u : Totals} → ((f : Figure) → value f r ≡ value f u) → r.corners ≡ u.corners → r ≡ u
totals-known h k = λ i. record {
  volume = ap nat_abs (h Volume) i;
  area = ap nat_abs (h Area) i;
  edge = ap nat_abs (h EdgeLength) i;
  inner = ap nat_abs (h InnerLength) i;
  corners = k i;
}

pub whole_same : {t : CornerSums} {r u : Totals} → Whole t r → Whole t u → r ≡ u
whole_same h k = totals-known (λ f. sym (h.figure_is f) ∙ k.figure_is f) (sym h.corners_is ∙ k.corners_is)
