-- Outer and inner unit edges together: a length that does not tell them apart is the sum of the two.
use mathlib.Core.Path.{◌≡◌, ◌∙◌, ap, fun_ext}
use mathlib.Core.Bool.{Bool}
use Prim.Native.Nat.{ℕ, suc, ◌+◌}
use native.Mathlib.Omega.{arith}
use lib.Dec.{eqb, eqb→eq}
use Rattle.lattice.specs.Cells.{Cells, below, up, OfFour, length_by, edge, inner_edge, edge_length, inner_length, either_edge}
use Rattle.ground.proofs.TotalLaws.{totals-plus}
use Rattle.ground.proofs.Cases.{each_four-at}

either_is : (q : Bool → Bool → Bool) → either_edge q ≡ edge q + inner_edge q
either_is q = eqb→eq (either_edge q) (edge q + inner_edge q) (each_four-at (λ q. eqb (either_edge q) (edge q + inner_edge q)) tt q)

-- a length keeps sums of counts
length-plus : (f g : OfFour) (n : ℕ) (s : Cells) → length_by (λ q. f q + g q) n s ≡ length_by f n s + length_by g n s
unfolding length_by
length-plus f g n s =
    omega (
      arith,
      totals-plus n (suc n) (suc n) (λ i y z. f (λ b c. below s (suc i) (up b y) (up c z))) (λ i y z. g (λ b c. below s (suc i) (up b y) (up c z))),
      totals-plus (suc n) n (suc n) (λ x j z. f (λ a c. below s (up a x) (suc j) (up c z))) (λ x j z. g (λ a c. below s (up a x) (suc j) (up c z))),
      totals-plus (suc n) (suc n) n (λ x y k. f (λ a b. below s (up a x) (up b y) (suc k))) (λ x y k. g (λ a b. below s (up a x) (up b y) (suc k))),
    )

pub either-length : (n : ℕ) (s : Cells) → length_by either_edge n s ≡ edge_length n s + inner_length n s
either-length n s = ap (λ count. length_by count n s) (fun_ext either_is) ∙ length-plus edge inner_edge n s
