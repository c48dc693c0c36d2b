-- Signed numbers that fit; and the table of the ten weights as it is filled, weight after weight and pattern after pattern.
use mathlib.Core.Path.{◌≡◌, refl, ◌∙◌, ap, subst}
use mathlib.Core.List.{List, [], ◌∷◌}
use Prim.Native.Nat.{ℕ, ◌+◌, ◌*◌, ◌≤◌, ◌<◌}
use native.Mathlib.Omega.{arith}
use lib.Dec.{T, eqb, eqb→eq, leb, leb→le}
use lib.IntN.{ℤ, pos, negsuc, nat_abs}
use lib.ListN.{length, get_or, set, length-set}
use lib.Seq.{get_or-set_same, get_or-set_other}
use borrow.Author.Count.{below_more}
use lib.Signed.{mag}
use mir.Syntax.{w8}
use mir.Val.{SFits, to_z, of_z}
use mir.Facts.{to_z-of_z}
use Rattle.ground.proofs.Cases.{each_below-at}
use Rattle.lattice.specs.Pattern.{Pattern, of_byte}
use Rattle.lattice_tables.specs.Tables.{weight_of}
use Rattle.lattice_tables.specs.declared.Weight.{Weight}
use Rattle.lattice_tables.specs.declared.Weight.TheVariants.{W, Ax, Ay, Az, Ex, Ey, Ez, Ix, Iy, Iz}
use Rattle.lattice_tables.specs.contracts.Weight.{the_type}
use denote.Enum.Declared.{tag_of}
use Rattle.lattice_weights.specs.Packed.{weight, place, FirstWeights}
use Rattle.lattice.proofs.PatternLaws.{largest, weight-small}

-- ---- signed numbers that fit
mag-le : (z : ℤ) → mag z ≤ nat_abs z
mag-le (pos n) = omega arith
mag-le (negsuc n) = omega arith

fits8 : (z : ℤ) → nat_abs z < 128 → SFits w8 z
fits8 z h = record { sfits = omega (arith, mag-le z) }

-- ---- a weight as a load gives it
weight-within : (j : ℕ) → j < 10 → (p : Pattern) → nat_abs (weight j p) ≤ 4
weight-within j h p =
    let few : T (leb (get_or largest j 0) 4) = each_below-at (λ i. leb (get_or largest i 0) 4) 10 tt j h in
    omega (arith, weight-small j p, leb→le (get_or largest j 0) 4 few)

pub weight-read : (j : ℕ) → j < 10 → (p : Pattern) {z : ℤ} → z ≡ weight j p → to_z w8 (of_z w8 z) ≡ weight j p
weight-read j h p e = ap (λ z. to_z w8 (of_z w8 z)) e ∙ to_z-of_z (fits8 (weight j p) (omega (arith, weight-within j h p)))

-- ---- the weights by name
pub place-small : (k : Weight) → place k < 10
place-small W = omega arith
place-small Ax = omega arith
place-small Ay = omega arith
place-small Az = omega arith
place-small Ex = omega arith
place-small Ey = omega arith
place-small Ez = omega arith
place-small Ix = omega arith
place-small Iy = omega arith
place-small Iz = omega arith

pub tag-place : (k : Weight) → tag_of the_type k ≡ place k
tag-place W = refl
tag-place Ax = refl
tag-place Ay = refl
tag-place Az = refl
tag-place Ex = refl
tag-place Ey = refl
tag-place Ez = refl
tag-place Ix = refl
tag-place Iy = refl
tag-place Iz = refl

pub weight-place : (k : Weight) (p : Pattern) → weight (place k) p ≡ weight_of k p
weight-place W p = refl
weight-place Ax p = refl
weight-place Ay p = refl
weight-place Az p = refl
weight-place Ex p = refl
weight-place Ey p = refl
weight-place Ez p = refl
weight-place Ix p = refl
weight-place Iy p = refl
weight-place Iz p = refl

pub weight_of-within : (k : Weight) (p : Pattern) → nat_abs (weight_of k p) ≤ 4
weight_of-within k p = subst (λ z. nat_abs z ≤ 4) (weight-place k p) (weight-within (place k) (place-small k) p)

abbrev all : List Weight
all = W ∷ Ax ∷ Ay ∷ Az ∷ Ex ∷ Ey ∷ Ez ∷ Ix ∷ Iy ∷ Iz ∷ []

pub all-place : (j : ℕ) → j < 10 → place (get_or all j W) ≡ j
all-place j h = eqb→eq (place (get_or all j W)) j (each_below-at (λ j. eqb (place (get_or all j W)) j) 10 tt j h)

-- ---- weight after weight
pub no-weight : {t : List ℤ} → length t ≡ 4096 → FirstWeights 0 t
no-weight e = record { long = e; entry = λ p j h l. absurd (omega arith) }

-- the weights before weight j, and weight j of the patterns before q
pub record PackedTo (j q : ℕ) (t : List ℤ) : Type 0 where
  pub before : FirstWeights j t
  pub done : (p : ℕ) → p < q → get_or t (16 * p + j) (pos 0) ≡ weight j (of_byte p)

pub packed_none : (j : ℕ) {t : List ℤ} → FirstWeights j t → PackedTo j 0 t
packed_none j h = record { before = h; done = λ p l. absurd (omega arith) }

pub packed_more : (j q : ℕ) (t : List ℤ) (v : ℤ) → j < 10 → q < 256 → v ≡ weight j (of_byte q) → PackedTo j q t → PackedTo j (q + 1) (set t (16 * q + j) v)
packed_more j q t v hj hq e f = record {
  before = record {
    long = length-set t (16 * q + j) v ∙ f.before.long;
    entry = λ p k h l. get_or-set_other t (16 * q + j) (16 * p + k) v (pos 0) (λ same. omega arith) ∙ f.before.entry p k h l;
  };
  done = below_more (λ p. get_or (set t (16 * q + j) v) (16 * p + j) (pos 0) ≡ weight j (of_byte p)) q
      (λ p l. get_or-set_other t (16 * q + j) (16 * p + j) v (pos 0) (λ same. omega arith) ∙ f.done p l)
      (get_or-set_same t (16 * q + j) v (pos 0) (omega (arith, f.before.long)) ∙ e);
}

pub packed_all : (j : ℕ) {t : List ℤ} → PackedTo j 256 t → FirstWeights (j + 1) t
packed_all j {t} f = record {
  long = f.before.long;
  entry = λ p k h. below_more (λ k. get_or t (16 * p + k) (pos 0) ≡ weight k (of_byte p)) j (λ k l. f.before.entry p k h l) (f.done p h) k;
}
