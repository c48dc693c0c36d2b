-- The order in which a VOX file's refusals apply: 'in file order, 13 before 14 before 15 on one chunk; 2 and 3 come after 14 on XYZI'.
-- docs/SCOPE.md, 'VOX file'.
use Rattle.std.specs.Prelude.{◌≡◌, cond, List, [], ◌∷◌, ◌⊎◌, ℕ, zero, suc, ◌≤◌, ◌<◌, min, eqb}
use Rattle.refusals.specs.declared.Refusal.{Refusal}
use Rattle.refusals.specs.Refusals.{number_of, detail_of}
use Rattle.refusals.specs.Tests.{Test}
use Rattle.refusals.specs.Deciding.{Each}

-- the offset of the mark or chunk on which a refusal is met: its detail; but a voxel, which only 15 names, belongs to XYZI, at 44
abbrev pub chunk_of : Refusal → ℕ
chunk_of r = cond (eqb (number_of r) 15) (min (detail_of r) 44) (detail_of r)

-- the numbers in their order on one chunk, and the place of a number among them
abbrev pub on_one_chunk : List ℕ
on_one_chunk = 13 ∷ 14 ∷ 2 ∷ 3 ∷ 15 ∷ []

abbrev pub place_in : List ℕ → ℕ → ℕ
place_in [] n = zero
place_in (m ∷ ms) n = cond (eqb n m) zero (suc (place_in ms n))

-- one refusal comes before another: offsets do not fall, neither those of the chunks nor those that the details name, and on one chunk the
-- numbers rise in their order
pub record Precedes (earlier later : Refusal) : Type 0 where
  pub chunks : chunk_of earlier ≤ chunk_of later
  pub details : detail_of earlier ≤ detail_of later
  pub numbers : chunk_of earlier ≡ chunk_of later → place_in on_one_chunk (number_of earlier) < place_in on_one_chunk (number_of later)

-- of any two tests of a list, the refusal of the earlier one comes before that of the later one
abbrev pub InFileOrder : List Test → Type 0
InFileOrder [] = Unit {0}
InFileOrder (t ∷ ts) = Each (λ u. Precedes t.gives u.gives) ts × InFileOrder ts

-- the condition of a refusal holds, and any other refusal whose condition holds comes after it
pub record FirstInFile (condition : Refusal → Type 0) (r : Refusal) : Type 0 where
  pub holds : condition r
  pub others_later : (q : Refusal) → condition q → (q ≡ r) ⊎ Precedes r q
