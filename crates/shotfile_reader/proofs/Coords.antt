-- Coordinates shot by shot: the numbers of shots one after another, and the shots of such numbers. No other file of the crate looks at how
-- many numbers a shot has. Assumes nothing.
use mathlib.Core.Path.{◌≡◌, refl, ap}
use mathlib.Core.List.{List, [], ◌∷◌, ◌++◌}
use Prim.Native.Nat.{ℕ, suc, ◌%◌, ◌≤◌}
use native.Mathlib.Omega.{arith}
use lib.ListN.{length}
use Rattle.lattice.specs.Shots.{Shot}
use Rattle.job.specs.Job.{shots_of, shot_count, place_of}
use Rattle.shotfile_records.specs.declared.Fields.{Fields}
use Rattle.shotfile_records.specs.Numbers.{shot_fields, shot_numbers}

-- the numbers of shots, one after another
abbrev pub all_numbers : List Shot → List ℕ
all_numbers [] = []
all_numbers (t ∷ ts) = shot_numbers (shot_fields t) ++ all_numbers ts

-- a list of whole shots is the numbers of its shots
pub all-numbers : (e : ℕ) (coords : List ℕ) → length coords ≡ place_of (shot_count coords) → all_numbers (shots_of e coords) ≡ coords
unfolding shots_of
all-numbers e [] h = refl
all-numbers e (x ∷ []) h = absurd (omega arith)
all-numbers e (x ∷ y ∷ []) h = absurd (omega arith)
all-numbers e (x ∷ y ∷ z ∷ rest) h = ap (λ (l : List ℕ). x ∷ y ∷ z ∷ l) (all-numbers e rest (omega arith))

module _ (e : ℕ) where
  pub shots-none : shots_of e [] ≡ []
  unfolding shots_of
  shots-none = refl

  -- a shot's numbers and then others
  pub shots-more : (f : Fields) (coords : List ℕ) → shots_of e (shot_numbers f ++ coords) ≡ record { x = f.first; y = f.second; z = f.third; edge = e } ∷ shots_of e coords
  unfolding shots_of
  shots-more f coords = refl

-- ---- how many shots there are, and how many places they take
pub threes-whole : (coords : List ℕ) → length coords % 3 ≡ 0 → length coords ≡ place_of (shot_count coords)
threes-whole coords h = omega (arith, h)

pub count_none : shot_count [] ≡ 0
count_none = refl

module _ (f : Fields) (coords : List ℕ) where
  pub count-more : shot_count (shot_numbers f ++ coords) ≡ suc (shot_count coords)
  count-more = omega arith

  pub places-more : length coords ≡ place_of (shot_count coords) → length (shot_numbers f ++ coords) ≡ place_of (shot_count (shot_numbers f ++ coords))
  places-more h = omega (arith, h)

-- shots that have a place take no more numbers than there are
pub places-fit : (coords before : List ℕ) → length coords ≡ place_of (shot_count coords) → shot_count coords ≤ shot_count before → length coords ≤ length before
places-fit coords before w h = omega (arith, w, h)
