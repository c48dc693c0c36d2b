-- The boxes of a list's shots as six numbers each.
use Rattle.std.specs.Prelude.{List, [], ◌∷◌, ◌++◌, ℕ}
use Rattle.lattice.specs.Boxes.{Box, box_of}
use Rattle.job.specs.Job.{shot_at}

-- the six numbers of a box
abbrev pub six_of : Box → List ℕ
six_of t = t.x ∷ t.x_end ∷ t.y ∷ t.y_end ∷ t.z ∷ t.z_end ∷ []

-- the boxes of some shots, given by their numbers, one after the other
unfoldable pub boxes_of : ℕ → List ℕ → List ℕ → List ℕ
boxes_of e c [] = []
boxes_of e c (i ∷ l) = six_of (box_of (shot_at e c i)) ++ boxes_of e c l
