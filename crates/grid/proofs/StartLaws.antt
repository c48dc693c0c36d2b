-- The starting places of a series of runs: how many there are, and one more.
use Rattle.std.proofs.Common.{◌≡◌, ℕ, ◌+◌, List, [], ◌∷◌, ◌++◌, length}
use Rattle.ground.specs.Sums.{join}
use Rattle.grid.specs.Grid.{starts}
use Rattle.ground.proofs.JoinLaws.{join-next, singles-length}

pub starts-length : (run : ℕ → List ℕ) (n : ℕ) → length (starts run n) ≡ n
unfolding starts
starts-length run n = singles-length (λ cell. length (join cell run)) n

pub starts-next : (run : ℕ → List ℕ) (n : ℕ) → starts run (n + 1) ≡ starts run n ++ length (join n run) ∷ []
unfolding starts
starts-next run n = join-next (λ cell. length (join cell run) ∷ []) n
