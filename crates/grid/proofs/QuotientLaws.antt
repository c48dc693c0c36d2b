-- A table of quotients: fewer of them.
use Rattle.std.proofs.Common.{ℕ, ◌≤◌, List, arith}
use Rattle.grid.specs.Quotients.{Quotients}

module _ (s : ℕ) {table : List ℕ} (n : ℕ) (t : Quotients s n table) where
  pub quotients-fewer : (m : ℕ) → m ≤ n → Quotients s m table
  quotients-fewer m h = record { long = omega arith; at = λ a l. t.at a (omega arith) }
