-- The first place that passes a test.
use Rattle.std.specs.Prelude.{◌≡◌, Bool, true, false, ℕ, ◌≤◌, ◌<◌}

-- r is the first place, from `from` on and before `to`, that passes a test; or else `to`
pub record FirstPlace (f : ℕ → Bool) (from to r : ℕ) : Type 0 where
  pub onward : from ≤ r
  pub within : r ≤ to
  pub earlier : (i : ℕ) → from ≤ i → i < r → f i ≡ false
  pub passes : r < to → f r ≡ true
