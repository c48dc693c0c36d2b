-- A setting that is outside its range, or not: what the test says.
use mathlib.Core.Path.{◌≡◌}
use mathlib.Core.Logic.{◌↔◌, ◌⊎◌, inl, inr, ⊎_elim}
use mathlib.Core.Bool.{true, false}
use Prim.Native.Nat.{ℕ, ◌≤◌, ◌<◌}
use lib.Dec.{ltb}
use borrow.Author.Tests.{ltb-true, ltb-false, lt-ltb}
use Rattle.ground.proofs.Bools.{or-true, or-false, or-true-left, or_true_right}
use Rattle.job.specs.Checking.{outside}

-- a setting that is not outside its range
pub within : (least most a : ℕ) → outside least most a ≡ false → (least ≤ a) × (a ≤ most)
within least most a h = (ltb-false a least (or-false _ _ h).0, ltb-false most a (or-false (ltb a least) _ h).1)

-- and one that is
pub out : (least most a : ℕ) → outside least most a ≡ true → (a < least) ⊎ (most < a)
out least most a h = ⊎_elim (λ l. inl (ltb-true a least l)) (λ l. inr (ltb-true most a l)) (or-true (ltb a least) (ltb most a) h)

pub is-out : (least most a : ℕ) → (a < least) ⊎ (most < a) → outside least most a ≡ true
is-out least most a (inl l) = or-true-left (ltb a least) (ltb most a) (lt-ltb a least l)
is-out least most a (inr l) = or_true_right (ltb a least) (ltb most a) (lt-ltb most a l)

pub outside-says : (least most a : ℕ) → (outside least most a ≡ true) ↔ ((a < least) ⊎ (most < a))
outside-says least most a = (out least most a, is-out least most a)
