-- A test of length behind checks that pass: what it gives. Refusals 10, 11, 12 and 16 come so after those of a list: docs/SCOPE.md, 'When a
-- job is refused'. Assumes nothing.
use mathlib.Core.Path.{◌≡◌, ap, ◌∙◌}
use mathlib.Core.Bool.{Bool, cond}
use mathlib.Core.List.{List, [], ◌∷◌, ◌++◌}
use Prim.Native.Nat.{ℕ, ◌≤◌, ◌<◌}
use lib.Dec.{ltb}
use borrow.Author.Tests.{lt-ltb, le-ltb}
use Rattle.refusals.specs.declared.Refusal.{Refusal}
use Rattle.refusals.specs.Tests.{Test, length_test, first_of}
use Rattle.refusals.proofs.FirstOf.{first-passed}
use Rattle.std.specs.Prelude.{Ok, Err}

module _ (ts : List Test) (room need : ℕ) (gives : Refusal) (passed : first_of ts ≡ Ok tt) where
  compared : {b : Bool} → ltb room need ≡ b → first_of (ts ++ length_test room need gives ∷ []) ≡ cond b (Err gives) (Ok tt)
  unfolding first_of
  compared e = first-passed (length_test room need gives ∷ []) ts passed ∙ ap (λ (b : Bool). cond b (Err gives) (Ok tt)) e

  pub too_short : room < need → first_of (ts ++ length_test room need gives ∷ []) ≡ Err gives
  too_short h = compared (lt-ltb room need h)

  pub long-enough : need ≤ room → first_of (ts ++ length_test room need gives ∷ []) ≡ Ok tt
  long-enough h = compared (le-ltb room need h)
