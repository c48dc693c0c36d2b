-- When a list of tests accepts and when it refuses, by the conditions of its refusals: docs/SCOPE.md, 'When a job is refused'.
use Rattle.std.specs.Prelude.{◌≡◌, true, List, [], ◌∷◌, ◌++◌, ◌↔◌, Ok, Err}
use Rattle.refusals.specs.declared.Refusal.{Refusal}
use Rattle.refusals.specs.Tests.{Test, first_of}

-- of each test of a list
abbrev pub Each : (Test → Type 0) → List Test → Type 0
Each P [] = Unit {0}
Each P (t ∷ ts) = P t × Each P ts

-- a test holds exactly if the condition of the refusal that it gives does
abbrev pub Says : (Refusal → Type 0) → Test → Type 0
Says condition t = (t.holds ≡ true) ↔ condition t.gives

-- some test gives this refusal, whose condition holds, and the condition of no test before it does
pub record First (condition : Refusal → Type 0) (ts : List Test) (r : Refusal) : Type 0 where
  pub before : List Test
  pub here : Test
  pub after : List Test
  pub is : ts ≡ before ++ here ∷ after
  pub none_before : Each (λ t. ¬ condition t.gives) before
  pub gives_it : here.gives ≡ r
  pub holds : condition r

-- a condition holds, and this is the refusal that a test of it gives
pub record Gives (condition : Type 0) (gives r : Refusal) : Type 0 where
  pub holds : condition
  pub is : gives ≡ r

-- these tests accept exactly so, and refuse exactly so
pub record Decides (ts : List Test) (accepts : Type 0) (refuses : Refusal → Type 0) : Type 0 where
  pub accepted : (first_of ts ≡ Ok tt) ↔ accepts
  pub refused : (r : Refusal) → (first_of ts ≡ Err r) ↔ refuses r
