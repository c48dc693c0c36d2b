-- A call is a list of tests, each with the refusal that it gives: docs/SCOPE.md, 'When a job is refused'. What is earlier is a matter of place
-- in a call's list, not of number.
use Rattle.std.specs.Prelude.{Bool, cond, ◌≡◌, List, [], ◌∷◌, ℕ, ltb, Ok, Err}
use Rattle.refusals.specs.declared.Refusal.{Refusal}
use Rattle.refusals.specs.Refusals.{number_of, detail_of, Numbers, checked_numbers, Checked}

-- a test: whether its condition holds, and the refusal that it gives
pub record Test : Type 0 where
  pub holds : Bool
  pub gives : Refusal

-- a test of length: what is lent has room for fewer than are needed
abbrev pub length_test : ℕ → ℕ → Refusal → Test
length_test room need gives = record { holds = ltb room need; gives = gives }

-- a refusal is given if its condition holds and no earlier one does: of a list of tests, the first that holds decides
unfoldable pub first_of : List Test → Checked
first_of [] = Ok tt
first_of (t ∷ ts) = cond t.holds (Err t.gives) (first_of ts)

-- ---- what is answered
-- the number and detail of the first test that holds; 0 and 0 where none does
unfoldable pub first_numbers : List Test → Numbers
first_numbers [] = record { number = 0; detail = 0 }
first_numbers (t ∷ ts) = cond t.holds (record { number = number_of t.gives; detail = detail_of t.gives }) (first_numbers ts)

-- what a call that runs these tests answers
pub record Checks (ts : List Test) (r : Checked) : Type 0 where
  pub answer : r ≡ first_of ts
  pub numbers : checked_numbers r ≡ first_numbers ts

-- what is said or left where the checks pass, and where they refuse
abbrev pub if_accepted : {A : Type 0} → Checked → (Refusal → A) → A → A
if_accepted (Ok tt) refused done = done
if_accepted (Err r) refused done = refused r
