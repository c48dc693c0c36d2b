-- A damaged listing: records with x = 5, 5, 2, 2, 5, and three bytes more. Assumes nothing.
use Rattle.std.specs.Prelude.{None}
use mathlib.Core.Path.{◌≡◌, refl}
use mathlib.Core.List.{List, [], ◌∷◌}
use Prim.Native.Nat.{ℕ}
use Rattle.lattice.specs.Listing.{read_back}
use Rattle.section.specs.Section.{first_step, step_from, past, after_at, asked, count_before, run_start, run_end, places_between, places_of}

abbrev damaged : List ℕ
damaged =
    5 ∷ 0 ∷ 1 ∷ 0 ∷ 2 ∷ 0 ∷ 129 ∷ 5 ∷ 0 ∷ 1 ∷ 0 ∷ 2 ∷ 0 ∷ 129 ∷ 2 ∷ 0 ∷ 1 ∷ 0 ∷ 2 ∷ 0 ∷ 129 ∷ 2 ∷ 0 ∷ 1 ∷ 0 ∷ 2 ∷ 0 ∷ 129 ∷ 5 ∷ 0 ∷ 1 ∷ 0 ∷ 2 ∷ 0 ∷ 129 ∷ 2 ∷ 0 ∷ 1 ∷ []

-- the larger x before it does not end the search for 2, and the last 5 belongs to no first run
at-two : places_of damaged 2 ≡ record { first = 14; end = 28 }
unfolding places_of places_between run_start run_end count_before asked read_back
at-two = refl

at_five : places_of damaged 5 ≡ record { first = 0; end = 14 }
unfolding places_of places_between run_start run_end count_before asked read_back
at_five = refl

-- nothing found
at-three : places_of damaged 3 ≡ record { first = 0; end = 0 }
unfolding places_of places_between run_start run_end count_before asked read_back
at-three = refl

-- the remainder is no record
at-remainder : (step_from damaged 35 ≡ None) × (after_at damaged 35 ≡ 35)
unfolding step_from first_step after_at past read_back
at-remainder = (refl, refl)
