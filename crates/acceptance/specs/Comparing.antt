-- What the functions that compare two listings, and two files, promise each other: no more than their own words. specs/Condition3.antt and
-- specs/ShortestFiles.antt say what is asked.
use Rattle.std.specs.Prelude.{List, ℕ, ◌*◌, ◌≤◌, length, take, Ok, Err}
use Rattle.text_same.specs.Same.{same}
use Rattle.measure_intake.specs.Intake.{Measured}
use Rattle.acceptance.specs.Condition3.{Compared}

-- the buffer has the listing bytes of a list that was accepted
abbrev pub Fits : Measured → List ℕ → Type 0
Fits (Ok t) buffer = 7 * t.corners ≤ length buffer
Fits (Err q) buffer = Unit {0}

abbrev pub compare_second : List ℕ → Measured → List ℕ → Compared
compare_second listed (Ok t) other = Ok (same listed (take (7 * t.corners) other))
compare_second listed (Err q) other = Err q

abbrev pub comparison : Measured → List ℕ → Measured → List ℕ → Compared
comparison (Ok t) buffer two other = compare_second (take (7 * t.corners) buffer) two other
comparison (Err q) buffer two other = Err q
