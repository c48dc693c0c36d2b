-- The records of a listing one after another, and those of one x: docs/SCOPE.md, 'Corners at one x'. All is said over `read_back`, the
-- whole records of any bytes.
use Rattle.std.specs.Prelude.{◌≡◌, ◌↔◌, Bool, true, false, not, cond, Option, None, Some, ℕ, zero, suc, ◌+◌, ◌*◌, eqb, drop}
use mathlib.Core.List.{List, [], ◌∷◌, ◌++◌, Memᴰ}
use Rattle.std.proofs.Math.Seq.{slice}
use Rattle.lattice.specs.Cells.{Cells}
use Rattle.lattice.specs.Listing.{Corner, corners, IsCorner, All, Rising, bytes, read_back}
use Rattle.section.specs.declared.Corner.{Corner as Found}
use Rattle.section.specs.declared.Places.{Places}
use Rattle.section.specs.declared.Corners.{Corners}

-- ---- stepping
-- a corner as a reader gives it
abbrev pub found : Corner → Found
found v = record { x = v.x; y = v.y; z = v.z; pattern = v.pattern }

-- what a reader has where some corners are left: the first of them, or none
unfoldable pub first_step : List Corner → Option Found
first_step [] = None
first_step (v ∷ vs) = Some (found v)

-- the record at a place: the first that is read back from there on
unfoldable pub step_from : List ℕ → ℕ → Option Found
step_from l at = first_step (read_back (drop at l))

-- a place moved past the first of some corners
unfoldable pub past : List Corner → ℕ → ℕ
past [] at = at
past (v ∷ vs) at = at + 7

-- the place after the record at a place; the same place where no whole record is left
unfoldable pub after_at : List ℕ → ℕ → ℕ
after_at l at = past (read_back (drop at l)) at

-- a step of a reader: it meets the record at its place, or none, and moves past it; the listing stays
abbrev pub Steps : Corners → Option Found → Corners → Type 0
Steps reader met moved =
    (met ≡ step_from reader.listing.now reader.at) × (moved.listing ≡ reader.listing) × (moved.at ≡ after_at reader.listing.now reader.at)

-- the place of a reader that is opened at the first byte, after so many steps
unfoldable pub stepped : List ℕ → ℕ → ℕ
stepped l zero = 0
stepped l (suc k) = after_at l (stepped l k)

-- ---- one x
-- a test, or its opposite
unfoldable pub asked : Bool → Bool → Bool
asked true b = b
asked false b = not b

-- a corner has that x (true), has another (false)
abbrev pub asks : Bool → ℕ → Corner → Bool
asks same x v = asked same (eqb v.x x)

-- a test of a corner's x
abbrev pub by_x : (ℕ → Bool) → Corner → Bool
by_x p v = p v.x

-- how many corners stand before the first that passes a test; all of them where none does
unfoldable pub count_before : (Corner → Bool) → List Corner → ℕ
count_before p [] = 0
count_before p (v ∷ vs) = cond (p v) 0 (suc (count_before p vs))

-- the first unbroken run of corners with that x: from the first that has it up to the next that has another
unfoldable pub run_start : ℕ → List Corner → ℕ
run_start x vs = count_before (asks true x) vs

unfoldable pub run_end : ℕ → List Corner → ℕ
run_end x vs = run_start x vs + count_before (asks false x) (drop (run_start x vs) vs)

unfoldable pub first_run : ℕ → List Corner → List Corner
first_run x vs = slice (run_start x vs) (run_end x vs) vs

-- all corners with that x
unfoldable pub with_x : ℕ → List Corner → List Corner
with_x x [] = []
with_x x (v ∷ vs) = cond (eqb v.x x) (v ∷ with_x x vs) (with_x x vs)

-- the first of some corners, if there is one, is such
abbrev pub Foremost : (Corner → Type 0) → List Corner → Type 0
Foremost P [] = Unit {0}
Foremost P (v ∷ vs) = P v

-- some corners are the first unbroken run of an x
pub record IsFirstRun (x : ℕ) (vs run : List Corner) : Type 0 where
  pub ahead : List Corner
  pub behind : List Corner
  pub splits : vs ≡ ahead ++ (run ++ behind)
  -- none before them has that x, they all have it, and what follows next has another
  pub none_ahead : All (λ v. v.x ≡ x → ⊥) ahead
  pub all_in : All (λ v. v.x ≡ x) run
  pub broken : Foremost (λ v. v.x ≡ x → ⊥) behind
  -- there are none only where no corner has that x
  pub none : run ≡ [] → behind ≡ []

-- ---- the bytes of the run
-- the places of the records from number a up to number b; of no records, 0 to 0
unfoldable pub places_between : ℕ → ℕ → Places
places_between a b = cond (eqb a b) (record { first = 0; end = 0 }) (record { first = 7 * a; end = 7 * b })

unfoldable pub places_of : List ℕ → ℕ → Places
places_of l x = places_between (run_start x (read_back l)) (run_end x (read_back l))

-- the lent bytes between the places
unfoldable pub part_with : List ℕ → ℕ → List ℕ
part_with l x = slice (places_of l x).first (places_of l x).end l

-- bytes that list the corner points of a solid that have an x
pub record SectionOf (n : ℕ) (s : Cells) (x : ℕ) (r : List ℕ) : Type 0 where
  pub is : r ≡ bytes (with_x x (corners n s))
  -- each such corner point is there with its pattern, and nothing else is
  pub exactly : (v : Corner) → Memᴰ v (read_back r) ↔ (IsCorner n s v × (v.x ≡ x))
  -- in rising order, so each once
  pub rising : Rising (read_back r)
