-- Request (vi): from a listing and an x, the part of the lent bytes that holds all records with that x, and nothing else; of a damaged
-- listing, the first unbroken run. docs/SCOPE.md, 'Corners at one x'.
use Rattle.std.specs.Prelude.{◌≡◌, Option, List, [], ℕ, ◌+◌, ◌≤◌, length, drop}
use Rattle.std.proofs.Math.Seq.{slice}
use Rattle.buffer.specs.Wrote.{Wrote}
use Rattle.lattice.specs.Cells.{Cells}
use Rattle.lattice.specs.Listing.{All, corners, bytes, listing, read_back}
use Rattle.job.specs.Job.{Job}
use Rattle.section.specs.Section.{first_step, first_run, IsFirstRun, with_x, SectionOf}
use Rattle.section.specs.declared.Places.{Places}
use Rattle.section.specs.declared.Corner.{Corner as Found}
use Rattle.measure_intake.specs.Intake.{solid}
use Rattle.measure.specs.Answers.{ListAccepts}

-- ---- the part
-- r is handed back for the bytes l and an x
pub record PartAt (l : List ℕ) (x : ℕ) (r : List ℕ) : Type 0 where
  -- of any bytes: the bytes of the first unbroken run of whole records with that x, and nothing else; empty if no record has it
  pub run : r ≡ bytes (first_run x (read_back l))
  pub first : IsFirstRun x (read_back l) (read_back r)
  pub empty : All (λ v. v.x ≡ x → ⊥) (read_back l) → r ≡ []
  -- of a listing that the software makes: all corners with that x
  pub made : (n : ℕ) (s : Cells) → l ≡ listing n s → SectionOf n s x r

-- its places in the lent bytes are told
pub record PlacesAt (l : List ℕ) (x : ℕ) (r : Places) : Type 0 where
  pub inside : (r.first ≤ r.end) × (r.end ≤ length l)
  pub part : PartAt l x (slice r.first r.end l)
  pub none : All (λ v. v.x ≡ x → ⊥) (read_back l) → (r.first ≡ 0) × (r.end ≡ 0)

-- ---- stepping, each record once in order, and then done for ever
-- what a reader meets after so many steps through any bytes: the whole record of that number, from 0, or none
abbrev pub MetAfter : List ℕ → ℕ → Option Found → Type 0
MetAfter l steps r = r ≡ first_step (drop steps (read_back l))

-- a reader that is opened at any place keeps the bytes that it was opened on: one step on it meets the second whole record from there
abbrev pub MetNext : List ℕ → ℕ → Option Found → Type 0
MetNext l at r = r ≡ first_step (drop 1 (read_back (drop at l)))

-- through the part of an x: the record of that number of the first unbroken run
abbrev pub MetAt : List ℕ → ℕ → ℕ → Option Found → Type 0
MetAt l x steps r = r ≡ first_step (drop steps (first_run x (read_back l)))

-- through the part of an x of a listing that the software made: the corner of that number of all that have that x
abbrev pub MetListed : Job → ℕ → ℕ → ℕ → ℕ → Option Found → Type 0
MetListed job entries room x steps r = ListAccepts job entries room → r ≡ first_step (drop steps (with_x x (corners job.field (solid job))))

-- ---- one part after another
-- a part put at a place: written where there is room for it
pub record PutPart (before after : List ℕ) (at r : ℕ) (part : List ℕ) : Type 0 where
  pub inside : r ≤ length after
  pub same_room : length after ≡ length before
  pub written : at + length part ≤ length before → Wrote before after at r part

-- the parts of x = 0 .. n put one after another at the front are the listing, where there is room for it
abbrev pub PartsPut : List ℕ → ℕ → List ℕ → List ℕ → ℕ → Type 0
PartsPut l n before after r = (s : Cells) → l ≡ listing n s → length l ≤ length before → Wrote before after 0 r l
