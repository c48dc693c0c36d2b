-- A reader as an iterator: it gives the records from its place on, one after another. Assumes nothing.
use mathlib.Core.Path.{◌≡◌, refl, sym, ◌∙◌, ap}
use mathlib.Core.List.{List, [], ◌∷◌, map}
use Prim.Native.Nat.{ℕ, zero, suc}
use lib.ListN.{length, drop}
use Rattle.std.specs.Prelude.{Option, None, Some}
use Rattle.std.specs.List.{slice_get}
use Rattle.std.specs.Option.{option_map}
use Rattle.std.proofs.lemmas.Iterator.Adapters.{option_map_id}
use Rattle.std.proofs.lemmas.Iterator.{YieldsList}
use Rattle.std.proofs.lemmas.Iterator.Consumers.{YieldsList-from_shown}
use Rattle.lattice.specs.Listing.{Corner, read_back}
use Rattle.section.specs.declared.Corner.{Corner as Found}
use Rattle.section.specs.declared.Corners.{Corners}
use Rattle.section.specs.Section.{found, first_step, step_from, Steps}
use Rattle.section.proofs.StepLaws.{read_back-after}

-- ---- what a reader gives
none-left : (vs : List Corner) → None ≡ first_step vs → vs ≡ []
unfolding first_step
none-left [] e = refl
none-left (v ∷ vs) e = cc

-- of some corners the first, as a reader gives it
pub record First (c : Found) (vs rest : List Corner) : Type 0 where
  pub corner : Corner
  pub is : vs ≡ corner ∷ rest
  pub given : c ≡ found corner

first-met : (vs : List Corner) (c : Found) → Some c ≡ first_step vs → First c vs (drop 1 vs)
unfolding first_step
first-met [] c e = cc
first-met (v ∷ vs) c e = record { corner = v; is = refl; given = cc }

-- the corners that it has left
abbrev pub left : Corners → List Corner
left reader = read_back (drop reader.at reader.listing.now)

module _ (s t : Corners) where
  pub left-none : Steps s None t → left s ≡ []
  unfolding step_from
  left-none e = none-left (left s) e.0

  pub left-first : {c : Found} → Steps s (Some c) t → First c (left s) (left t)
  unfolding step_from
  left-first {c} e = rw (e.1, e.2, read_back-after s.listing.now s.at) (first-met (left s) c e.0)

given-first : {c : Found} {vs rest : List Corner} → First c vs rest → map found vs ≡ c ∷ map found rest
given-first f = rw (f.is, f.given)

pub reader-gives : {s : Corners} (l : List ℕ) (at : ℕ) → s.listing.now ≡ l → s.at ≡ at → YieldsList Steps (λ c. c) s (map found (read_back (drop at l)))
reader-gives {s} l at e k =
    rw (← e, ← k) (YieldsList-from_shown Steps (λ c. c) (λ s. map found (left s)) (λ s t e. ap (λ vs. length (map found vs)) (left-none s t e)) (λ s c t e. given-first (left-first s t e)) s)

-- the record of a number, of all that it gives
nth-step : (vs : List Corner) (k : ℕ) → slice_get (map found vs) k ≡ first_step (drop k vs)
unfolding first_step
nth-step [] zero = refl
nth-step [] (suc k) = refl
nth-step (v ∷ vs) zero = refl
nth-step (v ∷ vs) (suc k) = nth-step vs k

pub given-nth : (vs : List Corner) (k : ℕ) {r : Option Found} → option_map (λ c. c) r ≡ slice_get (map found vs) k → r ≡ first_step (drop k vs)
given-nth vs k {r} e = sym (option_map_id r) ∙ (e ∙ nth-step vs k)
