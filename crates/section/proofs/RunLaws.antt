-- The first unbroken run of one x: the search for its ends, its places, and the bytes between them. Assumes nothing.
use mathlib.Core.Path.{◌≡◌, refl, sym, ◌∙◌, ap}
use mathlib.Core.Bool.{Bool, true, false, not, cond}
use mathlib.Core.List.{List, [], ◌∷◌}
use Prim.Native.Nat.{ℕ, zero, suc, ◌+◌, ◌-◌, ◌*◌, ◌/◌, ◌≤◌, ◌<◌}
use native.Mathlib.Nat.{zero-add, sub-zero, zero-sub, suc-sub-suc}
use native.Mathlib.Numerals.{add-one}
use native.Mathlib.Omega.{arith}
use lib.Dec.{eqb}
use lib.ListN.{length, take, drop, length-drop, drop_of_length-le}
use lib.Seq.{slice, slice_empty, length-slice, take-length, take-nil, drop-nil, get_or-drop}
use borrow.Author.Tests.{eqb-true, eq-eqb, ne_eqb}
use Rattle.ground.specs.Numbers.{Bytes}
use Rattle.lattice.specs.Listing.{Corner, corner_record, bytes, read_back}
use Rattle.lattice.proofs.ListingLaws.{read_back-bytes}
use Rattle.section.specs.Section.{asked, asks, by_x, count_before, run_start, run_end, first_run, places_between, places_of, part_with}
use Rattle.section.specs.declared.Places.{Places}
use Rattle.section.proofs.RecordLaws.{seven-more, read_at, read_back-at, read_back-slice, length-read_back, bytes-read_back}

-- ---- before the first that passes
module _ (p : Corner → Bool) where
  count_before-length : (vs : List Corner) → count_before p vs ≤ length vs
  unfolding count_before
  count_before-length [] = omega arith
  count_before-length (v ∷ vs) = go (p v) (count_before-length vs)
    where
      go : (b : Bool) → count_before p vs ≤ length vs → cond b 0 (suc (count_before p vs)) ≤ suc (length vs)
      go true h = omega arith
      go false h = omega arith

  count_before-pass : (v : Corner) (vs : List Corner) → p v ≡ true → count_before p (v ∷ vs) ≡ 0
  unfolding count_before
  count_before-pass v vs e = rw e

  count_before-fail : (v : Corner) (vs : List Corner) → p v ≡ false → count_before p (v ∷ vs) ≡ suc (count_before p vs)
  unfolding count_before
  count_before-fail v vs e = rw e

-- ---- the search: none from a number on up to i passes
abbrev pub Sought : (ℕ → Bool) → List ℕ → ℕ → ℕ → Type 0
Sought p l from i = i + count_before (by_x p) (drop i (read_back l)) ≡ from + count_before (by_x p) (drop from (read_back l))

module _ (p : ℕ → Bool) (l : List ℕ) (from i : ℕ) where
  pub sought-here : i < length l / 7 → Sought p l from i → p (read_at l (7 * i)).x ≡ true → i ≡ from + count_before (by_x p) (drop from (read_back l))
  sought-here h s e = omega (arith, s, ap (count_before (by_x p)) (read_back-at i l h), count_before-pass (by_x p) (read_at l (7 * i)) (drop (suc i) (read_back l)) e)

  pub sought-more : i < length l / 7 → Sought p l from i → p (read_at l (7 * i)).x ≡ false → Sought p l from (i + 1)
  sought-more h s e = rw (add-one i) (omega (arith, s, ap (count_before (by_x p)) (read_back-at i l h), count_before-fail (by_x p) (read_at l (7 * i)) (drop (suc i) (read_back l)) e))

  pub sought-none : {n : ℕ} → n ≡ i → length l / 7 ≤ i → Sought p l from i → n ≡ from + count_before (by_x p) (drop from (read_back l))
  unfolding count_before
  sought-none is h s =
      let e : drop i (read_back l) ≡ [] = drop_of_length-le (read_back l) {i = i} (omega (arith, length-read_back l)) in
      omega (arith, is, s, ap (count_before (by_x p)) e)

-- ---- the ends of the run
pub start-in : (x : ℕ) (l : List ℕ) → run_start x (read_back l) ≤ length l / 7
unfolding run_start
start-in x l = omega (arith, count_before-length (asks true x) (read_back l), length-read_back l)

start-end : (x : ℕ) (vs : List Corner) → run_start x vs ≤ run_end x vs
unfolding run_end
start-end x vs = omega arith

end-length : (x : ℕ) (vs : List Corner) → run_end x vs ≤ length vs
unfolding run_end run_start
end-length x vs = omega (arith, count_before-length (asks true x) vs, count_before-length (asks false x) (drop (count_before (asks true x) vs) vs), length-drop (count_before (asks true x) vs) vs)

pub end-in : (x : ℕ) (l : List ℕ) → run_end x (read_back l) ≤ length l / 7
end-in x l = omega (arith, end-length x (read_back l), length-read_back l)

-- a test by which the search goes, for those with that x and for others
abbrev pub its : ℕ → ℕ → Bool
its x w = eqb w x

abbrev pub others : ℕ → ℕ → Bool
others x w = not (eqb w x)

pub start-found : (x : ℕ) (l : List ℕ) {first : ℕ} → first ≡ 0 + count_before (by_x (its x)) (drop 0 (read_back l)) → first ≡ run_start x (read_back l)
unfolding run_start asked
start-found x l e = e ∙ zero-add (count_before (by_x (its x)) (read_back l))

pub end-found : (x : ℕ) (l : List ℕ) {first end : ℕ} → first ≡ run_start x (read_back l) → end ≡ first + count_before (by_x (others x)) (drop first (read_back l)) → end ≡ run_end x (read_back l)
unfolding run_end asked
end-found x l f e = e ∙ ap (λ at. at + count_before (by_x (others x)) (drop at (read_back l))) f

-- ---- its places
module _ (x : ℕ) (l : List ℕ) {first end : ℕ} (f : first ≡ run_start x (read_back l)) (e : end ≡ run_end x (read_back l)) where
  pub places-none : first ≡ end → record { first = 0; end = 0 } ≡ places_of l x
  unfolding places_of places_between
  places-none t = rw (← f, ← e, eq-eqb first end t)

  pub places-run : (first ≡ end → ⊥) → record { first = 7 * first; end = 7 * end } ≡ places_of l x
  unfolding places_of places_between
  places-run t = rw (← f, ← e, ne_eqb first end t)

-- ---- the part between them
-- the bytes from a place on, so many of them, and the bytes from a place to a place
part_lies : (a b : ℕ) (l : List ℕ) → take (b - a) (drop a l) ≡ slice a b l
part_lies zero b l = rw sub-zero
part_lies (suc a) zero l = rw zero-sub
part_lies (suc a) (suc b) [] = take-nil (suc b - suc a)
part_lies (suc a) (suc b) (n ∷ l) = rw suc-sub-suc (part_lies a b l)

module _ (a b : ℕ) (l : List ℕ) where
  between_in : a ≤ b → 7 * b ≤ length l → ((places_between a b).first ≤ (places_between a b).end) × ((places_between a b).end ≤ length l)
  unfolding places_between
  between_in h k = go (eqb a b)
    where
      go : (t : Bool) → ((cond {A = Places} t (record { first = 0; end = 0 }) (record { first = 7 * a; end = 7 * b })).first ≤ (cond {A = Places} t (record { first = 0; end = 0 }) (record { first = 7 * a; end = 7 * b })).end)
          × ((cond {A = Places} t (record { first = 0; end = 0 }) (record { first = 7 * a; end = 7 * b })).end ≤ length l)
      go true = (omega arith, omega arith)
      go false = (omega arith, omega arith)

  -- no bytes are the same wherever they lie
  between-slice : slice (places_between a b).first (places_between a b).end l ≡ slice (7 * a) (7 * b) l
  unfolding places_between
  between-slice = go (eqb a b) refl
    where
      go : (t : Bool) → eqb a b ≡ t → slice (cond {A = Places} t (record { first = 0; end = 0 }) (record { first = 7 * a; end = 7 * b })).first (cond {A = Places} t (record { first = 0; end = 0 }) (record { first = 7 * a; end = 7 * b })).end l ≡ slice (7 * a) (7 * b) l
      go true e = rw (eqb-true a b e) (sym (slice_empty (7 * b) l))
      go false e = refl

bytes_take : (n : ℕ) (l : List ℕ) → Bytes l → Bytes (take n l)
bytes_take zero l h i = omega arith
bytes_take (suc n) [] h i = omega arith
bytes_take (suc n) (a ∷ l) h zero = h 0
bytes_take (suc n) (a ∷ l) h (suc i) = bytes_take n l (λ j. h (suc j)) i

bytes_drop : (n : ℕ) (l : List ℕ) → Bytes l → Bytes (drop n l)
bytes_drop n l h i = rw (get_or-drop n l i 0) (h (n + i))

module _ (l : List ℕ) (x : ℕ) where
  abbrev vs : List Corner
  vs = read_back l

  end-inside : 7 * run_end x vs ≤ length l
  end-inside = omega (arith, end-in x l)

  pub places-in : ((places_of l x).first ≤ (places_of l x).end) × ((places_of l x).end ≤ length l)
  unfolding places_of
  places-in = between_in (run_start x vs) (run_end x vs) l (start-end x vs) end-inside

  part_slice : part_with l x ≡ slice (7 * run_start x vs) (7 * run_end x vs) l
  unfolding part_with places_of
  part_slice = between-slice (run_start x vs) (run_end x vs) l

  -- the records of the part are the run
  pub part-reads : read_back (part_with l x) ≡ first_run x vs
  unfolding first_run
  part-reads = ap read_back part_slice ∙ read_back-slice (run_start x vs) (run_end x vs) l

  part_length : length (part_with l x) ≡ 7 * (run_end x vs - run_start x vs)
  part_length = ap length part_slice ∙ omega (arith, length-slice (7 * run_start x vs) (7 * run_end x vs) l end-inside)

  -- an empty part is from 0 to 0
  pub places-empty : part_with l x ≡ [] → places_of l x ≡ record { first = 0; end = 0 }
  unfolding places_of places_between
  places-empty e = rw (eq-eqb (run_start x vs) (run_end x vs) (omega (arith, ap length e, part_length, start-end x vs)))

  -- and the part is the bytes of the run
  pub part-run : Bytes l → part_with l x ≡ bytes (first_run x vs)
  part-run h =
      let e : 7 * length (read_back (part_with l x)) ≡ length (part_with l x) = omega (arith, length-read_back (part_with l x), part_length) in
      sym (rw (← part-reads, bytes-read_back (part_with l x) (rw part_slice (bytes_drop (7 * run_start x vs) (take (7 * run_end x vs) l) (bytes_take (7 * run_end x vs) l h))), e) (take-length (part_with l x)))

  -- it is what lies between the places that were found
  pub part-found : {places : Places} → places ≡ places_of l x → take (places.end - places.first) (drop places.first l) ≡ part_with l x
  unfolding part_with
  part-found {places} e = part_lies places.first places.end l ∙ ap (λ (p : Places). slice p.first p.end l) e

-- ---- of the bytes of corners
drop-bytes : (k : ℕ) (vs : List Corner) → drop (7 * k) (bytes vs) ≡ bytes (drop k vs)
unfolding bytes corner_record
drop-bytes zero vs = refl
drop-bytes (suc k) [] = drop-nil (7 * suc k)
drop-bytes (suc k) (v ∷ vs) = rw (seven-more k) (drop-bytes k vs)

take-bytes : (k : ℕ) (vs : List Corner) → take (7 * k) (bytes vs) ≡ bytes (take k vs)
unfolding bytes corner_record
take-bytes zero vs = refl
take-bytes (suc k) [] = take-nil (7 * suc k)
take-bytes (suc k) (v ∷ vs) = rw (seven-more k, take-bytes k vs)

pub part_bytes : (x : ℕ) (vs : List Corner) → part_with (bytes vs) x ≡ bytes (first_run x vs)
unfolding first_run
part_bytes x vs = part_slice (bytes vs) x ∙ rw (read_back-bytes vs, take-bytes (run_end x vs) vs) (drop-bytes (run_start x vs) (take (run_end x vs) vs))
