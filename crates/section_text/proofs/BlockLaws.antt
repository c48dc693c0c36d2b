-- The blocks of a listing: the bytes and records of one, and that the lines of all, one after another, are those of all records. Assumes
-- nothing.
use mathlib.Core.Path.{◌≡◌, refl, sym, ◌∙◌, ap}
use mathlib.Core.Logic.{⊎_elim}
use mathlib.Core.List.{List, [], ◌∷◌, ◌++◌, append_assoc}
use Prim.Native.Nat.{ℕ, zero, suc, ◌+◌, ◌-◌, ◌*◌, ◌≤◌, ◌<◌, min}
use native.Mathlib.Omega.{arith}
use lib.ListN.{length, take, drop, length-take, length-drop, drop_of_length-le}
use lib.Seq.{take_all, take-nil, take-add}
use Rattle.ground.proofs.Tests.{less-or-not}
use Rattle.ground.specs.Sums.{join}
use Rattle.lattice.specs.Listing.{Corner, read_back}
use Rattle.section.specs.Section.{first_run, part_with}
use Rattle.section.proofs.RecordLaws.{read_back-take, read_back-drop, length-read_back}
use Rattle.section.proofs.RunLaws.{part-reads}
use Rattle.section_text.specs.CornerLines.{corner_line, corner_lines, block_count, block_lines}

-- ---- one block
-- so many elements from a place on lie between two places of the list
pub block-lies : {A : Type 0} (k a : ℕ) (l : List A) {start end : ℕ} → start ≡ min a (length l) → end ≡ min (start + k) (length l) → take (end - start) (drop start l) ≡ take k (drop a l)
block-lies {A = A} k a l {start} {end} s e = ⊎_elim whole past (less-or-not a (length l))
  where
    past : length l ≤ a → take (end - start) (drop start l) ≡ take k (drop a l)
    past h = rw (drop_of_length-le l {i = a} h, drop_of_length-le l {i = start} (omega arith), take-nil {A = A} (end - start), take-nil {A = A} k)

    whole : a < length l → take (end - start) (drop start l) ≡ take k (drop a l)
    whole h = ⊎_elim (inner same) (last same) (less-or-not (start + k) (length l))
      where
        same : start ≡ a
        same = omega arith

        inner : start ≡ a → start + k < length l → take (end - start) (drop start l) ≡ take k (drop a l)
        inner p g = let q : end - start ≡ k = omega arith in rw (q, p)

        last : start ≡ a → length l ≤ start + k → take (end - start) (drop start l) ≡ take k (drop a l)
        last p g =
            take_all (end - start) (drop start l) (omega (arith, length-drop start l))
            ∙ (ap (λ i. drop i l) p ∙ sym (take_all k (drop a l) (omega (arith, length-drop a l))))

module _ (l : List ℕ) (number : ℕ) where
  block_reads : read_back (take 14336 (drop (14336 * number) l)) ≡ take 2048 (drop (2048 * number) (read_back l))
  block_reads = read_back-take 2048 (drop (14336 * number) l) ∙ ap (take 2048) (ap (λ at. read_back (drop at l)) sevens ∙ read_back-drop (2048 * number) l)
    where
      sevens : 14336 * number ≡ 7 * (2048 * number)
      sevens = omega arith

  pub block-lined : {block : List ℕ} → block ≡ take 14336 (drop (14336 * number) l) → corner_lines (read_back block) ≡ block_lines l number
  unfolding block_lines
  block-lined e = ap corner_lines (ap read_back e ∙ block_reads)

  pub block-few : {block : List ℕ} → block ≡ take 14336 (drop (14336 * number) l) → length block ≤ 14336
  block-few e = omega (arith, ap length e, length-take 14336 (drop (14336 * number) l))

-- ---- one after another
lines-append : (a b : List Corner) → corner_lines (a ++ b) ≡ corner_lines a ++ corner_lines b
unfolding corner_lines
lines-append [] b = refl
lines-append (v ∷ a) b = rw (lines-append a b) (sym (append_assoc (corner_line v.x v.y v.z v.pattern) (corner_lines a) (corner_lines b)))

blocks-front : (n : ℕ) (l : List ℕ) → join n (block_lines l) ≡ corner_lines (take (2048 * n) (read_back l))
unfolding join block_lines corner_lines
blocks-front zero l = refl
blocks-front (suc n) l =
    ap (λ lines. lines ++ block_lines l n) (blocks-front n l)
    ∙ (sym (lines-append (take (2048 * n) (read_back l)) (take 2048 (drop (2048 * n) (read_back l))))
    ∙ ap corner_lines (sym (take-add (2048 * n) 2048 (read_back l)) ∙ ap (λ k. take k (read_back l)) more))
  where
    more : 2048 * n + 2048 ≡ 2048 * suc n
    more = omega arith

-- the blocks of a listing are the lines of its records
blocks-all : (l : List ℕ) → join (block_count l) (block_lines l) ≡ corner_lines (read_back l)
blocks-all l = blocks-front (block_count l) l ∙ ap corner_lines (take_all (2048 * block_count l) (read_back l) (omega (arith, length-read_back l)))

-- what the program prints: the blocks of the part of an x are the lines of the first unbroken run of that x
pub section-text : (l : List ℕ) (x : ℕ) → join (block_count (part_with l x)) (block_lines (part_with l x)) ≡ corner_lines (first_run x (read_back l))
section-text l x = blocks-all (part_with l x) ∙ ap corner_lines (part-reads l x)
