-- The bits that name the columns of a line, and lines without any.
use mathlib.Core.Path.{◌≡◌, refl, sym, ◌∙◌, ap}
use mathlib.Core.Bool.{Bool, true, false, ◌||◌}
use mathlib.Core.List.{List, []}
use Prim.Native.Nat.{ℕ, ◌+◌, ◌<◌, ◌≤◌}
use native.Mathlib.Numerals.{add-one}
use native.Mathlib.Omega.{arith}
use lib.Bits.{bit_or}
use lib.ListN.{get_or}
use Rattle.ground.proofs.Bools.{or-false}
use Rattle.ground.specs.Sums.{join}
use Rattle.lattice.specs.Listing.{Corner}
use Rattle.sweep_words.specs.Words.{bit_at}
use Rattle.sweep_words.proofs.BitLaws.{bit-or, bit-zero}
use Rattle.sweep_image.specs.Images.{columns, word_at}
use Rattle.sweep_names.specs.Names.{Tells}
use Rattle.sweep_tally.specs.Found.{Found, found}
use Rattle.sweep_tally.proofs.FoundLaws.{found-append}
use Rattle.sweep_blanks.specs.Blanks.{Blank}
use Rattle.sweep_columns.specs.Columns.{column_at}
use Rattle.sweep_columns.proofs.CornerLaws.{quiet-words}
use Rattle.sweep_columns.proofs.Joins.{join-quiet}
use Rattle.sweep_columns.proofs.Visits.{Names}
use Rattle.sweep_points.specs.Points.{line_at}

-- ---- the columns of a line
module _ (n x y : ℕ) {l u names : List ℕ} (t : Tells n l u names) (hy : y ≤ 1024) where
  quiet-column : (k : ℕ) → k < columns n → bit_at (get_or names y 0) k ≡ false → bit_at (get_or names (y + 1) 0) k ≡ false
      → column_at x y l u k ≡ []
  unfolding column_at
  quiet-column k h e f =
      quiet-words x y k (word_at l k y) (word_at l k (y + 1)) (word_at u k y) (word_at u k (y + 1))
      (t.same k y h (omega arith) e) (t.same k (y + 1) h (omega arith) f)

  pub names-columns : Names (columns n) (bit_or (get_or names y 0) (get_or names (y + 1) 0)) (column_at x y l u)
  names-columns = record {
    few = λ k e. go k (bit_at (get_or names y 0) k) refl (sym (named k) ∙ e);
    quiet = λ k h e.
        let q = or-false (bit_at (get_or names y 0) k) (bit_at (get_or names (y + 1) 0) k) (sym (named k) ∙ e) in
        quiet-column k h q.0 q.1;
  }
    where
      named : (k : ℕ) → bit_at (bit_or (get_or names y 0) (get_or names (y + 1) 0)) k ≡ (bit_at (get_or names y 0) k || bit_at (get_or names (y + 1) 0) k)
      named k = bit-or (get_or names y 0) (get_or names (y + 1) 0) k

      go : (k : ℕ) (b : Bool) → bit_at (get_or names y 0) k ≡ b → (b || bit_at (get_or names (y + 1) 0) k) ≡ true → k < columns n
      go k true e f = t.few k y e
      go k false e f = t.few k (y + 1) f

  quiet_line : get_or names y 0 ≡ 0 → get_or names (y + 1) 0 ≡ 0 → line_at n x l u y ≡ []
  unfolding line_at join
  quiet_line e f = join-quiet 0 (columns n) (column_at x y l u) (omega arith)
      (λ k a h. quiet-column k h (ap (λ w. bit_at w k) e ∙ bit-zero k) (ap (λ w. bit_at w k) f ∙ bit-zero k))

-- ---- the lines of a plane
module _ (n x : ℕ) {l u names : List ℕ} (t : Tells n l u names) where
  pub lines-past : (y r : ℕ) (g : Found) {h : Found} → y ≤ r → r ≤ 1025 → Blank names y r → h ≡ found g (join y (line_at n x l u))
      → h ≡ found g (join r (line_at n x l u))
  lines-past y r g a b d e =
      e
      ∙ ap (found g) (sym (join-quiet y r (line_at n x l u) a (λ i c k. quiet_line n x i t (omega arith) (d.at i c k).0 (d.at i c k).1)))

pub lines_none : (f : ℕ → List Corner) (g : Found) → g ≡ found g (join 0 f)
unfolding found join
lines_none f g = refl

pub lines_more : (f : ℕ → List Corner) (y : ℕ) (g : Found) {h i : Found} → h ≡ found g (join y f) → i ≡ found h (f y)
    → i ≡ found g (join (y + 1) f)
unfolding join
lines_more f y g {h} {i} e k =
    k ∙ ap (λ s. found s (f y)) e ∙ sym (found-append g (join y f) (f y)) ∙ ap (λ m. found g (join m f)) (sym (add-one y))
