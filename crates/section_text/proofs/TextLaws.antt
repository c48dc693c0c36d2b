-- The lines of corners one after another. Assumes nothing.
use mathlib.Core.Path.{◌≡◌, ap}
use mathlib.Core.Bool.{cond}
use Rattle.std.specs.Prelude.{None, Some}
use mathlib.Core.List.{List, [], ◌∷◌, ◌++◌, append_assoc}
use Prim.Native.Nat.{ℕ, zero, suc, ◌+◌, ◌*◌, ◌/◌, ◌%◌, ◌^◌, ◌≤◌, ◌<◌}
use native.Mathlib.Nat.{suc-add, pow-suc}
use native.Mathlib.Omega.{arith}
use lib.Dec.{ltb}
use lib.ListN.{length, length-append}
use borrow.Author.Tests.{lt-ltb}
use Rattle.buffer.specs.Wrote.{Wrote}
use Rattle.buffer.proofs.Underway.{Underway, underway-none, underway-all, underway-more}
use Rattle.lattice.specs.Listing.{Corner, read_back}
use Rattle.section.specs.Section.{Steps}
use Rattle.section.specs.declared.Corner.{Corner as Found}
use Rattle.section.specs.declared.Corners.{Corners}
use Rattle.section.proofs.ReaderLaws.{First, left, left-none, left-first}
use Rattle.text_parts.specs.Decimal.{digits, decimal}
use Rattle.text_parts.proofs.LineLaws.{digits-length}
use Rattle.section_text.specs.CornerLines.{digits_then, corner_line, corner_lines}

pub number-length : (n a end : ℕ) → length (digits_then n a end) ≤ n + 1
unfolding digits_then
number-length n a end = omega (arith, length-append (digits n a) (end ∷ []), digits-length n a)

line-few : (x y z p : ℕ) → length (corner_line x y z p) ≤ 22
unfolding corner_line
line-few x y z p =
    omega (
      arith,
      length-append (digits_then 5 x 32) (digits_then 5 y 32 ++ (digits_then 5 z 32 ++ digits_then 3 p 10)),
      length-append (digits_then 5 y 32) (digits_then 5 z 32 ++ digits_then 3 p 10),
      length-append (digits_then 5 z 32) (digits_then 3 p 10),
      number-length 5 x 32,
      number-length 5 y 32,
      number-length 5 z 32,
      number-length 3 p 10,
    )

-- ---- the loop: the lines of what the reader has left are still to come, and there is room for them
pub record Lined (before now : List ℕ) (all : List Corner) (reader : Corners) (next : ℕ) : Type 0 where
  pub room : next + 22 * length (left reader) ≤ 22 * length all
  pub lines : Underway (corner_lines all) before now 0 next (corner_lines (left reader))

pub lined-none : {before l : List ℕ} {reader : Corners} → reader.listing.now ≡ l → reader.at ≡ 0 → Lined before before (read_back l) reader 0
lined-none {before} {l} {reader} e k = let is : left reader ≡ read_back l = rw (e, k) in
    record { room = rw is (omega arith); lines = rw is (underway-none (corner_lines (read_back l)) before 0 (omega arith)) }

lines-first : {c : Found} {vs rest : List Corner} → First c vs rest → corner_lines vs ≡ corner_line c.x c.y c.z c.pattern ++ corner_lines rest
unfolding corner_lines
lines-first f = rw (f.is, f.given)

module _ {before now : List ℕ} {all : List Corner} {reader moved : Corners} {next : ℕ} (d : Lined before now all reader next) where
  pub lined-room : {c : Found} → Steps reader (Some c) moved → next + 22 ≤ 22 * length all
  lined-room s = omega (arith, d.room, ap length (left-first reader moved s).is)

  pub lined-more : {c : Found} → Steps reader (Some c) moved → {then : List ℕ} {after : ℕ} → Wrote now then next after (corner_line c.x c.y c.z c.pattern) → Lined before then all moved after
  lined-more {c} s w =
      let f = left-first reader moved s in
      record {
        room = omega (arith, d.room, ap length f.is, w.next, line-few c.x c.y c.z c.pattern);
        lines = underway-more d.lines (corner_line c.x c.y c.z c.pattern) (corner_lines (left moved)) (lines-first f) w;
      }

  pub lined-all : Steps reader None moved → Wrote before now 0 next (corner_lines all)
  unfolding corner_lines
  lined-all s = underway-all d.lines (ap corner_lines (left-none reader moved s))

-- ---- so many digits are enough
digits-enough : (n k a : ℕ) → a < 10 ^ suc n → digits (suc (n + k)) a ≡ digits (suc n) a
unfolding digits
digits-enough zero k a h = rw (lt-ltb a 10 h)
digits-enough (suc n) k a h = rw (suc-add n k) (ap (λ ds. cond (ltb a 10) [] ds ++ ((48 + a % 10) ∷ [])) (digits-enough n k (a / 10) (omega (arith, h, pow-suc 10 (suc n)))))

-- of 16-bit numbers and a byte, the line has them in decimal
pub line-decimal : (x y z p : ℕ) → x < 2 ^ 16 → y < 2 ^ 16 → z < 2 ^ 16 → p < 2 ^ 8 → corner_line x y z p ≡ decimal x ++ (32 ∷ (decimal y ++ (32 ∷ (decimal z ++ (32 ∷ (decimal p ++ (10 ∷ [])))))))
unfolding corner_line digits_then
line-decimal x y z p hx hy hz hp =
    rw (digits-enough 4 15 x (omega arith), digits-enough 4 15 y (omega arith), digits-enough 4 15 z (omega arith), digits-enough 2 17 p (omega arith)) (simp append_assoc)
