-- The lines of the shots, one after another: what a loop over the cursor has written, and what is left.
use mathlib.Core.Path.{◌≡◌, refl, sym, ap, ◌∙◌}
use mathlib.Core.List.{List, [], ◌++◌, append_assoc, append-nil}
use Prim.Native.Nat.{ℕ, suc, ◌+◌, ◌-◌, ◌*◌, ◌≤◌, ◌<◌}
use native.Mathlib.Omega.{arith}
use lib.ListN.{length}
use borrow.Author.Tests.{le-ltb, lt-ltb}
use Rattle.buffer.specs.Wrote.{Wrote}
use Rattle.buffer.proofs.WroteLaws.{wrote_none, wrote_then, wrote_as}
use Rattle.refusals.specs.declared.Refusal.{Refusal}
use Rattle.refusals.specs.declared.Refusal.TheVariants.{TooManyShots}
use Rattle.shotfile_reader.specs.declared.Cursor.{Cursor}
use Rattle.std.specs.Prelude.{Ok, Err, Some, None}
use Rattle.shotfile_reader.specs.Files.{Step, step_at}
use Rattle.shotfile_lines.specs.Lines.{shot_line, refused_line}
use Rattle.shotfile_shots.specs.ShotLines.{step_line, shot_lines}
use Rattle.shotfile_lines.proofs.LineLaws.{refused-length, shot-length}

-- ---- the shots from a cursor on, by what stands there
module _ (s : List ℕ) (c : Cursor) (n : ℕ) where
  pub lines-on : (left : ℕ) → shot_lines (suc left) n s c ≡ step_line n c.at (step_at s c) (shot_lines left (n + 1) s)
  unfolding shot_lines
  lines-on left = refl

  lines_end : length s ≤ c.at → shot_lines 0 n s c ≡ []
  unfolding shot_lines
  lines_end h = simp (le-ltb c.at (length s) h)

  lines-many : c.at < length s → shot_lines 0 n s c ≡ refused_line (TooManyShots c.at)
  unfolding shot_lines
  lines-many h = simp (lt-ltb c.at (length s) h)

-- ---- the loop
-- n lines are written from a place on, up to `next`, and what all lines have more is the lines from the cursor on
pub record Listed (s all w w' : List ℕ) (at next : ℕ) (c : Cursor) (n : ℕ) : Type 0 where
  pub lines : List ℕ
  pub wrote : Wrote w w' at next lines
  pub rest : lines ++ shot_lines (4096 - n) n s c ≡ all
  pub few : next ≤ at + 125 * n

-- all lines are written, and how long they are at most
abbrev pub AllListed : (all w w' : List ℕ) (at r : ℕ) → Type 0
AllListed all w w' at r = Wrote w w' at r all × (r ≤ at + 512128)

pub listed-none : (s w : List ℕ) (at : ℕ) (c : Cursor) → at + 512128 ≤ length w → Listed s (shot_lines 4096 0 s c) w w at at c 0
listed-none s w at c h = record { lines = []; wrote = wrote_none w at (omega arith); rest = refl; few = omega arith }

module _ {s all w w' : List ℕ} {at next : ℕ} {c : Cursor} {n : ℕ} (l : Listed s all w w' at next c n) where
  module _ (h : n < 4096) where
    -- by what the step gave
    on : (t : Step) → t ≡ step_at s c → l.lines ++ step_line n c.at t (shot_lines (4096 - (n + 1)) (n + 1) s) ≡ all
    on t e =
        let k : 4096 - n ≡ suc (4096 - (n + 1)) = omega arith in
        let m : shot_lines (4096 - n) n s c ≡ step_line n c.at (step_at s c) (shot_lines (4096 - (n + 1)) (n + 1) s) = ap (λ (k : ℕ). shot_lines k n s c) k ∙ lines-on s c n (4096 - (n + 1)) in
        ap (λ (t : Step). l.lines ++ step_line n c.at t (shot_lines (4096 - (n + 1)) (n + 1) s)) e ∙ (ap (λ (x : List ℕ). l.lines ++ x) (sym m) ∙ l.rest)

    pub listed-shot : {w'' : List ℕ} {r : ℕ} {after : Cursor} → Ok (Some after) ≡ step_at s c → Wrote w' w'' next r (shot_line after.last n c.at) → Listed s all w w'' at r after (n + 1)
    listed-shot {after = after} e x =
        record {
          lines = l.lines ++ shot_line after.last n c.at;
          wrote = wrote_then l.wrote x;
          rest = append_assoc l.lines (shot_line after.last n c.at) (shot_lines (4096 - (n + 1)) (n + 1) s after) ∙ on (Ok (Some after)) e;
          few = omega (arith, l.few, x.next, shot-length after.last n c.at);
        }

    pub listed-stopped : {w'' : List ℕ} {r : ℕ} {q : Refusal} → Err q ≡ step_at s c → Wrote w' w'' next r (refused_line q) → AllListed all w w'' at r
    listed-stopped {q = q} e x = (wrote_as (on (Err q) e) (wrote_then l.wrote x), omega (arith, l.few, x.next, refused-length q))

    pub listed-ended : Ok None ≡ step_at s c → AllListed all w w' at next
    listed-ended e = (wrote_as (sym (append-nil l.lines) ∙ on (Ok None) e) l.wrote, omega (arith, l.few))

  module _ (h : n ≡ 4096) where
    last : (x : List ℕ) → shot_lines 0 n s c ≡ x → l.lines ++ x ≡ all
    last x e =
        let k : 4096 - n ≡ 0 = omega arith in
        ap (λ (y : List ℕ). l.lines ++ y) (sym (ap (λ (k : ℕ). shot_lines k n s c) k ∙ e)) ∙ l.rest

    pub listed-all : length s ≤ c.at → AllListed all w w' at next
    listed-all e = (wrote_as (sym (append-nil l.lines) ∙ last [] (lines_end s c n e)) l.wrote, omega (arith, l.few))

    pub listed-many : {w'' : List ℕ} {r : ℕ} → c.at < length s → Wrote w' w'' next r (refused_line (TooManyShots c.at)) → AllListed all w w'' at r
    listed-many e x = (wrote_as (last (refused_line (TooManyShots c.at)) (lines-many s c n e)) (wrote_then l.wrote x), omega (arith, l.few, x.next, refused-length (TooManyShots c.at)))
