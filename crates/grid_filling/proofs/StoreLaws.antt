-- Lent slices: places numbered one by one, and the index put in cell by cell.
use mathlib.Core.Path.{◌≡◌, refl, sym, ◌∙◌}
use mathlib.Core.List.{List, [], ◌∷◌, ◌++◌, append_assoc, append-nil}
use Prim.Native.Nat.{ℕ, suc, ◌+◌, ◌-◌, ◌≤◌, ◌<◌}
use native.Mathlib.Nat.{add-zero}
use native.Mathlib.Numerals.{add-one}
use native.Mathlib.Omega.{arith}
use lib.ListN.{length, take, drop, set, get_or, length-append, length-drop, length-set, take-append-drop}
use lib.Seq.{length-take-le, drop-drop, drop-cons, set_at, set-append_left, append_snoc, drop-length}
use Rattle.ground.specs.Sums.{join}
use Rattle.buffer.specs.Wrote.{Wrote}
use Rattle.buffer.proofs.WroteLaws.{wrote-length, wrote-behind}
use Rattle.ground.specs.Numbers.{up_to}
use Rattle.grid.specs.Grid.{starts}
use Rattle.grid_filling.specs.Filling.{run_place, RunsIn, Ready, Grew}
use Rattle.grid.proofs.StartLaws.{starts-length, starts-next}
use Rattle.ground.proofs.JoinLaws.{join-next, join-length-next, join-length-up}
use Rattle.ground.proofs.NumberLaws.{up_to-length}

-- ---- a slice whose places are numbered one by one

module _ (w : List ℕ) where
  pub numbered-none : w ≡ up_to 0 ++ drop 0 w
  unfolding up_to
  numbered-none = refl

  pub numbered-turn : (i : ℕ) {b : List ℕ} → i < length w → b ≡ up_to i ++ drop i w → set b i i ≡ up_to (i + 1) ++ drop (i + 1) w
  unfolding up_to
  numbered-turn i h e =
      rw (e, add-one i, drop-cons w i 0 h, set_at (up_to i) (get_or w i 0) (drop (suc i) w) i i (up_to-length i))
      (sym (append_snoc (up_to i) i (drop (suc i) w)))

  pub numbered-all : (i : ℕ) {b : List ℕ} → i ≡ length w → b ≡ up_to i ++ drop i w → b ≡ up_to (length w)
  numbered-all i h e = e ∙ rw (h, drop-length w) (append-nil (up_to (length w)))

-- ---- the index, cell by cell

module _ (run : ℕ → List ℕ) (N : ℕ) where
  pub runs-in-none : (w : List ℕ) → N + 1 ≤ length w → RunsIn run N 0 w w
  unfolding starts join
  runs-in-none w h =
      record {
        waiting = take (N + 1) w;
        left = omega (arith, length-take-le (N + 1) w h);
        is = rw (add-zero (N + 1)) (sym (take-append-drop (N + 1) w));
      }

  module _ (c : ℕ) (w₀ : List ℕ) where
    -- a starting place goes in front of those that are yet to come
    start-in : (w y : List ℕ) (t : List ℕ) → c + length y ≡ N + 1 → c ≤ N → w ≡ (starts run c ++ y) ++ t → set w c (length (join c run)) ≡ (starts run (c + 1) ++ drop 1 y) ++ t
    start-in w [] t l h e = absurd (omega arith)
    start-in w (y ∷ ys) t l h e =
        rw (e, set-append_left (starts run c ++ y ∷ ys) t c (length (join c run)) (omega (arith, starts-length run c, length-append (starts run c) (y ∷ ys))), set_at (starts run c) y ys (length (join c run)) c (starts-length run c), starts-next run c, append_snoc (starts run c) (length (join c run)) ys)

    module _ {w w' : List ℕ} {r : ℕ} (h : c < N) (a : Wrote (set w c (length (join c run))) w' (run_place run N c) r (run c)) where
      -- a run and its starting place
      cell_in : RunsIn run N c w₀ w → RunsIn run N (c + 1) w₀ w'
      cell_in f =
          let place : N + 1 + length (join c run ++ run c) ≡ run_place run N c + length (run c) = omega (arith, length-append (join c run) (run c)) in
          record {
            waiting = drop 1 f.waiting;
            left = omega (arith, length-drop 1 f.waiting, f.left);
            is = wrote-behind d (drop (run_place run N c) w₀) long e a ∙ rw (join-next run c, drop-drop (length (run c)) (run_place run N c) w₀, place) (simp append_assoc);
          }
        where
          d : List ℕ
          d = (starts run (c + 1) ++ drop 1 f.waiting) ++ join c run

          long : length d ≡ run_place run N c
          long =
              omega (arith, length-append (starts run (c + 1) ++ drop 1 f.waiting) (join c run), length-append (starts run (c + 1)) (drop 1 f.waiting), starts-length run (c + 1), length-drop 1 f.waiting, f.left)

          e : set w c (length (join c run)) ≡ d ++ drop (run_place run N c) w₀
          e =
              start-in w f.waiting (join c run ++ drop (run_place run N c) w₀) f.left (omega arith) f.is
              ∙ sym (append_assoc (starts run (c + 1) ++ drop 1 f.waiting) (join c run) (drop (run_place run N c) w₀))

  pub grew_none : (c at : ℕ) (w : List ℕ) → Ready run N c at w → Grew run N c c w w at
  grew_none c at w h = record { next = h.next; same_length = refl; fills = λ w₀ f. f }

  pub grew-cell : (c at : ℕ) {w w' : List ℕ} {r : ℕ} → c < N → Ready run N c at w → Wrote (set w c (at - (N + 1))) w' at r (run c) → Grew run N c (c + 1) w w' r
  grew-cell c at {w} {w'} {r} h p a =
      let e : at - (N + 1) ≡ length (join c run) = omega (arith, p.next) in
      record {
        next = omega (arith, a.next, p.next, join-length-next run c);
        same_length = wrote-length a ∙ length-set w c (at - (N + 1));
        fills = λ w₀ f. cell_in c w₀ h (rw (e, p.next) at a) f;
      }

  pub grew_then : {c c' c'' : ℕ} {w w' w'' : List ℕ} {r r' : ℕ} → Grew run N c c' w w' r → Grew run N c' c'' w' w'' r' → Grew run N c c'' w w'' r'
  grew_then a b =
      record { next = b.next; same_length = b.same_length ∙ a.same_length; fills = λ w₀ f. b.fills w₀ (a.fills w₀ f) }

  pub ready-after : {c c' at : ℕ} {w w' : List ℕ} {r : ℕ} → Ready run N c at w → Grew run N c c' w w' r → Ready run N c' r w'
  ready-after p a = record { next = a.next; room = omega (arith, a.same_length, p.room) }

  -- there is room for the run of each cell
  pub ready-room : (c : ℕ) {at : ℕ} {w : List ℕ} → c < N → Ready run N c at w → at + length (run c) ≤ length w
  ready-room c h p = omega (arith, p.next, p.room, join-length-next run c, join-length-up run (c + 1) N (omega arith))

  -- the last starting place makes the index whole
  pub index-whole : (w₀ w : List ℕ) → RunsIn run N N w₀ w → set w N (length (join N run)) ≡ (starts run (N + 1) ++ join N run) ++ drop (run_place run N N) w₀
  index-whole w₀ w f =
      start-in N w₀ w f.waiting (join N run ++ drop (run_place run N N) w₀) f.left (omega arith) f.is
      ∙ rw (nothing f.waiting f.left, append-nil (starts run (N + 1))) (sym (append_assoc (starts run (N + 1)) (join N run) (drop (run_place run N N) w₀)))
    where
      nothing : (y : List ℕ) → N + length y ≡ N + 1 → drop 1 y ≡ []
      nothing [] e = refl
      nothing (a ∷ []) e = refl
      nothing (a ∷ b ∷ l) e = absurd (omega arith)
