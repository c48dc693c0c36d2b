-- The cover test of a run, shot by shot.
use mathlib.Core.Path.{◌≡◌, refl, sym, ap, ◌∙◌}
use mathlib.Core.Bool.{Bool, true, false, cond, true≢false}
use Rattle.std.specs.Prelude.{None, Some, is_some}
use mathlib.Core.List.{List, [], ◌∷◌}
use Prim.Native.Nat.{ℕ, zero, suc, ◌+◌, ◌≤◌, ◌<◌}
use native.Mathlib.Numerals.{add-one}
use native.Mathlib.Omega.{arith}
use lib.ListN.{length, get_or, drop}
use lib.Seq.{drop-cons, drop-length}
use Rattle.ground.specs.Numbers.{those}
use Rattle.grid_cover.specs.Cover.{shot_covers, first, first_covering, run_covers}

-- ---- the first of a list that passes a test

-- those that pass a weaker test are enough
module _ (f p : ℕ → Bool) (h : (s : ℕ) → f s ≡ true → p s ≡ true) where
  pub first-among : (l : List ℕ) → first f (those p l) ≡ first f l
  unfolding first those
  first-among [] = refl
  first-among (s ∷ l) = one (p s) (f s) refl refl (first-among l)
    where
      one : (b c : Bool) → p s ≡ b → f s ≡ c → first f (those p l) ≡ first f l → first f (cond b (s ∷ those p l) (those p l)) ≡ cond c (Some s) (first f l)
      one true true ep ef k = rw ef
      one true false ep ef k = rw ef k
      one false true ep ef k = absurd (true≢false (sym (h s ef) ∙ ep))
      one false false ep ef k = k

-- ---- a run, shot by shot

module _ (e : ℕ) (coords : List ℕ) (run : List ℕ) (i j k : ℕ) where
  -- whether the shot at a place of the run covers the cell
  abbrev pub covers_at : ℕ → Bool
  covers_at n = shot_covers e coords (get_or run n 0) i j k

  -- where no shot before place n covers the cell, the first that does is the first of the rest
  abbrev pub RestDecides : ℕ → Type 0
  RestDecides n = first_covering e coords (drop n run) i j k ≡ first_covering e coords run i j k

  pub rest-next : (n : ℕ) → n < length run → covers_at n ≡ false → RestDecides n → RestDecides (n + 1)
  unfolding first_covering first
  rest-next n h miss rest =
      let step : first_covering e coords (drop n run) i j k ≡ first_covering e coords (drop (suc n) run) i j k = rw (drop-cons run n 0 h, miss) in
      rw (add-one n) (sym step ∙ rest)

  pub rest_decides : (n : ℕ) → n ≤ length run → ((p : ℕ) → p < n → covers_at p ≡ false) → RestDecides n
  rest_decides zero h miss = refl
  rest_decides (suc n) h miss = rw (← add-one n) (rest-next n h (miss n (omega arith)) (rest_decides n (omega arith) (λ p l. miss p (omega arith))))

  pub rest-found : (n : ℕ) → n < length run → covers_at n ≡ true → RestDecides n → Some (get_or run n 0) ≡ first_covering e coords run i j k
  unfolding first_covering first
  rest-found n h hit rest = rw (← rest, drop-cons run n 0 h, hit)

  pub rest-none : (n : ℕ) → n ≡ length run → RestDecides n → None ≡ first_covering e coords run i j k
  unfolding first_covering first
  rest-none n h rest = rw (← rest, h, drop-length run)

  -- a run of no shot
  pub run_none : length run ≡ 0 → false ≡ run_covers e coords run i j k
  run_none h = ap is_some (rest-none 0 (sym h) refl)
