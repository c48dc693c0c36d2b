-- What the lowest covering shot of a list is: a shot of the list that covers the cell, while no earlier one does.
use mathlib.Core.Path.{◌≡◌, refl, sym, ap, ◌∙◌, subst}
use mathlib.Core.Bool.{Bool, true, false, cond, ◌&&◌}
use Rattle.std.specs.Prelude.{Option, None, Some, is_some}
use mathlib.Core.List.{List, [], ◌∷◌, ◌++◌}
use Prim.Native.Nat.{ℕ, zero, suc, ◌<◌}
use native.Mathlib.Numerals.{add-one}
use native.Mathlib.Omega.{arith}
use lib.Dec.{ltb}
use borrow.Author.Tests.{lt-ltb}
use Rattle.ground.specs.Numbers.{any_to, up_to}
use Rattle.ground.specs.FirstPlace.{FirstPlace}
use Rattle.ground.proofs.Bools.{and-true}
use Rattle.ground.proofs.AnyLaws.{any-to-none, any-to-true}
use Rattle.ground.proofs.SearchLaws.{search-none, search-more, search-all}
use Rattle.lattice.specs.Shots.{covers}
use Rattle.job.specs.Job.{shot_count, shot_at}
use Rattle.grid_cover.specs.Cover.{shot_covers, first, first_covering, lowest_covering}

module _ (f : ℕ → Bool) where
  -- of one list behind another: that of the first, or else that of the second
  or_else : Option ℕ → Option ℕ → Option ℕ
  or_else None o = o
  or_else (Some s) o = Some s

  first-append : (l m : List ℕ) → first f (l ++ m) ≡ or_else (first f l) (first f m)
  unfolding first or_else
  first-append [] m = refl
  first-append (a ∷ l) m = one (f a) (first-append l m)
    where
      one : (b : Bool) → first f (l ++ m) ≡ or_else (first f l) (first f m) → cond b (Some a) (first f (l ++ m)) ≡ or_else (cond b (Some a) (first f l)) (first f m)
      one true h = refl
      one false h = h

  -- the first of 0, 1, .. n - 1 that passes is the first place that does
  abbrev Lowest : ℕ → Option ℕ → Type 0
  Lowest n None = FirstPlace f 0 n n
  Lowest n (Some s) = (s < n) × FirstPlace f 0 n s

  first-up : (n : ℕ) → Lowest n (first f (up_to n))
  unfolding up_to first or_else
  first-up zero = search-all (search-none (omega arith)) (omega arith)
  first-up (suc n) = subst (Lowest (suc n)) (sym (first-append (up_to n) (n ∷ []))) (next (first f (up_to n)) (f n) refl (first-up n))
    where
      next : (o : Option ℕ) (b : Bool) → f n ≡ b → Lowest n o → Lowest (suc n) (or_else o (cond b (Some n) None))
      next None true e h = (omega arith, record { onward = omega arith; within = omega arith; earlier = h.earlier; passes = λ l. e })
      next None false e h = rw (← add-one n) (search-all (search-more (record { onward = omega arith; within = omega arith; earlier = h.earlier }) (omega arith) refl e) (omega arith))
      next (Some s) b e h = (omega (arith, h.0), record { onward = omega arith; within = omega (arith, h.0); earlier = h.1.earlier; passes = λ l. h.1.passes h.0 })

  pub first_any : (n : ℕ) → is_some (first f (up_to n)) ≡ any_to n f
  first_any n = go (first f (up_to n)) (first-up n)
    where
      go : (o : Option ℕ) → Lowest n o → is_some o ≡ any_to n f
      go None h = sym (any-to-none n (λ i l. h.earlier i (omega arith) l))
      go (Some s) h = sym (any-to-true n f s h.0 (h.1.passes h.0))

-- ---- the lowest covering shot of a list

module _ (E : ℕ) (coords : List ℕ) (i j k s : ℕ) (e : lowest_covering E coords i j k ≡ Some s) where
  lowest : (s < shot_count coords) × FirstPlace (λ s. shot_covers E coords s i j k) 0 (shot_count coords) s
  unfolding lowest_covering first_covering
  lowest = subst (Lowest (λ s. shot_covers E coords s i j k) (shot_count coords)) e (first-up (λ s. shot_covers E coords s i j k) (shot_count coords))

  pub lowest-shot : s < shot_count coords
  lowest-shot = lowest.0

  pub lowest-covering : covers (shot_at E coords s) i j k ≡ true
  unfolding shot_covers
  lowest-covering = (and-true (ltb s (shot_count coords)) (covers (shot_at E coords s) i j k) (lowest.1.passes lowest-shot)).1

  pub lowest-least : (t : ℕ) → t < s → covers (shot_at E coords t) i j k ≡ false
  unfolding shot_covers
  lowest-least t h =
      let is : ltb t (shot_count coords) ≡ true = lt-ltb t (shot_count coords) (omega (arith, h, lowest-shot)) in
      ap (λ (b : Bool). b && covers (shot_at E coords t) i j k) (sym is) ∙ lowest.1.earlier t (omega arith) h
