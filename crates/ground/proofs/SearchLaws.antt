-- A search for the first place that passes a test, place by place. A loop that searches has `Searched` for its invariant.
use mathlib.Core.Path.{◌≡◌, sym, ◌∙◌}
use mathlib.Core.Bool.{Bool, true, false, true≢false}
use Prim.Native.Nat.{ℕ, zero, suc, ◌+◌, ◌≤◌, ◌<◌}
use native.Mathlib.Nat.{le_antisymm}
use native.Mathlib.Decide.{dec_lt}
use native.Mathlib.Omega.{arith}
use borrow.Author.Count.{below_more}
use Rattle.ground.specs.FirstPlace.{FirstPlace}

-- the search has come to place r: none before it passes
pub record Searched (f : ℕ → Bool) (from to r : ℕ) : Type 0 where
  pub onward : from ≤ r
  pub within : r ≤ to
  pub earlier : (i : ℕ) → from ≤ i → i < r → f i ≡ false

module _ {f : ℕ → Bool} {from to : ℕ} where
  -- nothing is searched yet; one place more; all of them
  pub search-none : from ≤ to → Searched f from to from
  search-none h = record { onward = omega arith; within = h; earlier = λ i l k. absurd (omega arith) }

  module _ {r : ℕ} (none : Searched f from to r) where
    pub search-more : r < to → {t : Bool} → t ≡ f r → t ≡ false → Searched f from to (r + 1)
    search-more h is e =
        record {
          onward = omega (arith, none.onward);
          within = omega arith;
          earlier = λ i l k. below_more (λ (i : ℕ). from ≤ i → f i ≡ false) r (λ i k l. none.earlier i l k) (λ l. sym is ∙ e) i k l;
        }

    pub search-all : to ≤ r → FirstPlace f from to r
    search-all h = record { onward = none.onward; within = none.within; earlier = none.earlier; passes = λ l. absurd (omega (arith, h, l)) }

    -- or it ends at a place that passes
    pub search-found : {t : Bool} → t ≡ f r → t ≡ true → FirstPlace f from to r
    search-found is e = record { onward = none.onward; within = none.within; earlier = none.earlier; passes = λ l. sym is ∙ e }

-- ---- the place itself
-- there is one, so a search finds what a definition of the place says
pub place-unique : {f : ℕ → Bool} {from to r s : ℕ} → FirstPlace f from to r → FirstPlace f from to s → r ≡ s
place-unique a b = le_antisymm (not-later a b) (not-later b a)
  where
    not-later : {f : ℕ → Bool} {from to r s : ℕ} → FirstPlace f from to r → FirstPlace f from to s → r ≤ s
    not-later {r = r} {s = s} a b = go (dec_lt s r)
      where
        go : Dec (s < r) → r ≤ s
        go (yes l) = absurd (true≢false (sym (b.passes (omega (arith, a.within))) ∙ a.earlier s b.onward l))
        go (no h) = omega arith

-- tests that agree have the same
pub place-agree : {f g : ℕ → Bool} {from to r : ℕ} → ((i : ℕ) → i < to → f i ≡ g i) → FirstPlace f from to r → FirstPlace g from to r
place-agree {r = r} h a =
    record {
      onward = a.onward;
      within = a.within;
      earlier = λ i l k. sym (h i (omega (arith, a.within))) ∙ a.earlier i l k;
      passes = λ k. sym (h r k) ∙ a.passes k;
    }

-- it is where a search begins, or else that of the places after
pub place_here : {f : ℕ → Bool} {from to : ℕ} → from ≤ to → f from ≡ true → FirstPlace f from to from
place_here h e = record { onward = omega arith; within = h; earlier = λ i l k. absurd (omega arith); passes = λ k. e }

pub place-next : {f : ℕ → Bool} {from to r : ℕ} → f from ≡ false → FirstPlace f (suc from) to r → FirstPlace f from to r
place-next {f} {from} {r = r} e a = record { onward = omega (arith, a.onward); within = a.within; earlier = λ i l k. go i (dec_lt from i) l k; passes = a.passes }
  where
    go : (i : ℕ) → Dec (from < i) → from ≤ i → i < r → f i ≡ false
    go i (yes l) m k = a.earlier i l k
    go i (no h) m k =
        let is : from ≡ i = omega arith in
        rw (← is) e

-- the same in a list, where the places after are those of its tail
pub place-later : (f : ℕ → Bool) {n r : ℕ} → f 0 ≡ false → FirstPlace (λ i. f (suc i)) 0 n r → FirstPlace f 0 (suc n) (suc r)
place-later f {r = r} e a = record { onward = omega arith; within = omega (arith, a.within); earlier = earlier; passes = λ k. a.passes (omega arith) }
  where
    earlier : (i : ℕ) → 0 ≤ i → i < suc r → f i ≡ false
    earlier zero l k = e
    earlier (suc i) l k = a.earlier i (omega arith) (omega arith)
