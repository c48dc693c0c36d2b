-- Band after band: what the check and the lookup know after the bands so far. Assumes nothing.
use mathlib.Core.Path.{◌≡◌, refl, sym, ap, ◌∙◌}
use mathlib.Core.Bool.{Bool, true, false, cond}
use mathlib.Core.List.{List, [], ◌∷◌}
use Prim.Native.Nat.{ℕ, suc, ◌+◌, ◌≤◌, ◌<◌}
use native.Mathlib.Omega.{arith}
use lib.ListN.{length, drop}
use borrow.Author.Tests.{lt-ltb, le-ltb, eq-eqb, ne_eqb}
use Rattle.std.proofs.lemmas.List.{at_drop_more, drop_all}
use Rattle.price_bands.specs.declared.Band.{Band}
use Rattle.price_bands.specs.Bands.{top, most_bands, band_at, no_band, is_good, holds, first_faulty, end_of, verdict_of, no_fault, fault_at, rate_of}

module _ (bands : List Band) where
  -- ---- the check: i bands are good, and the next has to start at `due`
  pub record Passed (due i : ℕ) : Type 0 where
    pub first : first_faulty 0 bands ≡ i + first_faulty due (drop i bands)
    pub end : end_of 0 bands ≡ end_of due (drop i bands)

  pub none-passed : Passed 0 0
  none-passed = record { first = omega arith; end = refl }

  next-first : (due i : ℕ) → i < length bands → first_faulty due (drop i bands) ≡ cond (is_good due (band_at bands i)) (suc (first_faulty ((band_at bands i).last + 1) (drop (i + 1) bands))) 0
  unfolding first_faulty
  next-first due i h = at_drop_more (first_faulty due) bands i no_band h

  next-end : (due i : ℕ) → i < length bands → end_of due (drop i bands) ≡ end_of ((band_at bands i).last + 1) (drop (i + 1) bands)
  unfolding end_of
  next-end due i h = at_drop_more (end_of due) bands i no_band h

  module _ {due i : ℕ} (p : Passed due i) where
    pub one-passed : i < length bands → true ≡ is_good due (band_at bands i) → Passed ((band_at bands i).last + 1) (i + 1)
    one-passed h g = record {
      first = omega (arith, p.first, next-first due i h ∙ ap (λ b. cond b (suc (first_faulty ((band_at bands i).last + 1) (drop (i + 1) bands))) 0) (sym g));
      end = p.end ∙ next-end due i h;
    }

    pub faulty-next : length bands ≤ most_bands → i < length bands → false ≡ is_good due (band_at bands i) → fault_at i ≡ verdict_of bands
    unfolding verdict_of
    faulty-next few h g =
        let first : first_faulty 0 bands ≡ i = omega (arith, p.first, next-first due i h ∙ ap (λ b. cond b (suc (first_faulty ((band_at bands i).last + 1) (drop (i + 1) bands))) 0) (sym g)) in
        rw (le-ltb most_bands (length bands) few, first, lt-ltb i (length bands) h)

    module _ (few : length bands ≤ most_bands) (all : i ≡ length bands) where
      first-all : first_faulty 0 bands ≡ length bands
      unfolding first_faulty
      first-all = omega (arith, p.first, all, ap (first_faulty due) (drop_all i bands (omega (arith, all))))

      end-all : end_of 0 bands ≡ due
      unfolding end_of
      end-all = p.end ∙ ap (end_of due) (drop_all i bands (omega (arith, all)))

      pub top-missing : (due ≡ top + 1 → ⊥) → fault_at (length bands) ≡ verdict_of bands
      unfolding verdict_of
      top-missing h = rw (le-ltb most_bands (length bands) few, first-all, le-ltb (length bands) (length bands) (omega arith), end-all, ne_eqb due (top + 1) h)

      pub all-good : due ≡ top + 1 → no_fault ≡ verdict_of bands
      unfolding verdict_of
      all-good h = rw (le-ltb most_bands (length bands) few, first-all, le-ltb (length bands) (length bands) (omega arith), end-all, eq-eqb due (top + 1) h)

  pub too-many : most_bands < length bands → fault_at most_bands ≡ verdict_of bands
  unfolding verdict_of
  too-many h = rw (lt-ltb most_bands (length bands) h)

  -- ---- the lookup: none of the first i bands holds the amount
  module _ (amount : ℕ) where
    abbrev pub Rest : ℕ → Type 0
    Rest i = rate_of amount bands ≡ rate_of amount (drop i bands)

    next-rate : (i : ℕ) → i < length bands → rate_of amount (drop i bands) ≡ cond (holds (band_at bands i) amount) (band_at bands i).cents (rate_of amount (drop (i + 1) bands))
    unfolding rate_of
    next-rate i h = at_drop_more (rate_of amount) bands i no_band h

    pub held-here : {i : ℕ} → i < length bands → Rest i → true ≡ holds (band_at bands i) amount → (band_at bands i).cents ≡ rate_of amount bands
    held-here {i} h p g = sym (p ∙ next-rate i h ∙ ap (λ b. cond b (band_at bands i).cents (rate_of amount (drop (i + 1) bands))) (sym g))

    pub not-held : {i : ℕ} → i < length bands → Rest i → false ≡ holds (band_at bands i) amount → Rest (i + 1)
    not-held {i} h p g = p ∙ next-rate i h ∙ ap (λ b. cond b (band_at bands i).cents (rate_of amount (drop (i + 1) bands))) (sym g)

    pub none-holds : {i : ℕ} → length bands ≤ i → Rest i → 0 ≡ rate_of amount bands
    unfolding rate_of
    none-holds {i} h p = sym (p ∙ ap (rate_of amount) (drop_all i bands h))

-- no table has more good bands than bands
pub first-most : (due : ℕ) (bs : List Band) → first_faulty due bs ≤ length bs
unfolding first_faulty
first-most due [] = omega arith
first-most due (b ∷ bs) = go (is_good due b) (first-most (b.last + 1) bs)
  where
    go : (c : Bool) → first_faulty (b.last + 1) bs ≤ length bs → cond c (suc (first_faulty (b.last + 1) bs)) 0 ≤ suc (length bs)
    go true h = omega (arith, h)
    go false h = omega arith
