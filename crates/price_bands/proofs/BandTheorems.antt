-- What the check and the lookup of a table are good for, for any band list: docs/SCOPE.md, 'Price bands'. In order: a table has no fault if
-- and only if it is valid; a fault is the first; every amount up to the top lies in exactly one band of a valid table, whose rate is the
-- rate of the amount. Assumes nothing.
use mathlib.Core.Path.{◌≡◌, refl, sym, ap, subst, ◌∙◌}
use mathlib.Core.Bool.{Bool, true, false, cond, true≢false}
use mathlib.Core.List.{List, [], ◌∷◌}
use mathlib.Core.Logic.{◌↔◌}
use Prim.Native.Nat.{ℕ, zero, suc, ◌+◌, ◌≤◌, ◌<◌}
use native.Mathlib.Omega.{arith}
use lib.Dec.{ltb, eqb}
use lib.ListN.{length}
use borrow.Author.Tests.{ltb-true, ltb-false, lt-ltb, le-ltb, eq-eqb, ne_eqb, eqb-true, eqb-false}
use Rattle.price_bands.specs.declared.Band.{Band}
use Rattle.price_bands.specs.Bands.{top, highest_rate, most_bands, band_at, In, due_at, Good, ValidTable, FirstFaulty, Fault, too_many, band_faulty, no_top, is_good, first_faulty, end_of, verdict_of, holds, RatedBy, rate_of, no_fault, fault_at, Verdict}
use Rattle.ground.proofs.Bools.{not_so}
use Rattle.price_bands.proofs.JudgeLaws.{holds-says, good-says}

-- ---- bands from an amount on

-- where band i has to start, if the first has to start at `due`
abbrev due_from : ℕ → List Band → ℕ → ℕ
due_from due bands zero = due
due_from due bands (suc i) = (band_at bands i).last + 1

-- from 0 that is what the specification says
due-zero : (bands : List Band) (i : ℕ) → due_from 0 bands i ≡ due_at bands i
due-zero bands zero = refl
due-zero bands (suc i) = refl

-- the bands after the first
due-next : (due : ℕ) (b : Band) (bs : List Band) (i : ℕ) → due_from (b.last + 1) bs i ≡ due_from due (b ∷ bs) (suc i)
due-next due b bs zero = refl
due-next due b bs (suc i) = refl

due-end : (due : ℕ) (bs : List Band) → due_from due bs (length bs) ≡ end_of due bs
unfolding end_of
due-end due [] = refl
due-end due (b ∷ bs) = sym (due-next due b bs (length bs)) ∙ due-end (b.last + 1) bs

-- the bands before the first faulty one are good
before-good : (due : ℕ) (bs : List Band) (i : ℕ) → i < first_faulty due bs → Good (due_from due bs i) (band_at bs i)
unfolding first_faulty
before-good due [] i h = absurd (omega (arith, h))
before-good due (b ∷ bs) i h = go (is_good due b) refl h i refl (before-good (b.last + 1) bs)
  where
    go : (c : Bool) → is_good due b ≡ c → i < cond c (suc (first_faulty (b.last + 1) bs)) 0 → (j : ℕ) → i ≡ j
        → ((j : ℕ) → j < first_faulty (b.last + 1) bs → Good (due_from (b.last + 1) bs j) (band_at bs j)) → Good (due_from due (b ∷ bs) j) (band_at (b ∷ bs) j)
    go false e h j is later = absurd (omega (arith, h))
    go true e h zero is later = (good-says due b).0 e
    go true e h (suc j) is later = subst (λ (n : ℕ). Good n (band_at bs j)) (due-next due b bs j) (later j (omega (arith, h, is)))

-- and it is faulty
first-bad : (due : ℕ) (bs : List Band) → first_faulty due bs < length bs → ¬ Good (due_from due bs (first_faulty due bs)) (band_at bs (first_faulty due bs))
unfolding first_faulty
first-bad due [] h = absurd (omega (arith, h))
first-bad due (b ∷ bs) h = go (is_good due b) refl h (first-bad (b.last + 1) bs)
  where
    n : ℕ
    n = first_faulty (b.last + 1) bs

    go : (c : Bool) → is_good due b ≡ c → cond c (suc (first_faulty (b.last + 1) bs)) 0 < suc (length bs)
        → (first_faulty (b.last + 1) bs < length bs → ¬ Good (due_from (b.last + 1) bs (first_faulty (b.last + 1) bs)) (band_at bs (first_faulty (b.last + 1) bs)))
        → ¬ Good (due_from due (b ∷ bs) (cond c (suc (first_faulty (b.last + 1) bs)) 0)) (band_at (b ∷ bs) (cond c (suc (first_faulty (b.last + 1) bs)) 0))
    go false e h later g = true≢false (sym ((good-says due b).1 g) ∙ e)
    go true e h later g =
        later (omega (arith, h)) (subst (λ (k : ℕ). Good k (band_at bs (first_faulty (b.last + 1) bs))) (sym (due-next due b bs (first_faulty (b.last + 1) bs))) g)

-- ---- the three tests of a table
module _ (bands : List Band) where
  abbrev AllGood : Type 0
  AllGood = (i : ℕ) → i < length bands → Good (due_at bands i) (band_at bands i)

  good-before : (i : ℕ) → i < first_faulty 0 bands → Good (due_at bands i) (band_at bands i)
  good-before i h = subst (λ (n : ℕ). Good n (band_at bands i)) (due-zero bands i) (before-good 0 bands i h)

  bad-first : first_faulty 0 bands < length bands → ¬ Good (due_at bands (first_faulty 0 bands)) (band_at bands (first_faulty 0 bands))
  bad-first h g = first-bad 0 bands h (subst (λ (n : ℕ). Good n (band_at bands (first_faulty 0 bands))) (sym (due-zero bands (first_faulty 0 bands))) g)

  -- good bands up to i put the first faulty one behind
  good-first : (i : ℕ) → i ≤ length bands → ((j : ℕ) → j < i → Good (due_at bands j) (band_at bands j)) → i ≤ first_faulty 0 bands
  good-first i l g = go (ltb (first_faulty 0 bands) i) refl
    where
      go : (c : Bool) → ltb (first_faulty 0 bands) i ≡ c → i ≤ first_faulty 0 bands
      go false e = ltb-false (first_faulty 0 bands) i e
      go true e =
          let h = ltb-true (first_faulty 0 bands) i e in
          absurd (bad-first (omega (arith, h, l)) (g (first_faulty 0 bands) h))

  end_is : end_of 0 bands ≡ due_at bands (length bands)
  end_is = sym (due-end 0 bands) ∙ due-zero bands (length bands)

  -- what each case of the verdict is
  many-said : most_bands < length bands → verdict_of bands ≡ fault_at most_bands
  unfolding verdict_of
  many-said h = rw (lt-ltb most_bands (length bands) h)

  module _ (few : length bands ≤ most_bands) where
    fault-said : first_faulty 0 bands < length bands → verdict_of bands ≡ fault_at (first_faulty 0 bands)
    unfolding verdict_of
    fault-said h = rw (le-ltb most_bands (length bands) few, lt-ltb (first_faulty 0 bands) (length bands) h)

    module _ (all : length bands ≤ first_faulty 0 bands) where
      short-said : ¬ (due_at bands (length bands) ≡ top + 1) → verdict_of bands ≡ fault_at (length bands)
      unfolding verdict_of
      short-said h = rw (le-ltb most_bands (length bands) few, le-ltb (first_faulty 0 bands) (length bands) all, end_is, ne_eqb (due_at bands (length bands)) (top + 1) h)

      sound-said : due_at bands (length bands) ≡ top + 1 → verdict_of bands ≡ no_fault
      unfolding verdict_of
      sound-said h = rw (le-ltb most_bands (length bands) few, le-ltb (first_faulty 0 bands) (length bands) all, end_is, eq-eqb (due_at bands (length bands)) (top + 1) h)

  -- a table is valid, or has a fault, and the verdict says which
  data Outcome : Verdict → Type 0 where
    valid : ValidTable bands → Outcome no_fault
    faulty : {d : ℕ} → Fault bands d → Outcome (fault_at d)

  outcome : Outcome (verdict_of bands)
  outcome = go (ltb most_bands (length bands)) refl
    where
      go : (c : Bool) → ltb most_bands (length bands) ≡ c → Outcome (verdict_of bands)
      go true e = let h = ltb-true most_bands (length bands) e in subst Outcome (sym (many-said h)) (faulty (too_many h))
      go false e = among (ltb (first_faulty 0 bands) (length bands)) refl (eqb (due_at bands (length bands)) (top + 1)) refl
        where
          few : length bands ≤ most_bands
          few = ltb-false most_bands (length bands) e

          among : (d : Bool) → ltb (first_faulty 0 bands) (length bands) ≡ d → (f : Bool) → eqb (due_at bands (length bands)) (top + 1) ≡ f → Outcome (verdict_of bands)
          among true l f k =
              let h = ltb-true (first_faulty 0 bands) (length bands) l in
              subst Outcome (sym (fault-said few h)) (faulty (band_faulty few (record { is_band = h; faulty = bad-first h; earlier_good = good-before })))
          among false l false k =
              let all = ltb-false (first_faulty 0 bands) (length bands) l in
              let no = eqb-false (due_at bands (length bands)) (top + 1) k in
              subst Outcome (sym (short-said few all no)) (faulty (no_top few (λ i h. good-before i (omega (arith, h, all))) no))
          among false l true k =
              let all = ltb-false (first_faulty 0 bands) (length bands) l in
              let yes = eqb-true (due_at bands (length bands)) (top + 1) k in
              subst Outcome (sym (sound-said few all yes)) (valid (record { few = few; good = λ i h. good-before i (omega (arith, h, all)); reaches_top = yes }))

  -- ---- the check finds no fault if and only if the table is valid
  pub sound-iff : (verdict_of bands ≡ no_fault) ↔ ValidTable bands
  sound-iff = (λ e. from (subst Outcome e outcome), λ v. sound-said v.few (good-first (length bands) (omega arith) v.good) v.reaches_top)
    where
      from : Outcome no_fault → ValidTable bands
      from (valid v) = v

  -- ---- and it finds this fault if and only if it is the first
  pub fault-iff : (d : ℕ) → (verdict_of bands ≡ fault_at d) ↔ Fault bands d
  fault-iff d = (λ e. from (subst Outcome e outcome), to)
    where
      from : Outcome (fault_at d) → Fault bands d
      from (faulty f) = f

      to : {d : ℕ} → Fault bands d → verdict_of bands ≡ fault_at d
      to (too_many h) = many-said h
      to (band_faulty {i} few f) =
          let least = good-first i (omega (arith, f.is_band)) f.earlier_good in
          let here : first_faulty 0 bands ≡ i = exact (ltb i (first_faulty 0 bands)) refl least f in
          fault-said few (omega (arith, here, f.is_band)) ∙ ap fault_at here
        where
          exact : (c : Bool) → ltb i (first_faulty 0 bands) ≡ c → i ≤ first_faulty 0 bands → FirstFaulty bands i → first_faulty 0 bands ≡ i
          exact true e l f = absurd (f.faulty (good-before i (ltb-true i (first_faulty 0 bands) e)))
          exact false e l f = omega (arith, l, ltb-false i (first_faulty 0 bands) e)
      to (no_top few good h) = short-said few (good-first (length bands) (omega arith) good) h

-- ---- the band that holds an amount

-- the rate of an amount is that of the first band that holds it, of any bands
pub rate-first : (bs : List Band) (amount i : ℕ) → i < length bs → In (band_at bs i) amount → ((j : ℕ) → j < i → ¬ In (band_at bs j) amount) → rate_of amount bs ≡ (band_at bs i).cents
unfolding rate_of
rate-first [] amount i h a n = absurd (omega (arith, h))
rate-first (b ∷ bs) amount zero h a n = rw ((holds-says b amount).1 a)
rate-first (b ∷ bs) amount (suc i) h a n =
    rw (not_so (holds b amount) (λ e. n 0 (omega arith) ((holds-says b amount).0 e)))
    (rate-first bs amount i (omega (arith, h)) a (λ j l. n (suc j) (omega (arith, l))))

-- and 0 where none does
pub rate-none : (bs : List Band) (amount : ℕ) → ((i : ℕ) → i < length bs → ¬ In (band_at bs i) amount) → rate_of amount bs ≡ 0
unfolding rate_of
rate-none [] amount n = refl
rate-none (b ∷ bs) amount n =
    rw (not_so (holds b amount) (λ e. n 0 (omega arith) ((holds-says b amount).0 e)))
    (rate-none bs amount (λ i l. n (suc i) (omega (arith, l))))

module _ {bands : List Band} (v : ValidTable bands) where
  -- an earlier band ends before a later one starts
  ends-before : (j i : ℕ) → i < j → j < length bands → (band_at bands i).last < (band_at bands j).first
  ends-before zero i h l = absurd (omega (arith, h))
  ends-before (suc j) i h l = go (ltb i j) refl (ends-before j i)
    where
      go : (c : Bool) → ltb i j ≡ c → (i < j → j < length bands → (band_at bands i).last < (band_at bands j).first) → (band_at bands i).last < (band_at bands (suc j)).first
      go true e before = omega (arith, before (ltb-true i j e) (omega (arith, l)), (v.good j (omega (arith, l))).ends, (v.good (suc j) l).starts)
      go false e before =
          let same : i ≡ j = omega (arith, ltb-false i j e, h) in
          omega (arith, ap (λ (k : ℕ). (band_at bands k).last) same, (v.good (suc j) l).starts)

  -- an amount before the start of band i lies in an earlier one
  some-before : (amount i : ℕ) → i ≤ length bands → amount < due_at bands i → (j : ℕ) × (j < i) × In (band_at bands j) amount
  some-before amount zero l h = absurd (omega (arith, h))
  some-before amount (suc i) l h = go (ltb amount (due_at bands i)) refl (some-before amount i (omega (arith, l)))
    where
      go : (c : Bool) → ltb amount (due_at bands i) ≡ c → (amount < due_at bands i → (j : ℕ) × (j < i) × In (band_at bands j) amount) → (j : ℕ) × (j < suc i) × In (band_at bands j) amount
      go true e before = let r = before (ltb-true amount (due_at bands i) e) in (r.0, omega (arith, r.1), r.2)
      go false e before =
          (i, omega arith, record { from = omega (arith, ltb-false amount (due_at bands i) e, (v.good i (omega (arith, l))).starts); to = omega (arith, h) })

  -- every amount up to the top lies in a band
  some-band : (amount : ℕ) → amount ≤ top → (i : ℕ) × (i < length bands) × In (band_at bands i) amount
  some-band amount h = some-before amount (length bands) (omega arith) (omega (arith, h, v.reaches_top))

  -- and in no other: an earlier band has ended, a later one has not begun
  not-later : (amount i j : ℕ) → i < j → j < length bands → In (band_at bands i) amount → ¬ In (band_at bands j) amount
  not-later amount i j h l a b = omega (arith, a.to, b.from, ends-before j i h l)

  one-band : (amount i j : ℕ) → i < length bands → j < length bands → In (band_at bands i) amount → In (band_at bands j) amount → i ≡ j
  one-band amount i j hi hj a b = go (ltb i j) refl (ltb j i) refl
    where
      go : (c : Bool) → ltb i j ≡ c → (d : Bool) → ltb j i ≡ d → i ≡ j
      go true e d f = absurd (not-later amount i j (ltb-true i j e) hj a b)
      go false e true f = absurd (not-later amount j i (ltb-true j i f) hi b a)
      go false e false f = omega (arith, ltb-false i j e, ltb-false j i f)

  -- whose rate is the rate of the amount
  band-rate : (amount i : ℕ) → i < length bands → In (band_at bands i) amount → rate_of amount bands ≡ (band_at bands i).cents
  band-rate amount i h a = rate-first bands amount i h a (λ j l b. not-later amount j i l h b a)

  -- ---- so every amount up to the top lies in exactly one band, whose rate the lookup gives
  pub valid-rated : (amount : ℕ) → amount ≤ top → RatedBy bands amount (rate_of amount bands)
  valid-rated amount h =
      let r = some-band amount h in
      record {
        band = r.0;
        is_band = r.1;
        holds_it = r.2;
        no_other = λ i l b. one-band amount i r.0 l r.1 b r.2;
        is_rate = band-rate amount r.0 r.1 r.2;
      }

  -- and which is at most the highest
  pub rate-most : (amount : ℕ) → amount ≤ top → rate_of amount bands ≤ highest_rate
  rate-most amount h =
      let r = valid-rated amount h in
      omega (arith, r.is_rate, (v.good r.band r.is_band).rate)
