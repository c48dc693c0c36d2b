-- Tables of a few bands, sound and faulty, by computing: docs/SCOPE.md, 'Price bands'.
use mathlib.Core.Path.{◌≡◌, refl}
use mathlib.Core.List.{List, [], ◌∷◌}
use Prim.Native.Nat.{ℕ, ◌+◌}
use lib.ListN.{replicate}
use Rattle.price_bands.specs.declared.Band.{Band}
use Rattle.price_bands.specs.Bands.{top, highest_rate, most_bands, first_faulty, end_of, verdict_of, rate_of, no_fault, fault_at}

abbrev band : ℕ → ℕ → ℕ → Band
band first last cents = record { first = first; last = last; cents = cents }

-- ---- a sound table, and the rates at the end of a band and at the start of the next
abbrev two : List Band
two = band 0 14 5 ∷ band 15 top highest_rate ∷ []

sound : verdict_of two ≡ no_fault
unfolding verdict_of first_faulty end_of
sound = refl

last-amount : rate_of 14 two ≡ 5
unfolding rate_of
last-amount = refl

first-amount : rate_of 15 two ≡ highest_rate
unfolding rate_of
first-amount = refl

the-top : rate_of top two ≡ highest_rate
unfolding rate_of
the-top = refl

past_the_top : rate_of (top + 1) two ≡ 0
unfolding rate_of
past_the_top = refl

-- ---- faulty bands: a gap of one, an overlap of one, an end before the start, an end past the top, a rate too high, a start past 0
gap : verdict_of (band 0 14 5 ∷ band 16 top 4 ∷ []) ≡ fault_at 1
unfolding verdict_of first_faulty end_of
gap = refl

overlap : verdict_of (band 0 14 5 ∷ band 14 top 4 ∷ []) ≡ fault_at 1
unfolding verdict_of first_faulty end_of
overlap = refl

turned : verdict_of (band 0 14 5 ∷ band 15 14 4 ∷ band 15 top 4 ∷ []) ≡ fault_at 1
unfolding verdict_of first_faulty end_of
turned = refl

too_far : verdict_of (band 0 (top + 1) 5 ∷ []) ≡ fault_at 0
unfolding verdict_of first_faulty end_of
too_far = refl

too-high : verdict_of (band 0 top (highest_rate + 1) ∷ []) ≡ fault_at 0
unfolding verdict_of first_faulty end_of
too-high = refl

not-from-zero : verdict_of (band 1 top 5 ∷ []) ≡ fault_at 0
unfolding verdict_of first_faulty end_of
not-from-zero = refl

-- a band behind the top
behind : verdict_of (band 0 top 5 ∷ band (top + 1) (top + 1) 4 ∷ []) ≡ fault_at 1
unfolding verdict_of first_faulty end_of
behind = refl

-- ---- no top: the number of bands
none : verdict_of [] ≡ fault_at 0
unfolding verdict_of first_faulty end_of
none = refl

short : verdict_of (band 0 14 5 ∷ band 15 99 4 ∷ []) ≡ fault_at 2
unfolding verdict_of first_faulty end_of
short = refl

-- ---- more than 64 bands, whatever they hold
many : verdict_of (replicate (most_bands + 1) (band 3 2 1)) ≡ fault_at 64
unfolding verdict_of first_faulty end_of
many = refl
