-- Places visited one after the other by the set bits of a word, the lowest first.
use mathlib.Core.Path.{◌≡◌, refl, sym, ◌∙◌, ap}
use mathlib.Core.Bool.{true, false, false≢true}
use mathlib.Core.List.{List, []}
use Prim.Native.Nat.{ℕ, suc, ◌<◌, ◌≤◌}
use native.Mathlib.Decide.{dec_le}
use native.Mathlib.Omega.{arith}
use Rattle.ground.specs.Sums.{join}
use Rattle.lattice.specs.Listing.{Corner}
use Rattle.sweep_words.specs.Words.{bit_at, Lowest, WithoutLowest}
use Rattle.sweep_words.proofs.BitLaws.{bit-zero}
use Rattle.sweep_words.proofs.LowestLaws.{left-under, left-above}
use Rattle.sweep_tally.specs.Found.{Found, found}
use Rattle.sweep_tally.proofs.FoundLaws.{found-append}
use Rattle.sweep_columns.proofs.Joins.{join-quiet}

-- among n places, the bits of a word name all that have a corner
pub record Names (n all : ℕ) (f : ℕ → List Corner) : Type 0 where
  pub few : (b : ℕ) → bit_at all b ≡ true → b < n
  pub quiet : (b : ℕ) → b < n → bit_at all b ≡ false → f b ≡ []

-- m has the bits of the word from some place on, and h is g with the corners of the places before it
pub record Visited (n all : ℕ) (f : ℕ → List Corner) (m : ℕ) (g h : Found) : Type 0 where
  pub place : ℕ
  pub top : place ≤ n
  pub under : (b : ℕ) → b < place → bit_at m b ≡ false
  pub rest : (b : ℕ) → place ≤ b → bit_at m b ≡ bit_at all b
  pub are : h ≡ found g (join place f)

pub visit-none : (n all : ℕ) (f : ℕ → List Corner) (g : Found) → Visited n all f all g g
unfolding found join
visit-none n all f g = record {
  place = 0;
  top = omega arith;
  under = λ b h. absurd (omega arith);
  rest = λ b h. refl;
  are = refl;
}

module _ {n all m : ℕ} {f : ℕ → List Corner} {g h : Found} (v : Names n all f) (d : Visited n all f m g h) where
  -- up to a place below which no bit is left nothing is missing
  still-to : (k : ℕ) → d.place ≤ k → k ≤ n → ((b : ℕ) → b < k → bit_at m b ≡ false) → h ≡ found g (join k f)
  still-to k p t q =
      d.are ∙ ap (found g) (sym (join-quiet d.place k f p (λ b a c. v.quiet b (omega arith) (sym (d.rest b a) ∙ q b c))))

  pub visit-all : m ≡ 0 → h ≡ found g (join n f)
  visit-all e = still-to n d.top (omega arith) (λ b a. ap (λ w. bit_at w b) e ∙ bit-zero b)

  module _ {k : ℕ} (l : Lowest m k) where
    next-from : d.place ≤ k
    next-from = go (dec_le d.place k)
      where
        go : Dec (d.place ≤ k) → d.place ≤ k
        go (yes p) = p
        go (no p) = absurd (false≢true (sym (d.under k (omega arith)) ∙ l.set))

    pub next-set : bit_at all k ≡ true
    next-set = sym (d.rest k next-from) ∙ l.set

    pub next-in : k < n
    next-in = v.few k next-set

    pub visit-to : h ≡ found g (join k f)
    visit-to = still-to k next-from (omega (arith, next-in)) l.under

    pub visit-more : {r : ℕ} {h' : Found} → WithoutLowest m r → h' ≡ found h (f k) → Visited n all f r g h'
    unfolding join
    visit-more w e = record {
      place = suc k;
      top = omega (arith, next-in);
      under = λ b c. left-under l w b (omega arith);
      rest = λ b c. left-above l w b (omega arith) ∙ d.rest b (omega (arith, next-from));
      are = e ∙ ap (λ s. found s (f k)) visit-to ∙ sym (found-append g (join k f) (f k));
    }
