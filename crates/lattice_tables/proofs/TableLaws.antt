-- A constant table of 256 signed entries that is the table of a weight gives the weight at each entry.
use mathlib.Core.Path.{◌≡◌, refl, sym, ◌∙◌, ap}
use mathlib.Core.List.{List, [], ◌∷◌}
use Prim.Native.Nat.{ℕ, zero, suc, ◌+◌, ◌<◌}
use native.Mathlib.Nat.{add-zero, zero-add, add-suc, suc-add, le_of_suc-le-suc, not-suc-le-zero}
use lib.IntN.{ℤ, pos}
use lib.ListN.{get_or}
use Rattle.lattice.specs.Pattern.{of_byte}
use Rattle.lattice_tables.specs.Tables.{weight_of, Weighs}
use Rattle.lattice_tables.specs.declared.Weight.{Weight}

-- the values of a function at i, i + 1, .. i + n - 1
abbrev pub table_from : (ℕ → ℤ) → ℕ → ℕ → List ℤ
table_from f i zero = []
table_from f i (suc n) = f i ∷ table_from f (suc i) n

from_at : (f : ℕ → ℤ) (i n k : ℕ) → k < n → get_or (table_from f i n) k (pos 0) ≡ f (i + k)
from_at f i zero k h = absurd (not-suc-le-zero h)
from_at f i (suc n) zero h = ap f (sym (add-zero i))
from_at f i (suc n) (suc k) h = from_at f (suc i) n k (le_of_suc-le-suc h) ∙ ap f (suc-add i k ∙ sym (add-suc i k))

pub table-weighs : (k : Weight) {k' : Weight} → k' ≡ k → Weighs (weight_of k') (table_from (λ n. weight_of k (of_byte n)) 0 256)
table-weighs k e = rw e (record {
  long = refl;
  entry = λ p h. from_at (λ n. weight_of k (of_byte n)) 0 256 p h ∙ ap (λ n. weight_of k (of_byte n)) (zero-add p);
})
