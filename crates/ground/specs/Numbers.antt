-- Tests and lists of numbers: how many, whether any, and which of 0, 1, .. n - 1 pass a test.
use Rattle.std.specs.Prelude.{Bool, true, false, cond, ◌||◌, List, [], ◌∷◌, ◌++◌, ℕ, zero, suc, ◌<◌, eqb, get_or}

-- a test as a number, to count what passes
abbrev pub bit : Bool → ℕ
bit true = 1
bit false = 0

-- some number below n passes a test
unfoldable pub any_to : ℕ → (ℕ → Bool) → Bool
any_to zero f = false
any_to (suc n) f = any_to n f || f n

-- 0, 1, .. n - 1
unfoldable pub up_to : ℕ → List ℕ
up_to zero = []
up_to (suc n) = up_to n ++ n ∷ []

-- those numbers of a list that pass a test, in their order
unfoldable pub those : (ℕ → Bool) → List ℕ → List ℕ
those f [] = []
those f (a ∷ l) = cond (f a) (a ∷ those f l) (those f l)

-- every number of a list is below n
unfoldable pub AllBelow : ℕ → List ℕ → Type 0
AllBelow n [] = Unit {0}
AllBelow n (a ∷ l) = (a < n) × AllBelow n l

-- every number of a list is a byte, as those of a byte slice are
abbrev pub Bytes : List ℕ → Type 0
Bytes l = (i : ℕ) → get_or l i 0 < 256

-- whether a number is in a list
unfoldable pub has : List ℕ → ℕ → Bool
has [] a = false
has (b ∷ l) a = eqb a b || has l a
