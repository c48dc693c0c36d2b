-- Numbers in decimal, and a line of a name and a number. A space is 32, the end of a line 10, the digit 0 is 48.
use Rattle.std.specs.Prelude.{cond, List, [], ◌∷◌, ◌++◌, ℕ, zero, suc, ◌+◌, ◌-◌, ◌*◌, ◌/◌, ◌%◌, ltb}

-- a number in decimal, with at most n digits
unfoldable pub digits : ℕ → ℕ → List ℕ
digits zero a = []
digits (suc n) a = cond (ltb a 10) [] (digits n (a / 10)) ++ ((48 + a % 10) ∷ [])

-- a 64-bit number has at most twenty
abbrev pub decimal : ℕ → List ℕ
decimal a = digits 20 a

-- what decimal digits are worth, after digits that are worth v
unfoldable pub value_from : ℕ → List ℕ → ℕ
value_from v [] = v
value_from v (d ∷ ds) = value_from (v * 10 + (d - 48)) ds

-- a name, a space, a decimal value, and the end of the line
abbrev pub line : List ℕ → ℕ → List ℕ
line name a = name ++ (32 ∷ (decimal a ++ (10 ∷ [])))
