-- Numbers stored one after the other, at the front of a lent slice.
use mathlib.Core.Path.{◌≡◌, sym, ◌∙◌, ap}
use mathlib.Core.List.{List, [], ◌∷◌}
use Prim.Native.Nat.{ℕ, ◌≤◌}
use lib.ListN.{length, set}
use lib.Seq.{sets-eq}
use Rattle.buffer.specs.Wrote.{in_front}

pub two-stored : (l : List ℕ) (a b : ℕ) → 2 ≤ length l → set (set l 0 a) 1 b ≡ in_front (a ∷ b ∷ []) l
two-stored l a b h = sets-eq (a ∷ b ∷ []) l 0 h

pub three-stored : (l : List ℕ) (a b c : ℕ) → 3 ≤ length l → set (set (set l 0 a) 1 b) 2 c ≡ in_front (a ∷ b ∷ c ∷ []) l
three-stored l a b c h = sets-eq (a ∷ b ∷ c ∷ []) l 0 h

pub four-stored : (l : List ℕ) (a b c d : ℕ) → 4 ≤ length l → set (set (set (set l 0 a) 1 b) 2 c) 3 d ≡ in_front (a ∷ b ∷ c ∷ d ∷ []) l
four-stored l a b c d h = sets-eq (a ∷ b ∷ c ∷ d ∷ []) l 0 h

pub five-stored : (l : List ℕ) (a b c d e : ℕ) → 5 ≤ length l → set (set (set (set (set l 0 a) 1 b) 2 c) 3 d) 4 e ≡ in_front (a ∷ b ∷ c ∷ d ∷ e ∷ []) l
five-stored l a b c d e h = sets-eq (a ∷ b ∷ c ∷ d ∷ e ∷ []) l 0 h

pub six-stored : (l : List ℕ) (a b c d e f : ℕ) → 6 ≤ length l
    → set (set (set (set (set (set l 0 a) 1 b) 2 c) 3 d) 4 e) 5 f ≡ in_front (a ∷ b ∷ c ∷ d ∷ e ∷ f ∷ []) l
six-stored l a b c d e f h = sets-eq (a ∷ b ∷ c ∷ d ∷ e ∷ f ∷ []) l 0 h

pub seven-stored : (l : List ℕ) (a b c d e f g : ℕ) → 7 ≤ length l
    → set (set (set (set (set (set (set l 0 a) 1 b) 2 c) 3 d) 4 e) 5 f) 6 g ≡ in_front (a ∷ b ∷ c ∷ d ∷ e ∷ f ∷ g ∷ []) l
seven-stored l a b c d e f g h = sets-eq (a ∷ b ∷ c ∷ d ∷ e ∷ f ∷ g ∷ []) l 0 h

-- the numbers of an answer that is known
pub put_as : {A : Type 0} (numbers : A → List ℕ) (answer : List ℕ) {answer' : List ℕ} {a b : A} → answer' ≡ in_front (numbers b) answer → a ≡ b → answer' ≡ in_front (numbers a) answer
put_as numbers answer e k = e ∙ ap (λ m. in_front (numbers m) answer) (sym k)
