-- Bools joined by 'or', 'and' and 'not': what a joined one says of its parts, and back. Assumes nothing.
-- A Bool passes as a type (T b) or as an equation (b ≡ true). A negated one is turned round by the kit (borrow.Author.Tests: not-true, not-false), and
-- the kit has equations of Bools (mathlib.Core.Bool); its mathlib.Mathlib.Data.Bool.Basic has some of these laws, but brings orders and lattices along.
use mathlib.Core.Path.{◌≡◌, refl, sym, ap, ◌∙◌}
use mathlib.Core.Logic.{◌⊎◌, inl, inr}
use mathlib.Core.Bool.{Bool, true, false, not, ◌&&◌, ◌||◌, true≢false, false≢true, and-eq-true_iff}
use lib.Dec.{T}

-- ---- the two forms
pub is_true : (a : Bool) → T a → a ≡ true
is_true true t = refl
is_true false t = absurd t

pub is_false : (a : Bool) → (T a → ⊥) → a ≡ false
is_false true h = absurd (h tt)
is_false false h = refl

pub truth : (a : Bool) → a ≡ true → T a
truth true e = tt
truth false e = absurd (false≢true e)

-- a Bool whose negation passes, and one that cannot pass, is false
pub not-off : (a : Bool) → T (not a) → a ≡ false
not-off true t = absurd t
not-off false t = refl

pub not_so : (a : Bool) → (a ≡ true → ⊥) → a ≡ false
not_so true h = absurd (h refl)
not_so false h = refl

-- ---- two Bools are the same
pub bool-ext : (a b : Bool) → (T a → T b) → (T b → T a) → a ≡ b
bool-ext true true f g = refl
bool-ext true false f g = absurd (f tt)
bool-ext false true f g = absurd (g tt)
bool-ext false false f g = refl

-- the same as a test that is computed
abbrev pub same : Bool → Bool → Bool
same true b = b
same false b = not b

pub same_at : (a b : Bool) → T (same a b) → a ≡ b
same_at true true t = refl
same_at true false t = absurd t
same_at false true t = absurd t
same_at false false t = refl

pub same_refl : {a b : Bool} → b ≡ a → same a b ≡ true
same_refl {a} e = ap (same a) e ∙ go a
  where
    go : (a : Bool) → same a a ≡ true
    go true = refl
    go false = refl

-- ---- 'and'
pub and-true : (a b : Bool) → a && b ≡ true → (a ≡ true) × (b ≡ true)
and-true a b h = (and-eq-true_iff a b).0 h

pub and-elim : (a b : Bool) → T (a && b) → T a × T b
and-elim true b t = (tt, t)
and-elim false b t = absurd t

pub and_left : (a b : Bool) → T (a && b) → T a
and_left a b t = (and-elim a b t).0

pub and_right : (a b : Bool) → T (a && b) → T b
and_right a b t = (and-elim a b t).1

pub and_intro : (a b : Bool) → T a → T b → T (a && b)
and_intro true b s t = t
and_intro false b s t = s

-- an 'and' by its first part, and by its second where the first is true
pub and_first : (a b : Bool) → a ≡ false → false ≡ a && b
and_first a b h = rw h

pub and_second : (a b : Bool) {c : Bool} → a ≡ true → c ≡ b → c ≡ a && b
and_second a b h e = rw h e

-- ---- 'or'
pub or-true : (a b : Bool) → a || b ≡ true → (a ≡ true) ⊎ (b ≡ true)
or-true true b h = inl refl
or-true false b h = inr h

pub or-true-left : (a b : Bool) → a ≡ true → a || b ≡ true
or-true-left a b h = rw h

pub or_true_right : (a b : Bool) → b ≡ true → a || b ≡ true
or_true_right true b h = refl
or_true_right false b h = h

pub or-false : (a b : Bool) → a || b ≡ false → (a ≡ false) × (b ≡ false)
or-false true b h = absurd (true≢false h)
or-false false b h = (refl, h)

pub or_elim : {C : Type 0} (a b : Bool) → T (a || b) → (T a → C) → (T b → C) → C
or_elim true b t f g = f tt
or_elim false b t f g = g t

pub or_left : (a b : Bool) → T a → T (a || b)
or_left true b h = tt
or_left false b h = absurd h

pub or_right : (a b : Bool) → T b → T (a || b)
or_right true b h = tt
or_right false b h = h

-- as code answers it: by the first test, and by the second where the first fails
pub or-first : (a b : Bool) → a ≡ true → true ≡ a || b
or-first a b h = sym (or-true-left a b h)

pub or-second : (a b : Bool) {c : Bool} → a ≡ false → c ≡ b → c ≡ a || b
or-second a b h e = rw h e
