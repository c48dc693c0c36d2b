-- The points of four words: which are corners, and their patterns.
use mathlib.Core.Path.{◌≡◌, sym, ◌∙◌, ap, ap₂}
use mathlib.Core.Bool.{Bool, true, false, xor, ◌&&◌, ◌||◌, and_comm}
use Prim.Native.Nat.{ℕ, suc, ◌+◌, ◌-◌, ◌*◌, ◌/◌, ◌%◌, ◌^◌}
use native.Mathlib.Numerals.{add-one}
use native.Mathlib.Omega.{arith}
use lib.Bits.{bit_and, bit_or, bit_xor}
use lib.Dec.{ltb}
use lib.Pow.{shr-shr}
use Rattle.ground.proofs.Bits.{bit-of}
use Rattle.lattice.specs.Axes.{Axis, x-axis, y-axis, z-axis}
use Rattle.ground.specs.Numbers.{bit}
use Rattle.lattice.specs.Pattern.{Pattern, byte, corner}
use Rattle.ground.proofs.Bools.{same, same_at}
use Rattle.lattice.proofs.Cases.{each_pattern-at}
use Rattle.lattice.proofs.PatternLaws.{changes, corner-changes}
use Rattle.sweep_words.specs.Words.{bit_at, pattern_of, two_at, pairs_differ, turns_at}
use Rattle.sweep_words.proofs.BitLaws.{bit-suc, bit-and, bit-or, bit-xor, bit-ones}

-- ---- where a pattern changes
pub turns-word : (w i : ℕ) → bit_at (bit_xor w (w / 2)) i ≡ turns_at w i
turns-word w i = bit-xor w (w / 2) i ∙ ap (xor (bit_at w i)) (sym (bit-suc w i))

either-word : (w i : ℕ) → bit_at (bit_or w (w / 2)) i ≡ (bit_at w i || bit_at w (suc i))
either-word w i = bit-or w (w / 2) i ∙ ap (λ (t : Bool). bit_at w i || t) (sym (bit-suc w i))

pairs-word : (a b c d i : ℕ) → bit_at (bit_or (bit_xor a b) (bit_xor c d)) i ≡ pairs_differ a b c d i
pairs-word a b c d i = bit-or (bit_xor a b) (bit_xor c d) i ∙ ap₂ ◌||◌ (bit-xor a b i) (bit-xor c d i)

pub across-word : (a b c d i : ℕ) → let x : ℕ = bit_or (bit_xor a b) (bit_xor c d) in
    bit_at (bit_or x (x / 2)) i ≡ (pairs_differ a b c d i || pairs_differ a b c d (suc i))
across-word a b c d i =
    either-word (bit_or (bit_xor a b) (bit_xor c d)) i ∙ ap₂ ◌||◌ (pairs-word a b c d i) (pairs-word a b c d (suc i))

pub along-word : {A B C D : Bool} (a b c d i : ℕ) → bit_at a i ≡ A → bit_at b i ≡ B → bit_at c i ≡ C → bit_at d i ≡ D
    → bit_at (bit_or (bit_or a b) (bit_or c d)) i ≡ ((A || B) || (C || D))
along-word a b c d i p q r s = bit-or (bit_or a b) (bit_or c d) i ∙ ap₂ ◌||◌ (bit-or a b i ∙ ap₂ ◌||◌ p q) (bit-or c d i ∙ ap₂ ◌||◌ r s)

-- ---- corners
-- a pattern changes across x, y or z
abbrev changes-by : Axis → Pattern → Bool
changes-by x-axis p =
    (xor (p false false false) (p true false false) || xor (p false true false) (p true true false))
    || (xor (p false false true) (p true false true) || xor (p false true true) (p true true true))
changes-by y-axis p =
    (xor (p false false false) (p false true false) || xor (p true false false) (p true true false))
    || (xor (p false false true) (p false true true) || xor (p true false true) (p true true true))
changes-by z-axis p =
    (xor (p false false false) (p false false true) || xor (p false true false) (p false true true))
    || (xor (p true false false) (p true false true) || xor (p true true false) (p true true true))

changes-is : (axis : Axis) (p : Pattern) → changes axis p ≡ changes-by axis p
unfolding xor
changes-is x-axis p = same_at (changes x-axis p) (changes-by x-axis p) (each_pattern-at (λ p. same (changes x-axis p) (changes-by x-axis p)) tt p)
changes-is y-axis p = same_at (changes y-axis p) (changes-by y-axis p) (each_pattern-at (λ p. same (changes y-axis p) (changes-by y-axis p)) tt p)
changes-is z-axis p = same_at (changes z-axis p) (changes-by z-axis p) (each_pattern-at (λ p. same (changes z-axis p) (changes-by z-axis p)) tt p)

-- the corners of four words, from the words' bits
corner-bits : (l₀ l₁ u₀ u₁ b : ℕ) → corner (pattern_of l₀ l₁ u₀ u₁ b)
    ≡ ((pairs_differ l₀ u₀ l₁ u₁ b || pairs_differ l₀ u₀ l₁ u₁ (suc b))
    && ((pairs_differ l₀ l₁ u₀ u₁ b || pairs_differ l₀ l₁ u₀ u₁ (suc b))
    && ((turns_at l₀ b || turns_at l₁ b) || (turns_at u₀ b || turns_at u₁ b))))
corner-bits l₀ l₁ u₀ u₁ b =
    let p : Pattern = pattern_of l₀ l₁ u₀ u₁ b in
    corner-changes p ∙ ap₂ (λ (s t : Bool). s && t) (changes-is x-axis p) (ap₂ (λ (s t : Bool). s && t) (changes-is y-axis p) (changes-is z-axis p))

-- the corners among the first 63 places, from words that show where the pattern changes across x, y and z
pub corner-word : (l₀ l₁ u₀ u₁ x y z b : ℕ)
    → bit_at x b ≡ (pairs_differ l₀ u₀ l₁ u₁ b || pairs_differ l₀ u₀ l₁ u₁ (suc b))
    → bit_at y b ≡ (pairs_differ l₀ l₁ u₀ u₁ b || pairs_differ l₀ l₁ u₀ u₁ (suc b))
    → bit_at z b ≡ ((turns_at l₀ b || turns_at l₁ b) || (turns_at u₀ b || turns_at u₁ b))
    → bit_at (bit_and (bit_and x (bit_and y z)) (2 ^ 63 - 1)) b ≡ (ltb b 63 && corner (pattern_of l₀ l₁ u₀ u₁ b))
corner-word l₀ l₁ u₀ u₁ x y z b ex ey ez =
    bit-and (bit_and x (bit_and y z)) (2 ^ 63 - 1) b
    ∙ ap₂ ◌&&◌
    (bit-and x (bit_and y z) b ∙ ap₂ ◌&&◌ ex (bit-and y z b ∙ ap₂ ◌&&◌ ey ez) ∙ sym (corner-bits l₀ l₁ u₀ u₁ b)) (bit-ones 63 b)
    ∙ and_comm (corner (pattern_of l₀ l₁ u₀ u₁ b)) (ltb b 63)

-- ---- patterns
-- the two cells of a word are two of its digits
pub two_digits : (w b : ℕ) → w / 2 ^ b % 4 ≡ two_at w b
unfolding bit_at
two_digits w b =
    let next : w / 2 ^ b / 2 ≡ w / 2 ^ suc b = shr-shr w b 1 ∙ ap (λ (n : ℕ). w / 2 ^ n) (add-one b) in
    let low : w / 2 ^ b % 2 ≡ bit (bit_at w b) = bit-of (w / 2 ^ b % 2) (omega arith) in
    let high : w / 2 ^ suc b % 2 ≡ bit (bit_at w (suc b)) = bit-of (w / 2 ^ suc b % 2) (omega arith) in
    omega arith

-- the byte of a pattern from the two cells of each word
pub byte-two : (l₀ l₁ u₀ u₁ b : ℕ) → two_at l₀ b + 4 * two_at l₁ b + 16 * two_at u₀ b + 64 * two_at u₁ b ≡ byte (pattern_of l₀ l₁ u₀ u₁ b)
unfolding byte
byte-two l₀ l₁ u₀ u₁ b = omega arith
