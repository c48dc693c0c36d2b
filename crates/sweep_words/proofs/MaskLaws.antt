-- Words whose set bits are a run: from a place on, and up to a place.
use mathlib.Core.Path.{◌≡◌, refl, ◌∙◌, ap}
use mathlib.Core.Bool.{Bool, true, false}
use Prim.Native.Nat.{ℕ, suc, ◌+◌, ◌-◌, ◌*◌, ◌/◌, ◌%◌, ◌^◌, ◌<◌, ◌≤◌}
use native.Mathlib.Omega.{arith}
use lib.Dec.{leb}
use borrow.Author.Tests.{lt-ltb, leb-true, leb-false}
use Rattle.ground.proofs.Tests.{leb-alike}
use Rattle.sweep_words.specs.Words.{bit_at}
use Rattle.sweep_words.proofs.BitLaws.{bit-shr, bit-shl-low, bit-shl-high, bit-mod, bit-ones}

-- bits a to 63
pub bit-upper : (a i : ℕ) → i < 64 → bit_at ((2 ^ 64 - 1) * 2 ^ a % 2 ^ 64) i ≡ leb a i
bit-upper a i h = bit-mod 64 ((2 ^ 64 - 1) * 2 ^ a) i h ∙ go (leb a i) refl
  where
    go : (t : Bool) → leb a i ≡ t → bit_at ((2 ^ 64 - 1) * 2 ^ a) i ≡ t
    go true e =
        let l : a ≤ i = leb-true a i e in
        let s : i ≡ i - a + a = omega arith in
        ap (bit_at ((2 ^ 64 - 1) * 2 ^ a)) s ∙ bit-shl-high (2 ^ 64 - 1) a (i - a) ∙ bit-ones 64 (i - a) ∙ lt-ltb (i - a) 64 (omega arith)
    go false e = bit-shl-low (2 ^ 64 - 1) a i (leb-false a i e)

-- bits 0 to b
pub bit-lower : (b i : ℕ) → b < 64 → bit_at ((2 ^ 64 - 1) / 2 ^ (63 - b)) i ≡ leb i b
bit-lower b i h =
    bit-shr (2 ^ 64 - 1) (63 - b) i ∙ bit-ones 64 (i + (63 - b))
    ∙ leb-alike (suc (i + (63 - b))) 64 i b (λ l. omega arith) (λ l. omega arith)
