-- Rows that name no column: stretches of entries that are 0.
use mathlib.Core.Path.{◌≡◌, ◌∙◌, ap}
use mathlib.Core.List.{List}
use Prim.Native.Nat.{ℕ, suc, ◌+◌, ◌<◌, ◌≤◌}
use native.Mathlib.Decide.{dec_le}
use native.Mathlib.Omega.{arith}
use lib.Bits.{bit_or}
use lib.ListN.{get_or}
use Rattle.sweep_words.proofs.BitLaws.{or-none}
use Rattle.sweep_blanks.specs.Blanks.{Blank}

-- the entries from one on up to another are 0
record Zeros (names : List ℕ) (from end : ℕ) : Type 0 where
  pub at : (i : ℕ) → from ≤ i → i < end → get_or names i 0 ≡ 0

zeros-none : (names : List ℕ) (y : ℕ) → Zeros names y y
zeros-none names y = record { at = λ i a b. absurd (omega arith) }

zeros-more : {names : List ℕ} {y e : ℕ} → Zeros names y e → get_or names e 0 ≡ 0 → (k : ℕ) → k ≡ suc e → Zeros names y k
zeros-more {names} {y} {e} z h k f = record { at = λ i a b. go i a b (dec_le e i) }
  where
    go : (i : ℕ) → y ≤ i → i < k → Dec (e ≤ i) → get_or names i 0 ≡ 0
    go i a b (yes p) = ap (λ k. get_or names k 0) (let q : i ≡ e = omega arith in q) ∙ h
    go i a b (no p) = z.at i a (omega arith)

zeros-blank : {names : List ℕ} {y e : ℕ} → Zeros names y e → (k : ℕ) → e ≡ suc k → Blank names y k
zeros-blank z k h = record { at = λ i a b. (z.at i a (omega arith), z.at (i + 1) (omega arith) (omega arith)) }

module _ (names : List ℕ) (y : ℕ) (e : bit_or (get_or names y 0) (get_or names (y + 1) 0) ≡ 0) where
  zeros-two : Zeros names y (y + 2)
  zeros-two =
      let p = or-none (get_or names y 0) (get_or names (y + 1) 0) e in
      zeros-more (zeros-more (zeros-none names y) p.0 (y + 1) (omega arith)) p.1 (y + 2) (omega arith)

  pub blank-one : Blank names y (y + 1)
  blank-one = zeros-blank zeros-two (y + 1) (omega arith)

  pub blank-eight :
      bit_or
      (bit_or (bit_or (get_or names (y + 2) 0) (get_or names (y + 3) 0)) (bit_or (get_or names (y + 4) 0) (get_or names (y + 5) 0)))
      (bit_or (bit_or (get_or names (y + 6) 0) (get_or names (y + 7) 0)) (get_or names (y + 8) 0)) ≡ 0
      → Blank names y (y + 8)
  blank-eight z =
      let four : ℕ = bit_or (bit_or (get_or names (y + 2) 0) (get_or names (y + 3) 0)) (bit_or (get_or names (y + 4) 0) (get_or names (y + 5) 0)) in
      let p = or-none four (bit_or (bit_or (get_or names (y + 6) 0) (get_or names (y + 7) 0)) (get_or names (y + 8) 0)) z in
      let a = or-none (bit_or (get_or names (y + 2) 0) (get_or names (y + 3) 0)) (bit_or (get_or names (y + 4) 0) (get_or names (y + 5) 0)) p.0 in
      let b = or-none (get_or names (y + 2) 0) (get_or names (y + 3) 0) a.0 in
      let c = or-none (get_or names (y + 4) 0) (get_or names (y + 5) 0) a.1 in
      let d = or-none (bit_or (get_or names (y + 6) 0) (get_or names (y + 7) 0)) (get_or names (y + 8) 0) p.1 in
      let g = or-none (get_or names (y + 6) 0) (get_or names (y + 7) 0) d.0 in
      let z4 = zeros-more (zeros-more zeros-two b.0 (y + 3) (omega arith)) b.1 (y + 4) (omega arith) in
      let z6 = zeros-more (zeros-more z4 c.0 (y + 5) (omega arith)) c.1 (y + 6) (omega arith) in
      let z8 = zeros-more (zeros-more z6 g.0 (y + 7) (omega arith)) g.1 (y + 8) (omega arith) in
      zeros-blank (zeros-more z8 d.1 (y + 9) (omega arith)) (y + 8) (omega arith)
