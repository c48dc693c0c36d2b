-- Sums over the cells of a span: term by term, cut in two and in three.
use mathlib.Core.Path.{◌≡◌}
use Prim.Native.Nat.{ℕ, ◌+◌, ◌-◌, ◌*◌, ◌≤◌}
use native.Mathlib.Omega.{arith}
use Rattle.ground.proofs.TotalLaws.{total-plus, total-agree, total-cut, total-up, total-same}
use Rattle.crediting_carving.specs.declared.blocks.Span.{Span}
use Rattle.crediting_carving.specs.Blocks.{along, InSpan, span_before, span_after}

module _ (s : Span) where
  pub along-agree : (f g : ℕ → ℕ) → ((i : ℕ) → InSpan s i → f i ≡ g i) → along s f ≡ along s g
  along-agree f g h = total-agree (s.to - s.from) _ _ λ i l. h (s.from + i) (record { low = omega arith; high = omega (arith, l) })

  pub along-plus : (f g : ℕ → ℕ) → along s (λ i. f i + g i) ≡ along s f + along s g
  along-plus f g = total-plus (s.to - s.from) (λ i. f (s.from + i)) (λ i. g (s.from + i))

  pub along-up : (f g : ℕ → ℕ) → ((i : ℕ) → f i ≤ g i) → along s f ≤ along s g
  along-up f g h = total-up (s.to - s.from) _ _ λ i. h (s.from + i)

  pub along-same : (k : ℕ) → along s (λ i. k) ≡ (s.to - s.from) * k
  along-same k = total-same (s.to - s.from) k

-- what is before and after r, and r
pub along-three : (s r : Span) → s.from ≤ r.from → r.from ≤ r.to → r.to ≤ s.to → (f : ℕ → ℕ) → along s f ≡ along (span_before s r) f + (along (span_after s r) f + along r f)
along-three s r low order high f =
    omega (arith, total-cut f s.from r.from s.to low (omega arith), total-cut f r.from r.to s.to order high)
