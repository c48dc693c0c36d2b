-- Counting the cells of a block: cell by cell, by the parts around a block in it, and at most all.
use mathlib.Core.Path.{◌≡◌, refl, sym, ap, ◌∙◌}
use mathlib.Core.Bool.{false}
use Prim.Native.Nat.{ℕ, ◌+◌, ◌-◌, ◌*◌, ◌≤◌}
use native.Mathlib.Nat.{mul_assoc, mul-one}
use native.Mathlib.Omega.{arith}
use Rattle.ground.specs.Sums.{total}
use Rattle.ground.specs.Numbers.{bit}
use Rattle.ground.proofs.Bits.{bit-most}
use Rattle.lattice.specs.Cells.{Cells}
use Rattle.crediting_carving.specs.declared.blocks.Span.{Span}
use Rattle.crediting_carving.specs.declared.blocks.Block.{Block}
use Rattle.crediting_carving.specs.Blocks.{along, count_in, size_of, InBlock, span_before, span_after, part_of}
use Rattle.crediting_carving.proofs.SpanLaws.{along-agree, along-plus, along-up, along-same, along-three}

-- a block in another, on each axis
pub record SpanInside (s r : Span) : Type 0 where
  pub low : s.from ≤ r.from
  pub order : r.from ≤ r.to
  pub high : r.to ≤ s.to

pub record Inside (b c : Block) : Type 0 where
  pub x : SpanInside b.x c.x
  pub y : SpanInside b.y c.y
  pub z : SpanInside b.z c.z

pub count-agree : (b : Block) (p q : Cells) → ((i j k : ℕ) → InBlock b i j k → p i j k ≡ q i j k) → count_in b p ≡ count_in b q
unfolding count_in
count-agree b p q h =
    along-agree b.x _ _ λ i x. along-agree b.y _ _ λ j y. along-agree b.z _ _ λ k z. ap bit (h i j k (record { x = x; y = y; z = z }))

-- the cells of a line along z, and of a plane across x
abbrev line : Cells → Span → ℕ → ℕ → ℕ
line p s i j = along s λ k. bit (p i j k)

abbrev plane : Cells → Span → Span → ℕ → ℕ
plane p s t i = along s λ j. line p t i j

-- ---- no cell

-- a sum of nothing but 0
none-along : (s : Span) (f : ℕ → ℕ) → ((i : ℕ) → f i ≡ 0) → along s f ≡ 0
none-along s f h = along-agree s f (λ i. 0) (λ i l. h i) ∙ (along-same s 0 ∙ omega arith)

-- a solid without cells
pub count-false : (b : Block) → count_in b (λ i j k. false) ≡ 0
unfolding count_in
count-false b = none-along b.x _ λ i. none-along b.y _ λ j. none-along b.z _ λ k. refl

-- ---- all cells of a block

size_is : (b : Block) → size_of b ≡ (b.x.to - b.x.from) * (b.y.to - b.y.from) * (b.z.to - b.z.from)
unfolding count_in
size_is b =
    along-agree b.x _ (λ i. (b.y.to - b.y.from) * (b.z.to - b.z.from)) (λ i l. plane i)
    ∙ (along-same b.x ((b.y.to - b.y.from) * (b.z.to - b.z.from)) ∙ sym (mul_assoc (b.x.to - b.x.from) (b.y.to - b.y.from) (b.z.to - b.z.from)))
  where
    line : along b.z (λ k. 1) ≡ b.z.to - b.z.from
    line = along-same b.z 1 ∙ mul-one (b.z.to - b.z.from)

    plane : (i : ℕ) → along b.y (λ j. along b.z (λ k. 1)) ≡ (b.y.to - b.y.from) * (b.z.to - b.z.from)
    plane i = along-same b.y (along b.z (λ k. 1)) ∙ ap (λ (t : ℕ). (b.y.to - b.y.from) * t) line

pub size-of-lengths : (b : Block) {x y z : ℕ} → x ≡ b.x.to - b.x.from → y ≡ b.y.to - b.y.from → z ≡ b.z.to - b.z.from → x * y * z ≡ size_of b
size-of-lengths b ex ey ez = rw (ex, ey, ez) (sym (size_is b))

pub count_most : (b : Block) (p : Cells) → count_in b p ≤ size_of b
unfolding count_in
count_most b p = along-up b.x _ _ λ i. along-up b.y _ _ λ j. along-up b.z _ _ λ k. bit-most (p i j k)

-- ---- a block in it, and the six parts around that

-- a sum of sums over three parts
along-parts : (s : Span) (f g h k : ℕ → ℕ) → ((i : ℕ) → f i ≡ g i + (h i + k i)) → along s f ≡ along s g + (along s h + along s k)
along-parts s f g h k e =
    along-agree s f (λ i. g i + (h i + k i)) (λ i l. e i)
    ∙ (along-plus s g (λ i. h i + k i) ∙ ap (λ (t : ℕ). along s g + t) (along-plus s h k))

module _ (b c : Block) (h : Inside b c) (p : Cells) where
  on-x : (f : ℕ → ℕ) → along b.x f ≡ along (span_before b.x c.x) f + (along (span_after b.x c.x) f + along c.x f)
  on-x f = along-three b.x c.x h.x.low h.x.order h.x.high f

  on-y : along c.x (plane p b.y b.z) ≡ along c.x (plane p (span_before b.y c.y) b.z) + (along c.x (plane p (span_after b.y c.y) b.z) + along c.x (plane p c.y b.z))
  on-y =
      along-parts c.x (plane p b.y b.z) (plane p (span_before b.y c.y) b.z) (plane p (span_after b.y c.y) b.z) (plane p c.y b.z) λ i.
      along-three b.y c.y h.y.low h.y.order h.y.high (line p b.z i)

  on-z : along c.x (plane p c.y b.z) ≡ along c.x (plane p c.y (span_before b.z c.z)) + (along c.x (plane p c.y (span_after b.z c.z)) + along c.x (plane p c.y c.z))
  on-z =
      along-parts c.x (plane p c.y b.z) (plane p c.y (span_before b.z c.z)) (plane p c.y (span_after b.z c.z)) (plane p c.y c.z) λ i.
      along-parts c.y (line p b.z i) (line p (span_before b.z c.z) i) (line p (span_after b.z c.z) i) (line p c.z i) λ j.
      along-three b.z c.z h.z.low h.z.order h.z.high (λ k. bit (p i j k))

  pub count-parts : count_in b p ≡ count_in c p + total 6 (λ side. count_in (part_of b c side) p)
  unfolding count_in total
  count-parts = omega (arith, on-x (plane p b.y b.z), on-y, on-z)
