-- Which shots meet a block, and what that says of the cells of the block.
use mathlib.Core.Path.{◌≡◌, sym, ◌∙◌}
use mathlib.Core.Bool.{true, false, ◌&&◌, ◌||◌, and-false, true≢false}
use mathlib.Core.List.{List}
use Prim.Native.Nat.{ℕ, zero, suc, ◌+◌, ◌≤◌, ◌<◌, min, max}
use native.Mathlib.Omega.{arith}
use lib.Dec.{leb, ltb}
use borrow.Author.Tests.{le-leb, lt-leb, le-ltb, lt-ltb, leb-true, leb-false, ltb-true}
use Rattle.lattice.specs.Shots.{spans, covers}
use Rattle.job.specs.Job.{shot_count, x_at, y_at, z_at, edge_at, shot_at}
use Rattle.ground.proofs.Bools.{not_so, or-false, and-true}
use Rattle.grid_cover.specs.Cover.{shot_covers}
use Rattle.crediting_carving.specs.declared.blocks.Span.{Span}
use Rattle.crediting_carving.specs.declared.blocks.Block.{Block}
use Rattle.crediting_carving.specs.Blocks.{InSpan, InBlock, Small, Ordered, empty_span, empty_block, meets_span, meets_block, Meets, shared_span, shared_block, span_before, span_after, part_of}
use Rattle.crediting_carving.proofs.BlockLaws.{SpanInside, Inside}

-- ---- a block without cells

-- a block that is empty has no cell
pub none_in : (b : Block) → empty_block b ≡ true → (i j k : ℕ) → InBlock b i j k → ⊥
none_in b e i j k h = true≢false (sym e ∙ rw (some_in b.x i h.x, some_in b.y j h.y, some_in b.z k h.z))
  where
    some_in : (s : Span) (i : ℕ) → InSpan s i → empty_span s ≡ false
    some_in s i l = lt-leb s.to s.from (omega (arith, l.low, l.high))

-- ---- a shot that meets a block

-- one that covers a cell of the block meets it
span-meets : (e a : ℕ) (s : Span) (i : ℕ) → InSpan s i → spans e a i ≡ true → meets_span e a s ≡ true
span-meets e a s i l h =
    let c = and-true (leb a i) (ltb i (a + e)) h in
    rw (lt-ltb a s.to (omega (arith, l.high, leb-true a i c.0)), lt-ltb s.from (a + e) (omega (arith, l.low, ltb-true i (a + e) c.1)))

module _ (E : ℕ) (coords : List ℕ) (s : ℕ) (b : Block) (i j k : ℕ) (l : InBlock b i j k) where
  covers-meets : shot_covers E coords s i j k ≡ true → meets_block E coords s b ≡ true
  unfolding shot_covers meets_block
  covers-meets h =
      let n = and-true (ltb s (shot_count coords)) (covers (shot_at E coords s) i j k) h in
      let x = and-true (spans (edge_at E coords s) (x_at coords s) i) (spans (edge_at E coords s) (y_at coords s) j && spans (edge_at E coords s) (z_at coords s) k) n.1 in
      let yz = and-true (spans (edge_at E coords s) (y_at coords s) j) (spans (edge_at E coords s) (z_at coords s) k) x.1 in
      rw (n.0, span-meets (edge_at E coords s) (x_at coords s) b.x i l.x x.0, span-meets (edge_at E coords s) (y_at coords s) b.y j l.y yz.0, span-meets (edge_at E coords s) (z_at coords s) b.z k l.z yz.1)

  pub missed-bare : meets_block E coords s b ≡ false → shot_covers E coords s i j k ≡ false
  missed-bare m = not_so (shot_covers E coords s i j k) (λ e. true≢false (sym (covers-meets e) ∙ m))

-- ---- the cells of the block that it covers

shared-in : (e a : ℕ) (s : Span) → empty_span s ≡ false → meets_span e a s ≡ true → SpanInside s (shared_span e a s)
shared-in e a s some m =
    let c = and-true (ltb a s.to) (ltb s.from (a + e)) m in
    let order : s.from < s.to = leb-false s.to s.from some in
    let low : a < s.to = ltb-true a s.to c.0 in
    let high : s.from < a + e = ltb-true s.from (a + e) c.1 in
    record { low = omega arith; order = omega (arith, order, low, high); high = omega arith }

module _ (E : ℕ) (coords : List ℕ) (s : ℕ) (b : Block) (m : Meets E coords s b) where
  met : (ltb s (shot_count coords) ≡ true) × ((meets_span (edge_at E coords s) (x_at coords s) b.x ≡ true) × ((meets_span (edge_at E coords s) (y_at coords s) b.y ≡ true) × (meets_span (edge_at E coords s) (z_at coords s) b.z ≡ true)))
  unfolding meets_block
  met =
      let n = and-true (ltb s (shot_count coords)) (meets_span (edge_at E coords s) (x_at coords s) b.x && (meets_span (edge_at E coords s) (y_at coords s) b.y && meets_span (edge_at E coords s) (z_at coords s) b.z)) m.meets in
      let x = and-true (meets_span (edge_at E coords s) (x_at coords s) b.x) (meets_span (edge_at E coords s) (y_at coords s) b.y && meets_span (edge_at E coords s) (z_at coords s) b.z) n.1 in
      (n.0, (x.0, and-true (meets_span (edge_at E coords s) (y_at coords s) b.y) (meets_span (edge_at E coords s) (z_at coords s) b.z) x.1))

  pub met-shot : s < shot_count coords
  met-shot = ltb-true s (shot_count coords) met.0

  pub shared-inside : Inside b (shared_block E coords s b)
  shared-inside =
      let some = or-false (empty_span b.x) (empty_span b.y || empty_span b.z) m.has_cells in
      let yz = or-false (empty_span b.y) (empty_span b.z) some.1 in
      record {
        x = shared-in (edge_at E coords s) (x_at coords s) b.x some.0 met.1.0;
        y = shared-in (edge_at E coords s) (y_at coords s) b.y yz.0 met.1.1.0;
        z = shared-in (edge_at E coords s) (z_at coords s) b.z yz.1 met.1.1.1;
      }

  pub shared-ordered : Ordered (shared_block E coords s b)
  shared-ordered = let h = shared-inside in record { x_order = h.x.order; y_order = h.y.order; z_order = h.z.order }

  pub shared-small : Small b → Small (shared_block E coords s b)
  shared-small h = let c = shared-inside in record { x_in = omega (arith, c.x.high, h.x_in); y_in = omega (arith, c.y.high, h.y_in); z_in = omega (arith, c.z.high, h.z_in) }

-- its cells are covered, and lie in the block
span-covered : (e a : ℕ) (s : Span) (i : ℕ) → InSpan (shared_span e a s) i → spans e a i ≡ true
span-covered e a s i l =
    let low : max a s.from ≤ i = l.low in
    let high : i < min (a + e) s.to = l.high in
    rw (le-leb a i (omega (arith, low)), lt-ltb i (a + e) (omega (arith, high)))

pub shared-covered : (E : ℕ) (coords : List ℕ) (s : ℕ) (b : Block) → s < shot_count coords → (i j k : ℕ) → InBlock (shared_block E coords s b) i j k → shot_covers E coords s i j k ≡ true
unfolding shot_covers
shared-covered E coords s b n i j k l =
    rw (lt-ltb s (shot_count coords) n, span-covered (edge_at E coords s) (x_at coords s) b.x i l.x, span-covered (edge_at E coords s) (y_at coords s) b.y j l.y, span-covered (edge_at E coords s) (z_at coords s) b.z k l.z)

pub inside-in : (b c : Block) → Inside b c → (i j k : ℕ) → InBlock c i j k → InBlock b i j k
inside-in b c h i j k l = record { x = one h.x l.x; y = one h.y l.y; z = one h.z l.z }
  where
    one : {s r : Span} {i : ℕ} → SpanInside s r → InSpan r i → InSpan s i
    one h l = record { low = omega (arith, h.low, l.low); high = omega (arith, h.high, l.high) }

-- ---- the six parts around them

-- before and after them on an axis the shot spans nothing
bare-before : (e a : ℕ) (s : Span) (i : ℕ) → InSpan (span_before s (shared_span e a s)) i → spans e a i ≡ false
bare-before e a s i l =
    let low : s.from ≤ i = l.low in
    let high : i < max a s.from = l.high in
    rw (lt-leb a i (omega (arith, low, high)))

bare-after : (e a : ℕ) (s : Span) (i : ℕ) → InSpan (span_after s (shared_span e a s)) i → spans e a i ≡ false
bare-after e a s i l =
    let low : min (a + e) s.to ≤ i = l.low in
    let high : i < s.to = l.high in
    rw (le-ltb i (a + e) (omega (arith, low, high))) (and-false (leb a i))

module _ (E : ℕ) (coords : List ℕ) (s : ℕ) (b : Block) (i j k : ℕ) where
  off-x : spans (edge_at E coords s) (x_at coords s) i ≡ false → shot_covers E coords s i j k ≡ false
  unfolding shot_covers
  off-x h = rw h (and-false (ltb s (shot_count coords)))

  off-y : spans (edge_at E coords s) (y_at coords s) j ≡ false → shot_covers E coords s i j k ≡ false
  unfolding shot_covers
  off-y h = rw (h, and-false (spans (edge_at E coords s) (x_at coords s) i)) (and-false (ltb s (shot_count coords)))

  off-z : spans (edge_at E coords s) (z_at coords s) k ≡ false → shot_covers E coords s i j k ≡ false
  unfolding shot_covers
  off-z h = rw (h, and-false (spans (edge_at E coords s) (y_at coords s) j), and-false (spans (edge_at E coords s) (x_at coords s) i)) (and-false (ltb s (shot_count coords)))

  pub part-bare : (side : ℕ) → InBlock (part_of b (shared_block E coords s b) side) i j k → shot_covers E coords s i j k ≡ false
  part-bare zero l = off-x (bare-before (edge_at E coords s) (x_at coords s) b.x i l.x)
  part-bare (suc zero) l = off-x (bare-after (edge_at E coords s) (x_at coords s) b.x i l.x)
  part-bare (suc (suc zero)) l = off-y (bare-before (edge_at E coords s) (y_at coords s) b.y j l.y)
  part-bare (suc (suc (suc zero))) l = off-y (bare-after (edge_at E coords s) (y_at coords s) b.y j l.y)
  part-bare (suc (suc (suc (suc zero)))) l = off-z (bare-before (edge_at E coords s) (z_at coords s) b.z k l.z)
  part-bare (suc (suc (suc (suc (suc n))))) l = off-z (bare-after (edge_at E coords s) (z_at coords s) b.z k l.z)

-- and they lie in the block
module _ (b c : Block) (h : Inside b c) where
  within : {s r : Span} (i : ℕ) → SpanInside s r → InSpan r i → InSpan s i
  within i h l = record { low = omega (arith, h.low, l.low); high = omega (arith, h.high, l.high) }

  front : {s r : Span} (i : ℕ) → SpanInside s r → InSpan (span_before s r) i → InSpan s i
  front i h l = record { low = l.low; high = omega (arith, h.order, h.high, l.high) }

  back : {s r : Span} (i : ℕ) → SpanInside s r → InSpan (span_after s r) i → InSpan s i
  back i h l = record { low = omega (arith, h.low, h.order, l.low); high = l.high }

  pub part_in : (side : ℕ) (i j k : ℕ) → InBlock (part_of b c side) i j k → InBlock b i j k
  part_in zero i j k l = record { x = front i h.x l.x; y = l.y; z = l.z }
  part_in (suc zero) i j k l = record { x = back i h.x l.x; y = l.y; z = l.z }
  part_in (suc (suc zero)) i j k l = record { x = within i h.x l.x; y = front j h.y l.y; z = l.z }
  part_in (suc (suc (suc zero))) i j k l = record { x = within i h.x l.x; y = back j h.y l.y; z = l.z }
  part_in (suc (suc (suc (suc zero)))) i j k l = record { x = within i h.x l.x; y = within j h.y l.y; z = front k h.z l.z }
  part_in (suc (suc (suc (suc (suc n))))) i j k l = record { x = within i h.x l.x; y = within j h.y l.y; z = back k h.z l.z }

  pub part_small : (side : ℕ) → Small b → Small (part_of b c side)
  part_small side s = one side
    where
      x-most : c.x.to ≤ 1024
      x-most = omega (arith, h.x.high, s.x_in)

      y-most : c.y.to ≤ 1024
      y-most = omega (arith, h.y.high, s.y_in)

      one : (side : ℕ) → Small (part_of b c side)
      one zero = record { x_in = omega (arith, h.x.order, x-most); y_in = s.y_in; z_in = s.z_in }
      one (suc zero) = record { x_in = s.x_in; y_in = s.y_in; z_in = s.z_in }
      one (suc (suc zero)) = record { x_in = x-most; y_in = omega (arith, h.y.order, y-most); z_in = s.z_in }
      one (suc (suc (suc zero))) = record { x_in = x-most; y_in = s.y_in; z_in = s.z_in }
      one (suc (suc (suc (suc zero)))) = record { x_in = x-most; y_in = y-most; z_in = omega (arith, h.z.order, h.z.high, s.z_in) }
      one (suc (suc (suc (suc (suc n))))) = record { x_in = x-most; y_in = y-most; z_in = s.z_in }
