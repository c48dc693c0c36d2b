-- A name that stands, and what a chunk that passes the tests has. Assumes nothing.
use mathlib.Core.Path.{◌≡◌, ap, ◌∙◌}
use mathlib.Core.Bool.{Bool, false, not, ◌||◌}
use mathlib.Core.List.{List}
use Prim.Native.Nat.{ℕ, ◌+◌, ◌-◌, ◌≤◌, ◌<◌}
use native.Mathlib.Omega.{arith}
use lib.Dec.{eqb}
use lib.ListN.{length, take, drop}
use borrow.Author.Tests.{ltb-false, leb-false, eqb-true, not-false}
use Rattle.text_same.specs.Same.{same}
use Rattle.ground.proofs.Bools.{or-false}
use Rattle.vox_chunks.specs.Chunks.{stands, content_at, children_at, after_chunk, missing, overruns, mismatched}

-- a comparison of numbers
agreed : (a b : ℕ) → not (eqb a b) ≡ false → a ≡ b
agreed a b h = eqb-true a b (not-false (eqb a b) h)

module _ (s : List ℕ) (at : ℕ) where
  -- ---- a name
  pub name-stands : (name : List ℕ) {r : Bool} → r ≡ same (take (at + 4 - at) (drop at s)) name → r ≡ stands s at name
  unfolding stands
  name-stands name k =
      let four : at + 4 - at ≡ 4 = omega arith in
      k ∙ ap (λ n. same (take n (drop at s)) name) four

  -- where a chunk is not missing, some byte is left
  pub some_left : (name : List ℕ) → missing s at name ≡ false → at < length s
  some_left name h = leb-false (length s) at (or-false _ _ h).0

  -- ---- a whole chunk
  pub chunk_whole : overruns s at ≡ false → after_chunk s at ≤ length s
  chunk_whole h = ltb-false (length s) (after_chunk s at) h

  -- a chunk of this content, without children, ends in the file
  pub matched-whole : (content : ℕ) → mismatched s at content ≡ false → at + 12 + content ≤ length s
  matched-whole content h =
      let p = or-false (overruns s at) (not (eqb (children_at s at) 0) || not (eqb (content_at s at) content)) h in
      let q = or-false (not (eqb (children_at s at) 0)) (not (eqb (content_at s at) content)) p.1 in
      omega (arith, chunk_whole p.0, agreed (content_at s at) content q.1)
