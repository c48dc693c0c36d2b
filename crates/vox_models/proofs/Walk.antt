-- Chunk after chunk up to a model, one way out after the other. Assumes nothing.
use mathlib.Core.Path.{◌≡◌, refl, ap, ◌∙◌}
use mathlib.Core.Bool.{Bool, true, false, not, ◌&&◌, ◌||◌}
use mathlib.Core.List.{List}
use Prim.Native.Nat.{ℕ, zero, suc, ◌-◌, ◌+◌, ◌≤◌, ◌<◌}
use native.Mathlib.Omega.{arith}
use lib.ListN.{length}
use borrow.Author.Tests.{lt-ltb}
use Rattle.text_parts.specs.Text.{text}
use Rattle.vox_chunks.specs.Chunks.{stands, after_chunk, overruns}
use Rattle.vox_models.specs.Models.{model_within, model_from}

module _ (s : List ℕ) where
  -- past the end no chunk is whole
  past_end : (at : ℕ) → length s ≤ at → overruns s at ≡ true
  past_end at h = lt-ltb (length s) (after_chunk s at) (omega arith)

  -- where a chunk is not whole, no model follows
  none : (most at : ℕ) → overruns s at ≡ true → false ≡ model_within most s at
  unfolding model_within
  none zero at e = refl
  none (suc most) at e = rw e

  -- as many as there are bytes are enough
  enough : (m n at : ℕ) → length s ≤ at + m → length s ≤ at + n → model_within m s at ≡ model_within n s at
  unfolding model_within
  enough zero zero at h k = refl
  enough zero (suc n) at h k = rw (past_end at (omega arith))
  enough (suc m) zero at h k = rw (past_end at (omega arith))
  enough (suc m) (suc n) at h k = ap (λ (b : Bool). not (overruns s at) && (stands s at (text "XYZI") || b)) (enough m n (after_chunk s at) (omega arith) (omega arith))

  module _ (at : ℕ) where
    pub model-none : overruns s at ≡ true → false ≡ model_from s at
    model-none e = none (length s) at e

    pub model-end : length s ≤ at → false ≡ model_from s at
    model-end h = model-none (past_end at h)

    module _ (h : at < length s) (whole : overruns s at ≡ false) where
      one_byte : suc (length s - 1) ≡ length s
      one_byte = omega arith

      here : (most : ℕ) → stands s at (text "XYZI") ≡ true → true ≡ model_within (suc most) s at
      unfolding model_within
      here most e = rw (whole, e)

      next : (most : ℕ) → stands s at (text "XYZI") ≡ false → model_within most s (after_chunk s at) ≡ model_within (suc most) s at
      unfolding model_within
      next most e = rw (whole, e)

      pub model-here : stands s at (text "XYZI") ≡ true → true ≡ model_from s at
      model-here e = here (length s - 1) e ∙ ap (λ m. model_within m s at) one_byte

      pub model-next : stands s at (text "XYZI") ≡ false → model_from s (after_chunk s at) ≡ model_from s at
      model-next e =
          enough (length s) (length s - 1) (after_chunk s at) (omega arith) (omega arith)
          ∙ next (length s - 1) e
          ∙ ap (λ m. model_within m s at) one_byte
