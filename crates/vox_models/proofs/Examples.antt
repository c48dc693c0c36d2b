-- Small files, by computation: what stands before the first XYZI, at 44, does not matter here.
use mathlib.Core.Bool.{true, false}
use mathlib.Core.Path.{◌≡◌, refl}
use mathlib.Core.List.{List, [], ◌∷◌, ◌++◌}
use Prim.Native.Nat.{ℕ}
use Prim.Native.String.{String}
use lib.ListN.{replicate}
use Rattle.text_same.specs.Same.{same}
use Rattle.text_parts.specs.Text.{text}
use Rattle.vox_chunks.specs.Chunks.{number_at, stands}
use Rattle.vox_models.specs.Models.{model_within, further_model}

-- the head of a chunk, with sizes below 256
abbrev head : String → ℕ → ℕ → List ℕ
head name content children = text name ++ (content ∷ 0 ∷ 0 ∷ 0 ∷ children ∷ 0 ∷ 0 ∷ 0 ∷ [])

-- a file with these bytes after a first XYZI of two bytes
abbrev after : List ℕ → List ℕ
after rest = replicate 44 0 ++ (head "XYZI" 2 0 ++ (1 ∷ 2 ∷ rest))

-- a further XYZI at a chunk's place, after another chunk too; not one that the file ends in, nor the name in a chunk's content or children
pub known-models :
    (further_model [] ≡ false)
    × (further_model (after []) ≡ false)
    × (further_model (after (head "XYZI" 0 0)) ≡ true)
    × (further_model (after (head "note" 1 0 ++ (7 ∷ head "XYZI" 0 0))) ≡ true)
    × (further_model (after (head "XYZI" 1 0)) ≡ false)
    × (further_model (after (head "note" 12 0 ++ head "XYZI" 0 0)) ≡ false)
    × (further_model (after (head "note" 0 12 ++ head "XYZI" 0 0)) ≡ false)
unfolding model_within number_at stands same
known-models = (refl, refl, refl, refl, refl, refl, refl)
