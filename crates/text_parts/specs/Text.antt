-- Text as bytes: the list of its characters' codes. Every text of the specifications is of ASCII characters, a byte each.
use Rattle.std.specs.Prelude.{List, [], ◌∷◌, ℕ}
use Prim.Native.Char.{code}
use Prim.Native.String.{String, [] as none, ◌∷◌ as ◌before◌}

abbrev pub text : String → List ℕ
text none = []
text (c before s) = code c ∷ text s
