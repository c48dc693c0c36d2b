-- The refusals of docs/SCOPE.md, 'When a job is refused', in words: one sentence each, of at most 64 bytes.
use Rattle.std.specs.Prelude.{List, ℕ}
use Rattle.text_parts.specs.Text.{text}
use Rattle.refusals.specs.declared.Refusal.{Refusal}
use Rattle.refusals.specs.declared.Refusal.TheVariants.{BrokenShot, TooManyShots, NoPlace, UnknownBit, CutShort, FieldRange, EdgeRange, GridRange, OutsideField, ShortWork, ShortListing, ShortFile, NotVox, BrokenChunk, VoxelRange, ShortCredits, NeedlessField, InvalidTable}

unfoldable pub sentence : Refusal → List ℕ
sentence BrokenShot = text "the coordinates' count is not a multiple of three"
sentence (TooManyShots at) = text "there are more than 4,096 shots"
sentence (NoPlace at) = text "no three places are left for this shot"
sentence (UnknownBit at) = text "this map has a bit that has no meaning"
sentence (CutShort at) = text "the file ends before a field of this map, or is empty"
sentence FieldRange = text "the field side is not 1 to 1,024"
sentence EdgeRange = text "the shot edge is not 1 to the field side"
sentence GridRange = text "the grid size is not 1 to 64, or does not divide the field side"
sentence (OutsideField shot) = text "a shot leaves the field"
sentence (ShortWork entries) = text "the work slice is too short for the grid index"
sentence (ShortListing corners) = text "the listing buffer is shorter than 7 bytes a corner"
sentence (ShortFile bytes) = text "the byte buffer is shorter than the file"
sentence (NotVox at) = text "no VOX mark of version 150, or not the chunk required here"
sentence (BrokenChunk at) = text "this chunk is cut short, or a size of it does not match"
sentence (VoxelRange at) = text "a side is not 1 to 256, or a voxel is outside or has colour 0"
sentence (ShortCredits shots) = text "the credit slice has fewer places than there are shots"
sentence (NeedlessField at) = text "a field of this map says what its absence would mean"
sentence (InvalidTable band) = text "a price table has a faulty band, no top, or more than 64 bands"
