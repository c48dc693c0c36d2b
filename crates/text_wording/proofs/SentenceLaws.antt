-- How long the sentences are.
use Prim.Native.Nat.{◌≤◌}
use native.Mathlib.Omega.{arith}
use lib.ListN.{length}
use Rattle.refusals.specs.declared.Refusal.{Refusal}
use Rattle.refusals.specs.declared.Refusal.TheVariants.{BrokenShot, TooManyShots, NoPlace, UnknownBit, CutShort, FieldRange, EdgeRange, GridRange, OutsideField, ShortWork, ShortListing, ShortFile, NotVox, BrokenChunk, VoxelRange, ShortCredits, NeedlessField, InvalidTable}
use Rattle.text_wording.specs.Sentences.{sentence}

pub sentence-length : (r : Refusal) → length (sentence r) ≤ 64
unfolding sentence
sentence-length BrokenShot = omega arith
sentence-length (TooManyShots at) = omega arith
sentence-length (NoPlace at) = omega arith
sentence-length (UnknownBit at) = omega arith
sentence-length (CutShort at) = omega arith
sentence-length FieldRange = omega arith
sentence-length EdgeRange = omega arith
sentence-length GridRange = omega arith
sentence-length (OutsideField shot) = omega arith
sentence-length (ShortWork entries) = omega arith
sentence-length (ShortListing corners) = omega arith
sentence-length (ShortFile bytes) = omega arith
sentence-length (NotVox at) = omega arith
sentence-length (BrokenChunk at) = omega arith
sentence-length (VoxelRange at) = omega arith
sentence-length (ShortCredits shots) = omega arith
sentence-length (NeedlessField at) = omega arith
sentence-length (InvalidTable band) = omega arith
