-- What is told of each refusal: docs/SCOPE.md, 'When a job is refused'.
use Rattle.std.specs.Prelude.{ℕ, Result, Ok, Err}
use Rattle.refusals.specs.declared.Place.TheVariants.{Byte, Shot, Nowhere}
use Rattle.refusals.specs.declared.Notice.{Notice}
use Rattle.refusals.specs.declared.Refusal.{Refusal}
use Rattle.refusals.specs.declared.Refusal.TheVariants.{BrokenShot, TooManyShots, NoPlace, UnknownBit, CutShort, FieldRange, EdgeRange, GridRange, OutsideField, ShortWork, ShortListing, ShortFile, NotVox, BrokenChunk, VoxelRange, ShortCredits, NeedlessField, InvalidTable}

-- its number; its detail, which is the place in the file for a reader, the first shot outside, what would be long enough, or the band where a
-- price table fails, and 0 otherwise;
-- and where it is met, at a byte of a file or at a shot of the list, which its detail names, or nowhere in particular
abbrev pub notice_of : Refusal → Notice
notice_of BrokenShot = record { number = 1; detail = 0; met = Nowhere }
notice_of (TooManyShots at) = record { number = 2; detail = at; met = Byte }
notice_of (NoPlace at) = record { number = 3; detail = at; met = Byte }
notice_of (UnknownBit at) = record { number = 4; detail = at; met = Byte }
notice_of (CutShort at) = record { number = 5; detail = at; met = Byte }
notice_of FieldRange = record { number = 6; detail = 0; met = Nowhere }
notice_of EdgeRange = record { number = 7; detail = 0; met = Nowhere }
notice_of GridRange = record { number = 8; detail = 0; met = Nowhere }
notice_of (OutsideField shot) = record { number = 9; detail = shot; met = Shot }
notice_of (ShortWork entries) = record { number = 10; detail = entries; met = Nowhere }
notice_of (ShortListing corners) = record { number = 11; detail = corners; met = Nowhere }
notice_of (ShortFile bytes) = record { number = 12; detail = bytes; met = Nowhere }
notice_of (NotVox at) = record { number = 13; detail = at; met = Byte }
notice_of (BrokenChunk at) = record { number = 14; detail = at; met = Byte }
notice_of (VoxelRange at) = record { number = 15; detail = at; met = Byte }
notice_of (ShortCredits shots) = record { number = 16; detail = shots; met = Nowhere }
notice_of (NeedlessField at) = record { number = 17; detail = at; met = Byte }
notice_of (InvalidTable band) = record { number = 18; detail = band; met = Nowhere }

-- the number alone, and the detail alone
abbrev pub number_of : Refusal → ℕ
number_of r = (notice_of r).number

abbrev pub detail_of : Refusal → ℕ
detail_of r = (notice_of r).detail

-- what a check answers: that a list is accepted, or why it is refused
abbrev pub Checked : Type 0
Checked = Result (Unit {0}) Refusal

-- the numbers that a check answers: 0 and 0 where the list is accepted, else the refusal's number and its detail
pub record Numbers : Type 0 where
  pub number : ℕ
  pub detail : ℕ

unfoldable pub checked_numbers : Checked → Numbers
checked_numbers (Ok tt) = record { number = 0; detail = 0 }
checked_numbers (Err r) = record { number = number_of r; detail = detail_of r }
