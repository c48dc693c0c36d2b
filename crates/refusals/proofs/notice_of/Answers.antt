-- What is told of each refusal: its number, its detail, and where it is met.
use borrow.Author.Rules.{rules}
use Rattle.refusals.proofs.notice_of.Goals as goal

pub returns-in-BrokenShot : goal.returns-in-BrokenShot
returns-in-BrokenShot c = record { number = search rules; detail = search rules; met = search rules }

pub returns-in-TooManyShots : goal.returns-in-TooManyShots
returns-in-TooManyShots c = record { number = search rules; detail = search rules; met = search rules }

pub returns-in-NoPlace : goal.returns-in-NoPlace
returns-in-NoPlace c = record { number = search rules; detail = search rules; met = search rules }

pub returns-in-UnknownBit : goal.returns-in-UnknownBit
returns-in-UnknownBit c = record { number = search rules; detail = search rules; met = search rules }

pub returns-in-CutShort : goal.returns-in-CutShort
returns-in-CutShort c = record { number = search rules; detail = search rules; met = search rules }

pub returns-in-FieldRange : goal.returns-in-FieldRange
returns-in-FieldRange c = record { number = search rules; detail = search rules; met = search rules }

pub returns-in-EdgeRange : goal.returns-in-EdgeRange
returns-in-EdgeRange c = record { number = search rules; detail = search rules; met = search rules }

pub returns-in-GridRange : goal.returns-in-GridRange
returns-in-GridRange c = record { number = search rules; detail = search rules; met = search rules }

pub returns-in-OutsideField : goal.returns-in-OutsideField
returns-in-OutsideField c = record { number = search rules; detail = search rules; met = search rules }

pub returns-in-ShortWork : goal.returns-in-ShortWork
returns-in-ShortWork c = record { number = search rules; detail = search rules; met = search rules }

pub returns-in-ShortListing : goal.returns-in-ShortListing
returns-in-ShortListing c = record { number = search rules; detail = search rules; met = search rules }

pub returns-in-ShortFile : goal.returns-in-ShortFile
returns-in-ShortFile c = record { number = search rules; detail = search rules; met = search rules }

pub returns-in-NotVox : goal.returns-in-NotVox
returns-in-NotVox c = record { number = search rules; detail = search rules; met = search rules }

pub returns-in-BrokenChunk : goal.returns-in-BrokenChunk
returns-in-BrokenChunk c = record { number = search rules; detail = search rules; met = search rules }

pub returns-in-VoxelRange : goal.returns-in-VoxelRange
returns-in-VoxelRange c = record { number = search rules; detail = search rules; met = search rules }

pub returns-in-ShortCredits : goal.returns-in-ShortCredits
returns-in-ShortCredits c = record { number = search rules; detail = search rules; met = search rules }

pub returns-in-NeedlessField : goal.returns-in-NeedlessField
returns-in-NeedlessField c = record { number = search rules; detail = search rules; met = search rules }

pub returns-in-InvalidTable : goal.returns-in-InvalidTable
returns-in-InvalidTable c = record { number = search rules; detail = search rules; met = search rules }
