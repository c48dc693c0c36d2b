pub mod BlockLaws  -- the blocks of a part, one after another, are all of its text
pub mod TextLaws  -- the lines of corners one after another, and their numbers in decimal
