pub mod Printed  -- printed text reads back
pub mod Saying  -- what a line says, by its words
pub mod Cutting  -- a text cut at newlines, a line at blanks
pub mod Numbers  -- the digits of a number
