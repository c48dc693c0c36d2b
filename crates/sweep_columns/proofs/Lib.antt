pub mod CornerLaws  -- the corners of a column, one after the other
pub mod Visits  -- places visited one after the other by the set bits of a word
pub mod Takes  -- the room that corners take
pub mod Joins  -- lists one after the other
