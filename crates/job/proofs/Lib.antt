pub mod Conditions  -- when the checks refuse a list, each exactly, and that an accepted list is valid
pub mod Answers  -- what the checks answer, one way out after the other
pub mod Shots  -- the shots of a coordinate list, by number
pub mod Storing  -- a shot stored into a coordinate slice
pub mod Tests  -- what tests of numbers say
