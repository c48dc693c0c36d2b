pub mod Conditions  -- each refusal is given exactly where it should be
pub mod Accepted  -- what an answer says of the list and the buffer
pub mod Writing  -- the records one by one, and the ways out of `write`
