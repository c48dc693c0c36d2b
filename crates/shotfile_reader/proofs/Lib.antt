pub mod Conditions  -- each refusal is given exactly where it should be
pub mod Accepted  -- what an answer says of the file and the slice
pub mod Faults  -- the first faulty record
pub mod Needless  -- a needless field, as a test and in numbers
pub mod FileParts  -- a file that was read, taken apart
pub mod ShotsRead  -- the shots that a file has
pub mod Steps  -- one step, and the count of the shots
pub mod Storing  -- the stores, one shot a turn
pub mod Reading  -- the ways out of `read`
pub mod Coords  -- coordinates shot by shot
