pub mod Taking  -- the ways to take a record
pub mod ShortestMap  -- no field is needless exactly if the map is the shortest record's
pub mod Parts  -- a record taken apart
pub mod Putting  -- the shortest record, written field by field
