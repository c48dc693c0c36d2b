pub mod EdgeLaws  -- the count of a unit edge and the corner test, by all 256 patterns
