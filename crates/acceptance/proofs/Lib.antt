pub mod Condition1  -- what the calls answer and leave
pub mod Condition2  -- cell counts and round trips
pub mod Condition3  -- agreement, listings, two lists
pub mod GridLaws  -- the default grid, and two grids
pub mod CoverTest  -- the first covering shot of a run, the lowest of a list
pub mod Requests  -- voxels, credits, lengths
pub mod SectionLaws  -- the part of a listing at one x, and what a reader meets in it
pub mod SectionParts  -- the parts of one x after another
pub mod ShortestFiles  -- only the shortest file, and two files
pub mod PriceSentences  -- price bands: the check, the lookup and the price call
pub mod Numbers  -- sizes of numbers
pub mod AnsweredLaws  -- what `ok` keeps of an answer
