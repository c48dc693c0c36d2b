pub mod ReadLaws  -- the part between two starting places is the runs between
pub mod SlabLaws  -- the shots of a slab are those in the runs of its grid cells
pub mod MarkLaws  -- which places are marked
pub mod PickLaws  -- the numbers that pass a test, put to the front
