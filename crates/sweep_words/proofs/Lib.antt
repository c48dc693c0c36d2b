pub mod PointLaws  -- the points of four words: corners and patterns
pub mod LowestLaws  -- the lowest set bit of a word
pub mod MaskLaws  -- words whose set bits are a run
pub mod BitLaws  -- the bits of a word by their places
