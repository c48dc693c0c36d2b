pub mod CornerSums
