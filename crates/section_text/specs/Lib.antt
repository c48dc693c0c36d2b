pub mod CornerLines
