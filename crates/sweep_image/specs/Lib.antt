pub mod Images
pub mod Changes
pub mod Rects
