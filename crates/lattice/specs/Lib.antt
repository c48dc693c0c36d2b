pub mod Cells
pub mod Pattern
pub mod Figures
pub mod Listing
pub mod Shots
pub mod Axes
pub mod Boxes
