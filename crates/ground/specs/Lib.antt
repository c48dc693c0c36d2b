pub mod Sums
pub mod Numbers
pub mod FirstPlace
