pub mod Vox
pub mod Conditions
pub mod FileOrder
