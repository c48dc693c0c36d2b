pub mod Job
pub mod Checking
pub mod Conditions
pub mod ValidOnce
