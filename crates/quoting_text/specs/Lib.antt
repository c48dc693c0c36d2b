pub mod Quoting
pub mod Answered
