pub mod Records
pub mod Numbers
