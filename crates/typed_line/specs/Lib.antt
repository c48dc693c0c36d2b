pub mod Words
pub mod Entries
pub mod Cursors
