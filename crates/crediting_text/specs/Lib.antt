pub mod Credited
