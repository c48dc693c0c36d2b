pub mod Carving
