pub mod Quotients
pub mod Grid
pub mod HoldsOnce
