pub mod Credits
pub mod LeavingOut
pub mod GridBlocks
