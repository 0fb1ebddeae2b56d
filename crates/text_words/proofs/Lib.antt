pub mod Searches
pub mod Pieces
pub mod Standing
