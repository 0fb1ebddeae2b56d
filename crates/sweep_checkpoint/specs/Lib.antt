pub mod Points
pub mod Rules
pub mod Gated
pub mod Saves
pub mod Loads
pub mod Retires
pub mod Going
pub mod Stops
