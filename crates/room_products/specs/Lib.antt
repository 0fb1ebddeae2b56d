pub mod Goals
pub mod Operands
pub mod Level
pub mod Slots
pub mod Joining
pub mod Joined
