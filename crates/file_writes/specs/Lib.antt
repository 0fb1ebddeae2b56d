pub mod Present
pub mod Writes
