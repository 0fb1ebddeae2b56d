pub mod Operands
pub mod Pairs
pub mod Ways
