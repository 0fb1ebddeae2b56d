pub mod Tuples
pub mod Works
pub mod Plans
