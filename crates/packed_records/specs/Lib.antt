pub mod Numbers
pub mod Packed
