pub mod Commands
pub mod Digits
pub mod GivenReads
