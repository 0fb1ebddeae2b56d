pub mod Command
pub mod Numbers
pub mod Readings
pub mod Views
