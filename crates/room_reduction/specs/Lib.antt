pub mod Records
pub mod Reading
pub mod Complements
pub mod Sources
pub mod Index
pub mod Filling
pub mod Levels
