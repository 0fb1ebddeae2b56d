pub mod Graph
pub mod Walk
pub mod Search
pub mod Views
pub mod Tables
pub mod Rest
pub mod Jumps
pub mod Walkers
