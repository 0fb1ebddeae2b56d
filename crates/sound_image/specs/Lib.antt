pub mod Files
pub mod Jobs
pub mod Entries
pub mod Sound
pub mod Holds
pub mod Steps
pub mod Waiting
