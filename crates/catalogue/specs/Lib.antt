pub mod Files
pub mod Counts
pub mod Entries
pub mod Faults
pub mod Commits
pub mod Standings
