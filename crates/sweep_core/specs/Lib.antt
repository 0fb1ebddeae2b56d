pub mod Accounts
pub mod Sweeps
pub mod Counted
pub mod Tables
pub mod Saving
pub mod Resting
pub mod Carries
