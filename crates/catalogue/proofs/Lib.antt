pub mod Fields
pub mod Counted
pub mod Waiting
pub mod Committed
pub mod Places
pub mod Budget
mod Shared
pub mod Stored
pub mod Synced
mod Resumed
mod Looked
pub mod Laws
