mod Flat
mod Parts
mod Saved
mod Loaded
mod Dropped
pub mod PointTurns
pub mod AsBefore
mod Standing
mod SavedHere
mod LeftAlone
mod WentOn
mod Spent
pub mod Shown
pub mod Stops
