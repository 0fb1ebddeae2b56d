mod Parts
mod Secured
mod Emptied
pub mod Deciding
pub mod Gated
pub mod Safe
pub mod Kept
pub mod GoneOn
pub mod Telling
pub mod LastFound
pub mod GivenUp
pub mod Shown
