pub mod Covers
pub mod Drafts
pub mod Plan
pub mod Values
pub mod WellFormed
pub mod Blank
pub mod Planners
