pub mod Growth
pub mod Columns
pub mod Planning
mod Tables
mod Blocks
mod Unique
mod Existence
mod Visits
pub mod Meanings
pub mod Follows
mod Lives
mod Distinct
pub mod GoingOn
mod Planned
