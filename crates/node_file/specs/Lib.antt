pub mod Canonical
pub mod Changes
pub mod Nodes
pub mod Readers
pub mod Writers
