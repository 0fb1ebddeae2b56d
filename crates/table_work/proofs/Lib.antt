mod CanonicalWork
pub mod Sources
mod Starting
pub mod Turns
pub mod Workings
pub mod TableResumes
