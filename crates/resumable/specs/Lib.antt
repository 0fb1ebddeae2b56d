pub mod Diagrams
pub mod Answers
pub mod Points
pub mod Kinds
pub mod Resumable
