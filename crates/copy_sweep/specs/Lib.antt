pub mod Saved
pub mod Resumes
pub mod Copies
