pub mod Steps
pub mod SayingLaws
mod Saying
mod Loops
mod Listed
