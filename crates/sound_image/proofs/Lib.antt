pub mod Numbers
pub mod Resuming
pub mod HoldsLaws
pub mod Live
pub mod StepLaws
pub mod AttachLaws
pub mod EntryLaws
pub mod Waiting
