pub mod Faults
pub mod Listing
pub mod Saying
pub mod Lists
