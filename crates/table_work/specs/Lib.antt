pub mod Given
pub mod Works
pub mod Jobs
pub mod Tables
pub mod TableSaving
