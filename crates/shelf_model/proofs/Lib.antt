pub mod Numbers
pub mod Maps
pub mod Files
pub mod Images
pub mod Lives
pub mod Runs
pub mod Changing
