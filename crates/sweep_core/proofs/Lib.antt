pub mod Counting
pub mod Leaving
pub mod Untaken
pub mod Carrying
