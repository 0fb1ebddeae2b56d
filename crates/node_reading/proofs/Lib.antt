pub mod NodeReading
pub mod Staying
pub mod Roots
pub mod Spent
pub mod Wholes
pub mod MissingLaws
