pub mod Standing
pub mod Found
pub mod Lost
