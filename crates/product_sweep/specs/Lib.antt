pub mod Products
pub mod Implications
pub mod Trusting
pub mod LeqPhases
pub mod LeqSaving
