pub mod Tuples
pub mod Rules
pub mod Asks
pub mod Operations
pub mod Laws
pub mod Verdicts
