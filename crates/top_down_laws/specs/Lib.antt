pub mod Forms
pub mod Readings
pub mod Remains
pub mod Laws
pub mod Operations
pub mod Turns
