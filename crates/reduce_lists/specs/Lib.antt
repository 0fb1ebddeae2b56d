pub mod Held
pub mod Contents
pub mod AtWork
pub mod Damage
pub mod Changes
