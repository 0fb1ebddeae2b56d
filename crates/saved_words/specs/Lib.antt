pub mod Places
pub mod Singles
pub mod Joined
pub mod Items
pub mod Fronts
