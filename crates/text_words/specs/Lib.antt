pub mod Text
pub mod Left
pub mod Places
