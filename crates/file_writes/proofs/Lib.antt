pub mod Sure
pub mod Written
