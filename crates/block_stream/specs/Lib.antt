pub mod Records
pub mod Reads
pub mod Items
pub mod Forwards
pub mod Backwards
pub mod Writes
pub mod Appenders
