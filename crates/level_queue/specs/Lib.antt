pub mod Queues
pub mod Records
pub mod Tables
pub mod Shown
