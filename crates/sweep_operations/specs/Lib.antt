pub mod Rules
pub mod Deepening
pub mod Operations
pub mod Spellings
pub mod OperationWords
