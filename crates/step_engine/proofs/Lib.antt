mod Written
mod Resuming
mod JobPaid
mod Told
mod Stops
mod Went
mod RunFaults
mod Found
mod GivenUp
pub mod Gated
pub mod PlanLaws
mod TableLaws
pub mod EntryLaws
mod Operands
mod Runs
mod Questions
mod OneTurn
mod AtOnce
pub mod Cutting
mod Emptying
