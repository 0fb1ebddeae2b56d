mod Tests
mod Formed
mod Numbers
mod Seconds
mod Few
mod Behind
mod NamedSteps
mod MadeSteps
mod Stands
mod Pairs
mod NetLines
pub mod Kept
pub mod PlanReads
mod Sound
mod Finding
mod Levels
mod PlanTables
mod Appends
mod FirstWords
mod SignalLines
mod Fronts
mod MadeSignals
