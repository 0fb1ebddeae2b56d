pub mod KeptSlots
pub mod AnsweredPairs
pub mod SourceRows
pub mod DiagramLaws
pub mod FirstSlot
mod AddedSlots
mod CheckLaws
mod SideLaws
mod SlotJoining
mod MarkedLevels
mod OperandNodes
mod JoinedFile
mod FrontSources
mod JoinRuns
