pub mod FirstRecords
mod FirstPlaces
mod ReadPieces
pub mod FillingLaws
pub mod FilledLaws
mod RowOrder
mod Numbering
mod Naming
pub mod PackedSources
pub mod LevelSources
mod LevelSteps
mod PackedNodes
mod FewerCalls
mod RoomFile
mod ComplementLaws
pub mod ComplementSources
