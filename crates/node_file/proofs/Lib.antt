mod TrailerLaws
mod NodeLaws
pub mod SkipLaws
mod SkipLoads
pub mod FileLaws
mod CanonFiles
pub mod HeldNodes
pub mod FileChanges
pub mod PieceRuns
