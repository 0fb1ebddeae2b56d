pub mod MemberLaws
pub mod PieceLaws
pub mod RowLaws
pub mod ConstDiagram
pub mod VarDiagram
pub mod FileLaws
pub mod CanonLaws
pub mod LevelLaws
mod SearchLaws
mod PartLaws
pub mod ByteLaws
pub mod WalkLaws
pub mod StandLaws
mod Worked
