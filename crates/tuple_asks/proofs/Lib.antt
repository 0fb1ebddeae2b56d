pub mod ItemForms
pub mod MemberLaws
pub mod SoundAsks
pub mod StartLeaves
pub mod StartKeeps
pub mod Staying
pub mod OperandReading
pub mod OperandNext
pub mod ResumeReading
mod MachineWords
mod NamedRuns
