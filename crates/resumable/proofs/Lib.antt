mod OnePoint
pub mod MadeFronts
pub mod Continuing
pub mod Rests
pub mod DiagramPoints
pub mod AnswerPoints
pub mod Resting
pub mod StepPoints
pub mod Makings
pub mod Works
mod Reached
