pub mod Halves
mod PlanSteps
mod Powers
pub mod StepHalves
pub mod TableSteps
mod Worked
