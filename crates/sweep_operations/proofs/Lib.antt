pub mod StepWords
