pub mod MeasuredSteps
pub mod MeasuredSizes
pub mod NextLine
pub mod Split
pub mod Begun
pub mod Steps
