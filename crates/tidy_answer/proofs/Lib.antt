pub mod Refusal
pub mod ProgramOutput
pub mod Example
