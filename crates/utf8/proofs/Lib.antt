pub mod Step
pub mod Rows
pub mod Shown
