pub mod Deep
pub mod Noting
