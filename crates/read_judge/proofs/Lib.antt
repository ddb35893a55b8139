pub mod Busy
pub mod Judging
pub mod Once
pub mod Parsing
pub mod Blocks
pub mod Whole
