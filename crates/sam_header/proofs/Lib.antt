pub mod Clear
pub mod Fewer
