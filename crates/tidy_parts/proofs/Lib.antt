pub mod Wrote
pub mod Sizes
