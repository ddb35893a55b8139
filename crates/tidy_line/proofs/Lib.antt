pub mod Texts
pub mod Sizes
pub mod Heads
pub mod Plain
pub mod Neat
pub mod Ready
pub mod Whole
pub mod Once
