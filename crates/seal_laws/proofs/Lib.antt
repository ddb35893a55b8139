pub mod Sealed
pub mod Example
