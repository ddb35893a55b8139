pub mod Bools
pub mod Pairs
