pub mod Stores
pub mod Run
