pub mod Ids
pub mod Search
