pub mod Lax
pub mod Finds
pub mod MetKeys
pub mod Noting
