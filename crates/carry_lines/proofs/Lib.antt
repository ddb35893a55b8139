pub mod Kept
pub mod Ids
pub mod Going
