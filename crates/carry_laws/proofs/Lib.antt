pub mod Judged
pub mod Keys
pub mod Skips
pub mod Kept
pub mod Faithful
pub mod Count
pub mod Bound
