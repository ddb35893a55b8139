-- Words for contracts and laws, and nothing to believe.
pub mod Judged
pub mod Blocks
pub mod Parsed
pub mod Busy
