-- Words for contracts and laws, and nothing to believe.
pub mod Line
pub mod Texts
pub mod Heads
